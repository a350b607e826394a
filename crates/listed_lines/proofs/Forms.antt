-- The fields of an owner, of a package and of the three lines, one after the other.
use Prim.Native.Nat.{ℕ, ◌+◌, ◌<◌, ◌≤◌}
use mathlib.Core.Path.{◌≡◌, refl, ◌∙◌}
use mathlib.Core.Bool.{Bool}
use mathlib.Core.List.{List, []}
use mathlib.Core.Option.{Option, none, some}
use lib.ListN.{length}
use Rattle.ident.specs.Number.{Key, Item}
use Rattle.machine.specs.State.{Owner, Package}
use Rattle.machine.specs.Fields.{number_of, bool_of, hash_of, fields, rest, taking}
use Rattle.machine.specs.Listing.{HeadLine, RequestLine, CandidateLine, short, key_in, item_in, maybe_in, none_or, list_then, owner_then, package_then, head_of, request_of, request_with, candidate_of}
use Rattle.reading.specs.Given.{At}
use Rattle.listed_lines.specs.Given.{Took, longest_list}
use Rattle.reading.proofs.Taking.{ending_end, ending_more}
use Rattle.listed_lines.proofs.Taking.{pass, stop}
use Rattle.listed_lines.proofs.Missing.{NotEmpty}

-- ---- owner

pub owner-empty : NotEmpty owner_then
unfolding owner_then taking
owner-empty = record { is = λ k. refl }

module _ {l : List ℕ} {fs : List (List ℕ)} {o : Option (At ℕ)} (p : Took (taking number_of) l fs o) where
  pub no-connection : o ≡ none → Took owner_then l fs none
  unfolding owner_then
  no-connection g = record { is = λ k. stop p _ g }

  module _ {a : At ℕ} (g : o ≡ some a) {o₂ : Option (At ℕ)} (q : Took (taking number_of) l (rest l (a.end + 1)) o₂) where
    pub no-deadline : o₂ ≡ none → Took owner_then l fs none
    unfolding owner_then
    no-deadline h = record { is = λ k. pass p _ g ∙ stop q _ h }

    pub owner-is : {b : At ℕ} → o₂ ≡ some b → Took owner_then l fs (some (record { value = record { connection = a.value; deadline = b.value }; end = b.end }))
    unfolding owner_then
    owner-is h = record { is = λ k. pass p _ g ∙ pass q _ h }

-- ---- package

pub package-empty : NotEmpty (package_then short)
unfolding package_then taking
package-empty = record { is = λ k. refl }

module _ {l : List ℕ} {fs : List (List ℕ)} {o : Option (At ℕ)} (p : Took (taking hash_of) l fs o) where
  pub no-combined : o ≡ none → Took (package_then short) l fs none
  unfolding package_then
  no-combined g = record { is = λ k. stop p _ g }

  module _ {a : At ℕ} (g : o ≡ some a) {o₂ : Option (At (List ℕ))} (q : Took (list_then short 1 longest_list) l (rest l (a.end + 1)) o₂) where
    pub no-wtxids : o₂ ≡ none → Took (package_then short) l fs none
    unfolding package_then
    no-wtxids h = record { is = λ k. pass p _ g ∙ stop q _ h }

    module _ {b : At (List ℕ)} (h : o₂ ≡ some b) {o₃ : Option (At Bool)} (r : Took (taking bool_of) l (rest l (b.end + 1)) o₃) where
      pub no-stage : o₃ ≡ none → Took (package_then short) l fs none
      unfolding package_then
      no-stage i = record { is = λ k. pass p _ g ∙ pass q _ h ∙ stop r _ i }

      pub package_is : {c : At Bool} → o₃ ≡ some c → Took (package_then short) l fs (some (record { value = record { combined = a.value; wtxids = b.value; enqueued = c.value }; end = c.end }))
      unfolding package_then
      package_is i = record { is = λ k. pass p _ g ∙ pass q _ h ∙ pass r _ i }

-- ---- the first line

module _ {l : List ℕ} {o₁ : Option (At ℕ)} (p₁ : Took (taking number_of) l (fields l) o₁) where
  pub head_1 : o₁ ≡ none → head_of short (fields l) ≡ none
  unfolding head_of
  head_1 h = stop p₁ _ h

  module _ {a₁ : At ℕ} (g₁ : o₁ ≡ some a₁) {o₂ : Option (At ℕ)} (p₂ : Took (taking number_of) l (rest l (a₁.end + 1)) o₂) where
    pub head_2 : o₂ ≡ none → head_of short (fields l) ≡ none
    unfolding head_of
    head_2 h = pass p₁ _ g₁ ∙ stop p₂ _ h

    module _ {a₂ : At ℕ} (g₂ : o₂ ≡ some a₂) {o₃ : Option (At (Option ℕ))} (p₃ : Took (taking (maybe_in number_of)) l (rest l (a₂.end + 1)) o₃) where
      pub head_3 : o₃ ≡ none → head_of short (fields l) ≡ none
      unfolding head_of
      head_3 h = pass p₁ _ g₁ ∙ pass p₂ _ g₂ ∙ stop p₃ _ h

      module _ {a₃ : At (Option ℕ)} (g₃ : o₃ ≡ some a₃) {o₄ : Option (At (Option Key))} (p₄ : Took (taking (maybe_in (key_in short))) l (rest l (a₃.end + 1)) o₄) where
        pub head_4 : o₄ ≡ none → head_of short (fields l) ≡ none
        unfolding head_of
        head_4 h = pass p₁ _ g₁ ∙ pass p₂ _ g₂ ∙ pass p₃ _ g₃ ∙ stop p₄ _ h

        module _ {a₄ : At (Option Key)} (g₄ : o₄ ≡ some a₄) {o₅ : Option (At (Option Key))} (p₅ : Took (taking (maybe_in (key_in short))) l (rest l (a₄.end + 1)) o₅) where
          pub head_5 : o₅ ≡ none → head_of short (fields l) ≡ none
          unfolding head_of
          head_5 h = pass p₁ _ g₁ ∙ pass p₂ _ g₂ ∙ pass p₃ _ g₃ ∙ pass p₄ _ g₄ ∙ stop p₅ _ h

          module _ {a₅ : At (Option Key)} (g₅ : o₅ ≡ some a₅) where
            pub head_more : a₅.end < length l → head_of short (fields l) ≡ none
            unfolding head_of
            head_more h = pass p₁ _ g₁ ∙ pass p₂ _ g₂ ∙ pass p₃ _ g₃ ∙ pass p₄ _ g₄ ∙ pass p₅ _ g₅ ∙ ending_more l a₅.end _ h

            pub head_is : length l ≤ a₅.end → head_of short (fields l)
                ≡ some (HeadLine (record { limit = a₁.value; places = a₂.value; table = []; next_poll = a₃.value; known_cursor = a₄.value; ready_cursor = a₅.value }))
            unfolding head_of
            head_is h = pass p₁ _ g₁ ∙ pass p₂ _ g₂ ∙ pass p₃ _ g₃ ∙ pass p₄ _ g₄ ∙ pass p₅ _ g₅ ∙ ending_end l a₅.end _ h

-- ---- a request's line

module _ {l : List ℕ} {o₁ : Option (At Key)} (p₁ : Took (taking (key_in short)) l (fields l) o₁) where
  pub request_1 : o₁ ≡ none → request_of short (fields l) ≡ none
  unfolding request_of
  request_1 h = stop p₁ _ h

  module _ {a₁ : At Key} (g₁ : o₁ ≡ some a₁) {o₂ : Option (At (Option Owner))} (p₂ : Took (none_or owner_then) l (rest l (a₁.end + 1)) o₂) where
    pub request_2 : o₂ ≡ none → request_of short (fields l) ≡ none
    unfolding request_of
    request_2 h = pass p₁ _ g₁ ∙ stop p₂ _ h

    module _ {a₂ : At (Option Owner)} (g₂ : o₂ ≡ some a₂) {o₃ : Option (At Bool)} (p₃ : Took (taking bool_of) l (rest l (a₂.end + 1)) o₃) where
      pub request_3 : o₃ ≡ none → request_of short (fields l) ≡ none
      unfolding request_of
      request_3 h = pass p₁ _ g₁ ∙ pass p₂ _ g₂ ∙ stop p₃ _ h

      module _ {a₃ : At Bool} (g₃ : o₃ ≡ some a₃) {o₄ : Option (At (Option Package))} (p₄ : Took (none_or (package_then short)) l (rest l (a₃.end + 1)) o₄) where
        pub request_4 : o₄ ≡ none → request_of short (fields l) ≡ none
        unfolding request_of
        request_4 h = pass p₁ _ g₁ ∙ pass p₂ _ g₂ ∙ pass p₃ _ g₃ ∙ stop p₄ _ h

        module _ {a₄ : At (Option Package)} (g₄ : o₄ ≡ some a₄) {o₅ : Option (At (List ℕ))} (p₅ : Took (list_then short 0 longest_list) l (rest l (a₄.end + 1)) o₅) where
          pub request_5 : o₅ ≡ none → request_of short (fields l) ≡ none
          unfolding request_of
          request_5 h = pass p₁ _ g₁ ∙ pass p₂ _ g₂ ∙ pass p₃ _ g₃ ∙ pass p₄ _ g₄ ∙ stop p₅ _ h

          module _ {a₅ : At (List ℕ)} (g₅ : o₅ ≡ some a₅) {o₆ : Option (At Bool)} (p₆ : Took (taking bool_of) l (rest l (a₅.end + 1)) o₆) where
            pub request_6 : o₆ ≡ none → request_of short (fields l) ≡ none
            unfolding request_of
            request_6 h = pass p₁ _ g₁ ∙ pass p₂ _ g₂ ∙ pass p₃ _ g₃ ∙ pass p₄ _ g₄ ∙ pass p₅ _ g₅ ∙ stop p₆ _ h

            module _ {a₆ : At Bool} (g₆ : o₆ ≡ some a₆) where
              pub request_more : a₆.end < length l → request_of short (fields l) ≡ none
              unfolding request_of
              request_more h = pass p₁ _ g₁ ∙ pass p₂ _ g₂ ∙ pass p₃ _ g₃ ∙ pass p₄ _ g₄ ∙ pass p₅ _ g₅ ∙ pass p₆ _ g₆ ∙ ending_more l a₆.end _ h

              pub request_is : length l ≤ a₆.end → request_of short (fields l)
                  ≡ some (RequestLine (request_with a₁.value a₂.value a₃.value a₄.value a₅.value a₆.value))
              unfolding request_of
              request_is h = pass p₁ _ g₁ ∙ pass p₂ _ g₂ ∙ pass p₃ _ g₃ ∙ pass p₄ _ g₄ ∙ pass p₅ _ g₅ ∙ pass p₆ _ g₆ ∙ ending_end l a₆.end _ h

-- ---- a candidate's line

module _ {l : List ℕ} {o₁ : Option (At ℕ)} (p₁ : Took (taking number_of) l (fields l) o₁) where
  pub candidate_1 : o₁ ≡ none → candidate_of short (fields l) ≡ none
  unfolding candidate_of
  candidate_1 h = stop p₁ _ h

  module _ {a₁ : At ℕ} (g₁ : o₁ ≡ some a₁) {o₂ : Option (At Item)} (p₂ : Took (taking (item_in short)) l (rest l (a₁.end + 1)) o₂) where
    pub candidate_2 : o₂ ≡ none → candidate_of short (fields l) ≡ none
    unfolding candidate_of
    candidate_2 h = pass p₁ _ g₁ ∙ stop p₂ _ h

    module _ {a₂ : At Item} (g₂ : o₂ ≡ some a₂) {o₃ : Option (At ℕ)} (p₃ : Took (taking number_of) l (rest l (a₂.end + 1)) o₃) where
      pub candidate_3 : o₃ ≡ none → candidate_of short (fields l) ≡ none
      unfolding candidate_of
      candidate_3 h = pass p₁ _ g₁ ∙ pass p₂ _ g₂ ∙ stop p₃ _ h

      module _ {a₃ : At ℕ} (g₃ : o₃ ≡ some a₃) {o₄ : Option (At Bool)} (p₄ : Took (taking bool_of) l (rest l (a₃.end + 1)) o₄) where
        pub candidate_4 : o₄ ≡ none → candidate_of short (fields l) ≡ none
        unfolding candidate_of
        candidate_4 h = pass p₁ _ g₁ ∙ pass p₂ _ g₂ ∙ pass p₃ _ g₃ ∙ stop p₄ _ h

        module _ {a₄ : At Bool} (g₄ : o₄ ≡ some a₄) {o₅ : Option (At ℕ)} (p₅ : Took (taking number_of) l (rest l (a₄.end + 1)) o₅) where
          pub candidate_5 : o₅ ≡ none → candidate_of short (fields l) ≡ none
          unfolding candidate_of
          candidate_5 h = pass p₁ _ g₁ ∙ pass p₂ _ g₂ ∙ pass p₃ _ g₃ ∙ pass p₄ _ g₄ ∙ stop p₅ _ h

          module _ {a₅ : At ℕ} (g₅ : o₅ ≡ some a₅) where
            pub candidate_more : a₅.end < length l → candidate_of short (fields l) ≡ none
            unfolding candidate_of
            candidate_more h = pass p₁ _ g₁ ∙ pass p₂ _ g₂ ∙ pass p₃ _ g₃ ∙ pass p₄ _ g₄ ∙ pass p₅ _ g₅ ∙ ending_more l a₅.end _ h

            pub candidate_is : length l ≤ a₅.end → candidate_of short (fields l)
                ≡ some (CandidateLine (record { connection = a₁.value; item = a₂.value; ready = a₃.value; preferred = a₄.value; priority = a₅.value }))
            unfolding candidate_of
            candidate_is h = pass p₁ _ g₁ ∙ pass p₂ _ g₂ ∙ pass p₃ _ g₃ ∙ pass p₄ _ g₄ ∙ pass p₅ _ g₅ ∙ ending_end l a₅.end _ h
