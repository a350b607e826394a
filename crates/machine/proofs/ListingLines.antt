-- The three forms of a listing's lines: each line that can be written is read back, and each line that is read was written so.
use Prim.Native.Nat.{ℕ, ◌<◌}
use mathlib.Core.Path.{◌≡◌, refl, ap, subst, ◌∙◌}
use mathlib.Core.Logic.{◌⊎◌, inl, inr}
use mathlib.Core.Bool.{Bool, false}
use mathlib.Core.List.{List, [], ◌∷◌, ◌++◌, append_assoc}
use mathlib.Core.Option.{Option, none, some}
use native.Mathlib.Omega.{arith}
use lib.Dec.{lit<}
use lib.ListN.{length}
use borrow.Author.Tests.{ne_eqb}
use Rattle.ident.specs.Number.{top, Key, Item}
use Rattle.machine.specs.Limits.{word, max_wtxids, max_parents}
use Rattle.machine.specs.State.{Candidate, Owner, Package, Request, State, on_table, with_candidates, KeyTyped}
use Rattle.machine.specs.Text.{decimal, bool_text, joined}
use Rattle.machine.specs.Fields.{digit_of, number_of, bool_of, same_text, fields, taking}
use Rattle.machine.specs.Listing.{HashForm, Digital, FormFits, key_field, key_in, item_field, item_in, none_text, maybe_field, maybe_in, maybe_fields, hash_fields, list_fields, Line, HeadLine}
use Rattle.machine.specs.Listing.{RequestLine, CandidateLine, places_field, head_fields, head_of, owner_fields, owner_then, package_fields, package_then, request_fields, request_with}
use Rattle.machine.specs.Listing.{request_of, candidate_fields, candidate_of, line_fields, first_of, line_of, Whenever, OwnerListed, PackageListed, ItemListed, CandidateListed}
use Rattle.machine.specs.Listing.{RequestListed, HeadListed}
use Rattle.machine.proofs.RoundTrips.{number_back, number-text, bool_back, bool-text}
use Rattle.machine.proofs.Readers.{Found, Finds, Gives, single, finds_one, gives_one, taking_not, ended, maybe_back, maybe_text, finds_none_or, gives_none_or, Begins}
use Rattle.machine.proofs.Forms.{above_bool, above_none, above_decimal, above_digits, above_maybe, digital_decimal, digits_not_none, above_key, key_not_none, key-no-number, key_back}
use Rattle.machine.proofs.Forms.{key-text, above_item, item-no-number, item_back, item-text, finds-list, gives-list}
use Rattle.machine.proofs.Commas.{AllAbove, fields-joined}

-- ---- fields of one value

numbers_found : {B : Type 0} → Finds {B = B} (taking number_of) (single (λ n. decimal n)) (λ n. n < word)
numbers_found = finds_one number_of (λ n. decimal n) (λ n. n < word) number-text

numbers_given : {B : Type 0} → Gives {B = B} (taking number_of) (single (λ n. decimal n)) (λ n. n < word)
numbers_given = gives_one number_of (λ n. decimal n) (λ n. n < word) number_back

bools_found : {B : Type 0} → Finds {B = B} (taking bool_of) (single (λ b. bool_text b)) (λ b. Unit {0})
bools_found = finds_one bool_of (λ b. bool_text b) (λ b. Unit {0}) (λ f b q. (bool-text f b q, tt))

bools_given : {B : Type 0} → Gives {B = B} (taking bool_of) (single (λ b. bool_text b)) (λ b. Unit {0})
bools_given = gives_one bool_of (λ b. bool_text b) (λ b. Unit {0}) (λ b z. bool_back b)

decimal_not_none : (n : ℕ) → same_text (decimal n) none_text ≡ false
decimal_not_none n = digits_not_none (decimal n) (digital_decimal n)

-- ---- owners

owner_found : {B : Type 0} → Finds {B = B} owner_then owner_fields OwnerListed
unfolding owner_then
owner_found {B} = record { found = go }
  where
    go : (k : Owner → List (List ℕ) → Option B) (fs : List (List ℕ)) (b : B) → owner_then k fs ≡ some b → Found owner_fields OwnerListed k fs b
    go k fs b e =
        let f = numbers_found.found _ fs b e in
        let g = numbers_found.found _ f.rest b f.goes in
        record {
          value = record { connection = f.value; deadline = g.value };
          rest = g.rest;
          parts = f.parts ∙ ap (λ (r : List (List ℕ)). decimal f.value ∷ r) g.parts;
          good = record { connection = f.good; deadline = g.good };
          goes = g.goes;
        }

owner_given : {B : Type 0} → Gives {B = B} owner_then owner_fields OwnerListed
unfolding owner_then
owner_given = record { back = λ o g k fs. numbers_given.back o.connection g.connection _ (decimal o.deadline ∷ fs) ∙ numbers_given.back o.deadline g.deadline _ fs }

owner-begins : (o : Owner) → Begins owner_fields o
owner-begins o = record { first = decimal o.connection; others = decimal o.deadline ∷ []; parts = refl; other = decimal_not_none o.connection }

module _ (x : HashForm) (fit : FormFits x) where
  -- ---- packages

  hash-found : {B : Type 0} → Finds {B = B} (taking x.of) (single x.text) (λ h. h < top)
  hash-found = finds_one x.of x.text (λ h. h < top) fit.text

  hash-given : {B : Type 0} → Gives {B = B} (taking x.of) (single x.text) (λ h. h < top)
  hash-given = gives_one x.of x.text (λ h. h < top) fit.back

  package_found : {B : Type 0} → Finds {B = B} (package_then x) (package_fields x) PackageListed
  unfolding package_then
  package_found {B} = record { found = go }
    where
      put : (c : List ℕ) (l : List (List ℕ)) (e : List ℕ) (fs f g h : List (List ℕ)) → fs ≡ c ∷ f → f ≡ l ++ g → g ≡ e ∷ h → fs ≡ (c ∷ (l ++ (e ∷ []))) ++ h
      put c l e fs f g h p q r = p ∙ ap (λ (m : List (List ℕ)). c ∷ m) (q ∙ rw (r, append_assoc))

      go : (k : Package → List (List ℕ) → Option B) (fs : List (List ℕ)) (b : B) → package_then x k fs ≡ some b → Found (package_fields x) PackageListed k fs b
      go k fs b e =
          let f = hash-found.found _ fs b e in
          let g = (finds-list x fit 1 max_wtxids).found _ f.rest b f.goes in
          let h = bools_found.found _ g.rest b g.goes in
          record {
            value = record { combined = f.value; wtxids = g.value; enqueued = h.value };
            rest = h.rest;
            parts = put (x.text f.value) (list_fields x g.value) (bool_text h.value) fs f.rest g.rest h.rest f.parts g.parts h.parts;
            good = record { combined = f.good; wtxids = g.good };
            goes = h.goes;
          }

  package_given : {B : Type 0} → Gives {B = B} (package_then x) (package_fields x) PackageListed
  unfolding package_then
  package_given {B} = record { back = go }
    where
      go : (p : Package) → PackageListed p → (k : Package → List (List ℕ) → Option B) (fs : List (List ℕ)) → package_then x k (package_fields x p ++ fs) ≡ k p fs
      go p good k fs = rw (append_assoc (hash_fields x p.wtxids) (bool_text p.enqueued ∷ []) fs) (
          hash-given.back p.combined good.combined _ (list_fields x p.wtxids ++ (bool_text p.enqueued ∷ fs))
          ∙ (gives-list x fit 1 max_wtxids (lit< tt)).back p.wtxids good.wtxids _ (bool_text p.enqueued ∷ fs)
          ∙ bools_given.back p.enqueued tt _ fs)

  package-begins : (p : Package) → Begins (package_fields x) p
  package-begins p = record {
    first = x.text p.combined;
    others = list_fields x p.wtxids ++ (bool_text p.enqueued ∷ []);
    parts = refl;
    other = digits_not_none (x.text p.combined) (fit.clean p.combined);
  }

  maybe_key_found : {B : Type 0} → Finds {B = B} (taking (maybe_in (key_in x))) (single (maybe_field (key_field x))) (Whenever KeyTyped)
  maybe_key_found = finds_one (maybe_in (key_in x)) (maybe_field (key_field x)) (Whenever KeyTyped) (maybe_text (key_in x) (key_field x) KeyTyped (key-text x fit))

  maybe_key_given : {B : Type 0} → Gives {B = B} (taking (maybe_in (key_in x))) (single (maybe_field (key_field x))) (Whenever KeyTyped)
  maybe_key_given = gives_one (maybe_in (key_in x)) (maybe_field (key_field x)) (Whenever KeyTyped) (maybe_back (key_in x) (key_field x) KeyTyped (key_back x fit) (key_not_none x fit))

  maybe_number_found : {B : Type 0} → Finds {B = B} (taking (maybe_in number_of)) (single (maybe_field (λ n. decimal n))) (Whenever (λ n. n < word))
  maybe_number_found = finds_one (maybe_in number_of) (maybe_field (λ n. decimal n)) (Whenever (λ n. n < word)) (maybe_text number_of (λ n. decimal n) (λ n. n < word) number-text)

  maybe_number_given : {B : Type 0} → Gives {B = B} (taking (maybe_in number_of)) (single (maybe_field (λ n. decimal n))) (Whenever (λ n. n < word))
  maybe_number_given = gives_one (maybe_in number_of) (maybe_field (λ n. decimal n)) (Whenever (λ n. n < word)) (maybe_back number_of (λ n. decimal n) (λ n. n < word) number_back decimal_not_none)

  -- ---- any line

  -- a line that can be written, and holds nothing that it does not write
  abbrev pub LineGood : Line → Type 0
  LineGood (HeadLine s) = HeadListed s × (on_table [] s ≡ s)
  LineGood (RequestLine r) = RequestListed r × (with_candidates [] r ≡ r)
  LineGood (CandidateLine c) = CandidateListed c

  -- the fields are those of a line that can be written
  abbrev pub Lined : List (List ℕ) → Line → Type 0
  Lined fs l = (fs ≡ line_fields x l) × LineGood l

  the-line : (fs : List (List ℕ)) (m l : Line) → some m ≡ some l → Lined fs m → Lined fs l
  the-line fs m l e d = let g : m ≡ l = cc in subst (λ (l : Line). Lined fs l) g d

  -- ---- the first line

  head-text : (fs : List (List ℕ)) (l : Line) → head_of x fs ≡ some l → Lined fs l
  unfolding head_of head_fields places_field
  head-text fs l e =
      let f = numbers_found.found _ fs l e in
      let g = numbers_found.found _ f.rest l f.goes in
      let h = maybe_number_found.found _ g.rest l g.goes in
      let i = maybe_key_found.found _ h.rest l h.goes in
      let j = maybe_key_found.found _ i.rest l i.goes in
      let o = ended _ j.rest l j.goes in
      the-line fs _ l o.1 (
        put f.value g.value h.value i.value j.value f.parts g.parts h.parts i.parts j.parts o.0,
        (record { limit = f.good; places = g.good; poll = h.good; known = i.good; ready = j.good }, refl),
      )
    where
      put : (L Q : ℕ) (p : Option ℕ) (k r : Option Key) {fs r₁ r₂ r₃ r₄ r₅ : List (List ℕ)} → fs ≡ decimal L ∷ r₁ → r₁ ≡ decimal Q ∷ r₂ → r₂ ≡ maybe_field (λ n. decimal n) p ∷ r₃
          → r₃ ≡ maybe_field (key_field x) k ∷ r₄ → r₄ ≡ maybe_field (key_field x) r ∷ r₅ → r₅ ≡ []
          → fs ≡ head_fields x (record { limit = L; places = Q; table = []; next_poll = p; known_cursor = k; ready_cursor = r })
      put L Q p k r e₁ e₂ e₃ e₄ e₅ e₆ = rw (e₁, e₂, e₃, e₄, e₅, e₆)

  head_back : (s : State) → HeadListed s → head_of x (head_fields x s) ≡ some (HeadLine (on_table [] s))
  unfolding head_of head_fields places_field
  head_back s g =
      let p = maybe_field (λ n. decimal n) s.next_poll in
      let k = maybe_field (key_field x) s.known_cursor in
      let r = maybe_field (key_field x) s.ready_cursor in
      numbers_given.back s.limit g.limit _ (decimal s.places ∷ p ∷ k ∷ r ∷ []) ∙ numbers_given.back s.places g.places _ (p ∷ k ∷ r ∷ [])
      ∙ maybe_number_given.back s.next_poll g.poll _ (k ∷ r ∷ []) ∙ maybe_key_given.back s.known_cursor g.known _ (r ∷ []) ∙ maybe_key_given.back s.ready_cursor g.ready _ []

  -- ---- a request's line

  key-found : {B : Type 0} → Finds {B = B} (taking (key_in x)) (single (key_field x)) KeyTyped
  key-found = finds_one (key_in x) (key_field x) KeyTyped (key-text x fit)

  key-given : {B : Type 0} → Gives {B = B} (taking (key_in x)) (single (key_field x)) KeyTyped
  key-given = gives_one (key_in x) (key_field x) KeyTyped (key_back x fit)

  request-text : (fs : List (List ℕ)) (l : Line) → request_of x fs ≡ some l → Lined fs l
  unfolding request_of request_fields
  request-text fs l e =
      let f = key-found.found _ fs l e in
      let g = (finds_none_or owner_then owner_fields OwnerListed owner_found).found _ f.rest l f.goes in
      let h = bools_found.found _ g.rest l g.goes in
      let i = (finds_none_or (package_then x) (package_fields x) PackageListed package_found).found _ h.rest l h.goes in
      let j = (finds-list x fit 0 max_parents).found _ i.rest l i.goes in
      let m = bools_found.found _ j.rest l j.goes in
      let o = ended _ m.rest l m.goes in
      the-line fs _ l o.1 (
        put f.value g.value h.value i.value j.value m.value f.parts g.parts h.parts i.parts j.parts m.parts o.0,
        (record { key = f.good; owner = g.good; packed = i.good; parents = j.good }, refl),
      )
    where
      put : (k : Key) (w : Option Owner) (i : Bool) (p : Option Package) (hs : List ℕ) (m : Bool) {fs r₁ r₂ r₃ r₄ r₅ r₆ : List (List ℕ)}
          → fs ≡ key_field x k ∷ r₁ → r₁ ≡ maybe_fields owner_fields w ++ r₂ → r₂ ≡ bool_text i ∷ r₃ → r₃ ≡ maybe_fields (package_fields x) p ++ r₄
          → r₄ ≡ list_fields x hs ++ r₅ → r₅ ≡ bool_text m ∷ r₆ → r₆ ≡ [] → fs ≡ request_fields x (request_with k w i p hs m)
      put k w i p hs m e₁ e₂ e₃ e₄ e₅ e₆ e₇ = rw (e₁, e₂, e₃, e₄, e₅, e₆, e₇)

  request_back : (r : Request) → RequestListed r → request_of x (request_fields x r) ≡ some (RequestLine (with_candidates [] r))
  unfolding request_of request_fields
  request_back r g =
      let e = bool_text r.fallback ∷ [] in
      let d = list_fields x r.parents ++ e in
      let c = maybe_fields (package_fields x) r.«package» ++ d in
      let b = bool_text r.info ∷ c in
      key-given.back r.key g.key _ (maybe_fields owner_fields r.owner ++ b)
      ∙ (gives_none_or owner_then owner_fields OwnerListed owner_given owner-begins).back r.owner g.owner _ b ∙ bools_given.back r.info tt _ c
      ∙ (gives_none_or (package_then x) (package_fields x) PackageListed package_given package-begins).back r.«package» g.packed _ d
      ∙ (gives-list x fit 0 max_parents (lit< tt)).back r.parents g.parents _ e ∙ bools_given.back r.fallback tt _ []

  -- ---- a candidate's line

  abbrev pub ItemGood : Item → Type 0
  ItemGood i = ItemListed i.kind × (i.hash < top)

  item_found : {B : Type 0} → Finds {B = B} (taking (item_in x)) (single (item_field x)) ItemGood
  item_found = finds_one (item_in x) (item_field x) ItemGood (λ f i q. let t = item-text x fit f i q in (t.0, (t.1, t.2)))

  item_given : {B : Type 0} → Gives {B = B} (taking (item_in x)) (single (item_field x)) ItemGood
  item_given = gives_one (item_in x) (item_field x) ItemGood (λ i g. item_back x fit i g.0 g.1)

  candidate-text : (fs : List (List ℕ)) (l : Line) → candidate_of x fs ≡ some l → Lined fs l
  unfolding candidate_of candidate_fields
  candidate-text fs l e =
      let f = numbers_found.found _ fs l e in
      let g = item_found.found _ f.rest l f.goes in
      let h = numbers_found.found _ g.rest l g.goes in
      let i = bools_found.found _ h.rest l h.goes in
      let j = numbers_found.found _ i.rest l i.goes in
      let o = ended _ j.rest l j.goes in
      the-line fs _ l o.1 (
        put f.value g.value h.value i.value j.value f.parts g.parts h.parts i.parts j.parts o.0,
        record { connection = f.good; item = g.good.0; hash = g.good.1; ready = h.good; priority = j.good },
      )
    where
      put : (n : ℕ) (i : Item) (ready : ℕ) (preferred : Bool) (priority : ℕ) {fs r₁ r₂ r₃ r₄ r₅ : List (List ℕ)} → fs ≡ decimal n ∷ r₁ → r₁ ≡ item_field x i ∷ r₂
          → r₂ ≡ decimal ready ∷ r₃ → r₃ ≡ bool_text preferred ∷ r₄ → r₄ ≡ decimal priority ∷ r₅ → r₅ ≡ []
          → fs ≡ candidate_fields x (record { connection = n; item = i; ready = ready; preferred = preferred; priority = priority })
      put n i ready preferred priority e₁ e₂ e₃ e₄ e₅ e₆ = rw (e₁, e₂, e₃, e₄, e₅, e₆)

  candidate_back : (c : Candidate) → CandidateListed c → candidate_of x (candidate_fields x c) ≡ some (CandidateLine c)
  unfolding candidate_of candidate_fields
  candidate_back c g =
      let e = decimal c.priority ∷ [] in
      let d = bool_text c.preferred ∷ e in
      let b = decimal c.ready ∷ d in
      numbers_given.back c.connection g.connection _ (item_field x c.item ∷ b) ∙ item_given.back c.item (g.item, g.hash) _ b
      ∙ numbers_given.back c.ready g.ready _ d ∙ bools_given.back c.preferred tt _ e ∙ numbers_given.back c.priority g.priority _ []

  -- ---- no line has two forms

  request-no-head : (r : Request) → head_of x (request_fields x r) ≡ none
  unfolding head_of request_fields
  request-no-head r = taking_not number_of _ (key_field x r.key) _ (key-no-number x fit r.key)

  candidate-no-head : (c : Candidate) → c.connection < word → head_of x (candidate_fields x c) ≡ none
  unfolding head_of candidate_fields
  candidate-no-head c h =
      numbers_given.back c.connection h _ (item_field x c.item ∷ decimal c.ready ∷ bool_text c.preferred ∷ decimal c.priority ∷ [])
      ∙ taking_not number_of _ (item_field x c.item) _ (item-no-number x fit c.item)

  number-no-key : (f : List ℕ) → Digital f → key_in x f ≡ none
  unfolding key_in digit_of
  number-no-key [] d = refl
  number-no-key (c ∷ f) d =
      let t : c ≡ 116 → ⊥ = λ e. let z : 16 < 16 = rw e at d.0 in omega arith in
      let w : c ≡ 119 → ⊥ = λ e. let z : 16 < 16 = rw e at d.0 in omega arith in
      rw (ne_eqb c 116 t, ne_eqb c 119 w)

  candidate-no-request : (c : Candidate) → request_of x (candidate_fields x c) ≡ none
  unfolding request_of candidate_fields
  candidate-no-request c = taking_not (key_in x) _ (decimal c.connection) _ (number-no-key (decimal c.connection) (digital_decimal c.connection))

  -- ---- every line

  pub line_back : (l : Line) → LineGood l → line_of x (line_fields x l) ≡ some l
  unfolding line_of
  line_back (HeadLine s) g = rw (head_back s g.0) (ap (λ (t : State). some (HeadLine t)) g.1)
  line_back (RequestLine r) g = rw (request-no-head r, request_back r g.0) (ap (λ (q : Request). some (RequestLine q)) g.1)
  line_back (CandidateLine c) g = rw (candidate-no-head c g.connection, candidate-no-request c, candidate_back c g)

  first_cases : (o p : Option Line) (l : Line) → first_of o p ≡ some l → (o ≡ some l) ⊎ (p ≡ some l)
  first_cases none p l e = inr e
  first_cases (some m) p l e = inl e

  pub line-text : (fs : List (List ℕ)) (l : Line) → line_of x fs ≡ some l → Lined fs l
  unfolding line_of
  line-text fs l e = elim (first_cases (head_of x fs) _ l e) [
    | inl h ↦ head-text fs l h
    | inr h ↦ elim (first_cases (request_of x fs) _ l h) [ inl i ↦ request-text fs l i | inr i ↦ candidate-text fs l i ]
  ]

  -- ---- no line has a comma or a line feed within a field

  above_more : (fs gs : List (List ℕ)) → AllAbove fs → AllAbove gs → AllAbove (fs ++ gs)
  above_more [] gs p q = q
  above_more (f ∷ fs) gs p q = (p.0, above_more fs gs p.1 q)

  above_hashes : (hs : List ℕ) → AllAbove (hash_fields x hs)
  unfolding hash_fields
  above_hashes [] = tt
  above_hashes (h ∷ hs) = (above_digits (x.text h) (fit.clean h), above_hashes hs)

  above_list : (hs : List ℕ) → AllAbove (list_fields x hs)
  above_list hs = (above_decimal (length hs), above_hashes hs)

  above_owner : (o : Option Owner) → AllAbove (maybe_fields owner_fields o)
  above_owner none = (above_none, tt)
  above_owner (some o) = (above_decimal o.connection, (above_decimal o.deadline, tt))

  above_package : (p : Option Package) → AllAbove (maybe_fields (package_fields x) p)
  above_package none = (above_none, tt)
  above_package (some p) = (
    above_digits (x.text p.combined) (fit.clean p.combined),
    above_more (list_fields x p.wtxids) (bool_text p.enqueued ∷ []) (above_list p.wtxids) (above_bool p.enqueued, tt),
  )

  pub line_above : (l : Line) → AllAbove (line_fields x l)
  unfolding head_fields request_fields candidate_fields places_field
  line_above (HeadLine s) = (
    above_decimal s.limit,
    (
      above_decimal s.places,
      (
        above_maybe (λ n. decimal n) above_decimal s.next_poll,
        (above_maybe (key_field x) (above_key x fit) s.known_cursor, (above_maybe (key_field x) (above_key x fit) s.ready_cursor, tt)),
      ),
    ),
  )
  line_above (RequestLine r) = (
    above_key x fit r.key,
    above_more (maybe_fields owner_fields r.owner) _ (above_owner r.owner) (
      above_bool r.info,
      above_more (maybe_fields (package_fields x) r.«package») _ (above_package r.«package») (above_more (list_fields x r.parents) _ (above_list r.parents) (above_bool r.fallback, tt)),
    ),
  )
  line_above (CandidateLine c) = (above_decimal c.connection, (above_item x fit c.item, (above_decimal c.ready, (above_bool c.preferred, (above_decimal c.priority, tt)))))

  -- a line's fields come back from its text
  pub line-fields : (l : Line) → fields (joined (line_fields x l)) ≡ line_fields x l
  line-fields l = parted (line_fields x l) (some_fields l) (line_above l)
    where
      parted : (fs : List (List ℕ)) → 0 < length fs → AllAbove fs → fields (joined fs) ≡ fs
      parted [] h a = absurd (omega arith)
      parted (f ∷ fs) h a = fields-joined f fs a

      some_fields : (l : Line) → 0 < length (line_fields x l)
      some_fields (HeadLine s) = unfold head_fields in omega arith
      some_fields (RequestLine r) = unfold request_fields in omega arith
      some_fields (CandidateLine c) = unfold candidate_fields in omega arith
