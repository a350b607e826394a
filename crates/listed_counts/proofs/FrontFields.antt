-- The front of a line that is of a form: its fields are those that the line writes (machine/proofs/ListingLines), so what was read first is what it writes first.
use Prim.Native.Nat.{ℕ, ◌+◌, ◌-◌, ◌<◌}
use mathlib.Core.Path.{◌≡◌, refl, sym, ap, subst, ◌∙◌}
use mathlib.Core.Bool.{Bool, true, false}
use mathlib.Core.List.{List, [], ◌∷◌}
use mathlib.Core.Option.{Option, none, some}
use native.Mathlib.Omega.{arith}
use lib.ListN.{length, take, drop, length-drop}
use Rattle.std.specs.Prelude as answer
use Rattle.ident.specs.declared.Kind.TheVariants.{Txid}
use Rattle.ident.specs.declared.ItemKind.TheVariants.{Transaction}
use Rattle.machine.specs.Limits.{word}
use Rattle.machine.specs.State.{Candidate, Owner, Request, is_some}
use Rattle.machine.specs.Text.{decimal}
use Rattle.machine.specs.Fields.{number_of, before, fields, rest, taking}
use Rattle.machine.specs.Listing.{Line, HeadLine, RequestLine, CandidateLine, short, none_or, owner_fields, owner_then, request_fields, request_with, candidate_fields, line_of, OwnerListed}
use Rattle.machine.proofs.Tests.{never}
use Rattle.machine.proofs.Parting.{before-length}
use Rattle.machine.proofs.RoundTrips.{number_back}
use Rattle.machine.proofs.Readers.{Gives, single, gives_one, gives_none_or, Begins}
use Rattle.machine.proofs.Forms.{short-fits, digital_decimal, digits_not_none}
use Rattle.machine.proofs.ListingLines.{line-text}
use Rattle.lines.specs.Values.{number_in}
use Rattle.lines.proofs.Splitting.{rest_field, rest_start}
use Rattle.reading.specs.Given.{At}
use Rattle.listed_lines.specs.declared.parts.Owner as parts-owner
use Rattle.listed_lines.specs.Starts.{keyed}
use Rattle.listed_lines.specs.Given.{Reader, Took, lines_of_text}
use Rattle.listed_lines.proofs.Starts.{keyed-no-candidate, request-keyed}
use Rattle.listed_lines.proofs.Ends.{no_end, line-ends}
use Rattle.listed_form.proofs.Stepping.{parted}
use Rattle.listed_counts.specs.declared.fronts.Front.{Front}
use Rattle.listed_counts.specs.Fronts.{owner_number, added, number_for, Behind, FrontIn, OwnerIn, FrontRead}

-- ---- a value that was read is the one that any reading of the fields gives

abbrev pub value_in : {A : Type 0} → Option (At A) → Option A
value_in none = none
value_in (some a) = some a.value

-- an owner, if one was read and is there
abbrev pub joined_in : Option (Option Owner) → Option Owner
joined_in none = none
joined_in (some o) = o

abbrev a_candidate : ℕ → Line
a_candidate n = CandidateLine (record { connection = n; item = record { kind = Transaction; hash = 0 }; ready = 0; preferred = false; priority = 0 })

abbrev a_request : Option Owner → Line
a_request o = RequestLine (request_with (record { kind = Txid; hash = 0 }) o false none [] false)

abbrev connection_in : Option Line → Option ℕ
connection_in none = none
connection_in (some (HeadLine s)) = none
connection_in (some (RequestLine r)) = none
connection_in (some (CandidateLine c)) = some c.connection

one_candidate : (a b : ℕ) → some (a_candidate a) ≡ some (a_candidate b) → a ≡ b
one_candidate a b e = let d : some a ≡ some b = ap connection_in e in cc

abbrev owner_in : Option Line → Option Owner
owner_in none = none
owner_in (some (HeadLine s)) = none
owner_in (some (RequestLine r)) = r.owner
owner_in (some (CandidateLine c)) = none

one_request : (a b : Option Owner) → some (a_request a) ≡ some (a_request b) → a ≡ b
one_request a b e = ap owner_in e

module _ {A : Type 0} {read : Reader A} {l : List ℕ} {fs : List (List ℕ)} where
  value_read : (shown : A → Line) → ((a b : A) → some (shown a) ≡ some (shown b) → a ≡ b) → (o : Option (At A)) → Took read l fs o → (v : A) (gs : List (List ℕ))
      → ((k : A → List (List ℕ) → Option Line) → read k fs ≡ k v gs) → value_in o ≡ some v
  value_read shown one none p v gs g = never (ap is_some (sym (p.is (λ a hs. some (shown a))) ∙ g (λ a hs. some (shown a))))
  value_read shown one (some a) p v gs g = ap some (one a.value v (sym (p.is (λ a hs. some (shown a))) ∙ g (λ a hs. some (shown a))))

-- ---- the first field: a candidate's connection

numbers_given : Gives {B = Line} (taking number_of) (single (λ n. decimal n)) (λ n. n < word)
numbers_given = gives_one number_of (λ n. decimal n) (λ n. n < word) number_back

module _ {l : List ℕ} (o : Option (At ℕ)) (p : Took (taking number_of) l (fields l) o) where
  candidate_number : (c : Candidate) → line_of short (fields l) ≡ some (CandidateLine c) → value_in o ≡ some c.connection
  unfolding candidate_fields
  candidate_number c e =
      let d = line-text short short-fits (fields l) (CandidateLine c) e in
      value_read a_candidate one_candidate o p c.connection _ (λ k. ap (taking number_of k) d.0 ∙ numbers_given.back c.connection d.1.connection k _)

-- ---- behind the key: the owner

owner_given : Gives {B = Line} owner_then owner_fields OwnerListed
unfolding owner_then
owner_given = record { back = λ o g k fs. numbers_given.back o.connection g.connection _ (decimal o.deadline ∷ fs) ∙ numbers_given.back o.deadline g.deadline _ fs }

owner_begins : (o : Owner) → Begins owner_fields o
owner_begins o = record {
  first = decimal o.connection;
  others = decimal o.deadline ∷ [];
  parts = refl;
  other = digits_not_none (decimal o.connection) (digital_decimal o.connection);
}

same_tail : {f g : List ℕ} {fs gs : List (List ℕ)} → f ∷ fs ≡ g ∷ gs → fs ≡ gs
same_tail e = cc

module _ {l : List ℕ} {to : ℕ} (g : to ≡ 0 + length (before 44 (drop 0 l))) (o : Option (At (Option Owner))) (p : Took (none_or owner_then) l (rest l (to + 1)) o) where
  request_owner : (q : Request) → line_of short (fields l) ≡ some (RequestLine q) → value_in o ≡ some q.owner
  unfolding request_fields
  request_owner q e =
      let d = line-text short short-fits (fields l) (RequestLine q) e in
      let t = same_tail (sym (sym (rest_start l) ∙ rest_field l 0 to (omega arith) g) ∙ d.0) in
      value_read a_request one_request o p q.owner _
      (λ k. ap (none_or owner_then k) t ∙ (gives_none_or owner_then owner_fields OwnerListed owner_given owner_begins).back q.owner d.1.0.owner k _)

-- ---- the whole front

module _ {l : List ℕ} where
  pub front-owner : true ≡ keyed l → {w : answer.Option ℕ} → OwnerIn l w → {f : Front} → (number_for true f ≡ number_in w) → (number_for false f ≡ none) → FrontIn (line_of short (fields l)) f
  front-owner k {w} i {f} u v = record { is = by }
    where
      by : (o : Bool) (x : Line) → line_of short (fields l) ≡ some x → Behind x → number_for o f ≡ added o x
      by o (HeadLine s) d b = absurd b
      by true (RequestLine q) d b = u ∙ i.is q d
      by false (RequestLine q) d b = v
      by o (CandidateLine c) d b = absurd (keyed-no-candidate l (sym k) c d)

  module _ (k : false ≡ keyed l) (o : Option (At ℕ)) (p : Took (taking number_of) l (fields l) o) where
    pub front-number : {f : Front} → (number_for true f ≡ none) → (number_for false f ≡ value_in o) → FrontIn (line_of short (fields l)) f
    front-number {f} u v = record { is = by }
      where
        by : (o : Bool) (x : Line) → line_of short (fields l) ≡ some x → Behind x → number_for o f ≡ added o x
        by o (HeadLine s) d b = absurd b
        by o (RequestLine q) d b = never (k ∙ request-keyed l q d)
        by true (CandidateLine c) d b = u
        by false (CandidateLine c) d b = v ∙ candidate_number o p c d

module _ {l : List ℕ} {to : ℕ} (g : to ≡ 0 + length (before 44 (drop 0 l))) (o : Option (At (Option Owner))) (p : Took (none_or owner_then) l (rest l (to + 1)) o) where
  pub owner-told : {w : answer.Option ℕ} → number_in w ≡ owner_number (joined_in (value_in o)) → OwnerIn l w
  owner-told h = record { is = λ q e. h ∙ ap (λ (x : Option (Option Owner)). owner_number (joined_in x)) (request_owner g o p q e) }

-- ---- the line at an index

module _ (b : List ℕ) (at : ℕ) (h : at < length b) {end : ℕ} (g : end ≡ at + length (before 10 (drop at b))) {f : Front} where
  pub front_none : end ≡ length b → FrontRead b at f end
  front_none e = record { is = λ ls d. never (ap is_some (sym (no_end b at h g e none) ∙ d)); on = omega arith; inside = omega arith }

  pub front-is : (end ≡ length b → ⊥) → FrontIn (line_of short (fields (take (end - at) (drop at b)))) f → FrontRead b at f (end + 1)
  front-is n w =
      let m : end < length b = omega (arith, before-length 10 (drop at b), length-drop at b) in
      record {
        is = λ ls e.
            let d = parted (line_of short (fields (take (end - at) (drop at b)))) (lines_of_text (drop (end + 1) b)) (sym (line-ends b at h g m) ∙ e) in
            record { first = d.first; others = d.others; parts = d.parts; are = d.are; adds = subst (λ (o : Option Line). FrontIn o f) d.is w };
        on = omega arith;
        inside = omega arith;
      }
