-- What a line's first byte tells of its form: the letter of a key begins a request's line, and no other.
use Prim.Native.Nat.{ℕ}
use mathlib.Core.Path.{◌≡◌, refl, sym, ap, ◌∙◌}
use mathlib.Core.Bool.{true, false}
use mathlib.Core.List.{List, [], ◌∷◌}
use mathlib.Core.Option.{Option, none, some}
use mathlib.Core.Logic.{inl, inr}
use native.Mathlib.Omega.{arith}
use lib.Dec.{eqb}
use lib.ListN.{length}
use borrow.Author.Tests.{eqb-true, eqb-false, ne_eqb}
use Rattle.ident.specs.declared.Kind.{Kind}
use Rattle.ident.specs.declared.Kind.TheVariants.{Txid, Wtxid}
use Rattle.ident.specs.Number.{Item}
use Rattle.machine.specs.State.{Candidate, Request, is_some}
use Rattle.machine.specs.Text.{decimal, kind_letter}
use Rattle.machine.specs.Fields.{digit_of, numeral_of, number_of, push, fields, with_value, taking}
use Rattle.machine.specs.Listing.{Line, RequestLine, CandidateLine, short, Digital, key_field, key_in, item_in, head_of, request_fields, request_of, candidate_fields, candidate_of, first_of, line_of}
use Rattle.machine.proofs.Tests.{test, never}
use Rattle.machine.proofs.Readers.{taking_not}
use Rattle.machine.proofs.Forms.{short-fits, digital_decimal}
use Rattle.machine.proofs.ListingLines.{line-text}
use Rattle.listed_lines.specs.Starts.{keyed}

-- ---- the first field begins with it

module _ (c : ℕ) {A : Type 0} (read : List ℕ → Option A) (k : A → List (List ℕ) → Option Line) (h : (f : List ℕ) → read (c ∷ f) ≡ none) where
  pushed_not : (fs : List (List ℕ)) → taking read k (push c fs) ≡ none
  unfolding push
  pushed_not [] = taking_not read k (c ∷ []) [] (h [])
  pushed_not (f ∷ fs) = taking_not read k (c ∷ f) fs (h f)

  first_not : read [] ≡ none → (m : List ℕ) → taking read k (fields (c ∷ m)) ≡ none
  unfolding fields
  first_not z m = elim (test (eqb c 44)) [
    | inl t ↦ rw t (taking_not read k [] (fields m) z)
    | inr t ↦ rw t (pushed_not (fields m))
  ]

module _ (c : ℕ) (m : List ℕ) where
  letter_no_number : keyed (c ∷ m) ≡ true → (f : List ℕ) → number_of (c ∷ f) ≡ none
  unfolding numeral_of digit_of
  letter_no_number e f = elim (test (eqb c 116)) [
    | inl t ↦ let d = eqb-true c 116 t in rw d
    | inr t ↦ let g : eqb c 119 ≡ true = rw t at e in let d = eqb-true c 119 g in rw d
  ]

  letter_no_digit : keyed (c ∷ m) ≡ true → digit_of c ≡ 16
  unfolding digit_of
  letter_no_digit e = elim (test (eqb c 116)) [
    | inl t ↦ let d = eqb-true c 116 t in rw d
    | inr t ↦ let g : eqb c 119 ≡ true = rw t at e in let d = eqb-true c 119 g in rw d
  ]

  letter_no_comma : keyed (c ∷ m) ≡ true → c ≡ 44 → ⊥
  letter_no_comma e z = never (rw z at e)

  other_no_key : keyed (c ∷ m) ≡ false → (f : List ℕ) → key_in short (c ∷ f) ≡ none
  unfolding key_in
  other_no_key e f = elim (test (eqb c 116)) [
    | inl t ↦ let g : true ≡ false = rw t at e in never (sym g)
    | inr t ↦ let g : eqb c 119 ≡ false = rw t at e in rw (t, g)
  ]

no_number : number_of [] ≡ none
unfolding numeral_of
no_number = refl

no_key : key_in short [] ≡ none
unfolding key_in
no_key = refl

-- ---- a request's line

first_alone : (o : Option Line) → first_of o none ≡ o
first_alone none = refl
first_alone (some l) = refl

pub keyed_line : (l : List ℕ) → keyed l ≡ true → line_of short (fields l) ≡ request_of short (fields l)
unfolding line_of head_of candidate_of
keyed_line [] e = never e
keyed_line (c ∷ m) e =
    rw (first_not c number_of _ (letter_no_number c m e) no_number m, first_not c number_of _ (letter_no_number c m e) no_number m) (first_alone (request_of short (fields (c ∷ m))))

-- ---- another line

pub no_request : (l : List ℕ) → keyed l ≡ false → request_of short (fields l) ≡ none
unfolding request_of fields
no_request [] e = taking_not (key_in short) _ [] [] no_key
no_request (c ∷ m) e = first_not c (key_in short) _ (other_no_key c m e) no_key m

-- an item is no number
item_no_number : (f : List ℕ) → is_some (item_in short f) ≡ true → number_of f ≡ none
unfolding item_in numeral_of digit_of
item_no_number [] e = refl
item_no_number (c ∷ f) e = elim (test (eqb c 111)) [
  | inl t ↦ let d = eqb-true c 111 t in rw d
  | inr t ↦ elim (test (eqb c 116)) [
    | inl u ↦ let d = eqb-true c 116 u in rw d
    | inr u ↦ elim (test (eqb c 118)) [
      | inl v ↦ let d = eqb-true c 118 v in rw d
      | inr v ↦ elim (test (eqb c 119)) [
        | inl w ↦ let d = eqb-true c 119 w in rw d
        | inr w ↦ let g : false ≡ true = rw (t, u, v, w) at e in never g
      ]
    ]
  ]
]

-- a candidate's line is no first line: the second field is an item, and no number
value_there : {A : Type 0} (o : Option A) (k : A → Option Line) → is_some (with_value o k) ≡ true → is_some o ≡ true
value_there none k e = e
value_there (some a) k e = refl

module _ (K : ℕ → Item → List (List ℕ) → Option Line) (H : ℕ → ℕ → List (List ℕ) → Option Line) where
  second : (n : ℕ) (fs : List (List ℕ)) → is_some (taking (item_in short) (K n) fs) ≡ true → taking number_of (H n) fs ≡ none
  unfolding taking
  second n [] e = refl
  second n (f ∷ fs) e = rw (item_no_number f (value_there (item_in short f) _ e))

  first_then : (o : Option ℕ) (fs : List (List ℕ)) → is_some (with_value o (λ n. taking (item_in short) (K n) fs)) ≡ true → with_value o (λ n. taking number_of (H n) fs) ≡ none
  first_then none fs e = refl
  first_then (some n) fs e = second n fs e

  two_fields : (fs : List (List ℕ)) → is_some (taking number_of (λ n. taking (item_in short) (K n)) fs) ≡ true → taking number_of (λ n. taking number_of (H n)) fs ≡ none
  unfolding taking
  two_fields [] e = refl
  two_fields (f ∷ fs) e = first_then (number_of f) fs e

candidate_no_head : (fs : List (List ℕ)) → is_some (candidate_of short fs) ≡ true → head_of short fs ≡ none
unfolding candidate_of head_of
candidate_no_head fs e = two_fields _ _ fs e

module _ (l : List ℕ) (n : keyed l ≡ false) where
  pub candidate-line : {x : Line} → candidate_of short (fields l) ≡ some x → line_of short (fields l) ≡ some x
  unfolding line_of
  candidate-line e = rw (candidate_no_head (fields l) (ap is_some e), no_request l n, e)

  pub other-line : candidate_of short (fields l) ≡ none → line_of short (fields l) ≡ head_of short (fields l)
  unfolding line_of
  other-line e = rw (no_request l n, e) (first_alone (head_of short (fields l)))

-- ---- a line that begins with a key's letter is no candidate's

record Beginning (c : ℕ) (fs : List (List ℕ)) : Type 0 where
  first : List ℕ
  others : List (List ℕ)
  parts : fs ≡ (c ∷ first) ∷ others

begins_with : (c : ℕ) (m : List ℕ) → (c ≡ 44 → ⊥) → Beginning c (fields (c ∷ m))
unfolding fields push
begins_with c m n = rw (ne_eqb c 44 n) (pushed (fields m))
  where
    pushed : (fs : List (List ℕ)) → Beginning c (push c fs)
    pushed [] = record { first = []; others = []; parts = refl }
    pushed (f ∷ fs) = record { first = f; others = fs; parts = refl }

pub same_head : {f g : List ℕ} {fs gs : List (List ℕ)} → f ∷ fs ≡ g ∷ gs → f ≡ g
same_head e = cc

pub keyed-no-candidate : (l : List ℕ) → keyed l ≡ true → (c : Candidate) → line_of short (fields l) ≡ some (CandidateLine c) → ⊥
unfolding candidate_fields
keyed-no-candidate [] e c g = never e
keyed-no-candidate (x ∷ m) e c g =
    let d = letter_no_digit x m e in
    let w = begins_with x m (letter_no_comma x m e) in
    let t = line-text short short-fits (fields (x ∷ m)) (CandidateLine c) g in
    let u : decimal c.connection ≡ x ∷ w.first = same_head (sym t.0 ∙ w.parts) in
    let v : Digital (x ∷ w.first) = rw u at (digital_decimal c.connection) in
    omega (arith, v.0, d)

-- ---- a request's line begins with one

letter_keyed : (k : Kind) (m : List ℕ) → keyed (kind_letter k ∷ m) ≡ true
letter_keyed Txid m = refl
letter_keyed Wtxid m = refl

first_keyed : {c : ℕ} {f g : List ℕ} (k : Kind) (m : List ℕ) → c ∷ f ≡ kind_letter k ∷ g → keyed (c ∷ m) ≡ true
first_keyed {c} k m e = let d : c ≡ kind_letter k = cc in rw d (letter_keyed k m)

pub request-keyed : (l : List ℕ) (q : Request) → line_of short (fields l) ≡ some (RequestLine q) → keyed l ≡ true
unfolding request_fields key_field fields
request-keyed [] q g =
    let t = line-text short short-fits (fields []) (RequestLine q) g in
    absurd (omega (arith, ap length (same_head t.0)))
request-keyed (x ∷ m) q g =
    let t = line-text short short-fits (fields (x ∷ m)) (RequestLine q) g in
    elim (test (eqb x 44)) [
      | inl u ↦ absurd (omega (arith, ap length (same_head (rw u at t.0))))
      | inr u ↦ let w = begins_with x m (eqb-false x 44 u) in first_keyed q.key.kind m (same_head (sym w.parts ∙ t.0))
    ]
