-- Lists in which no number comes twice, gone through from the first on.
use Prim.Native.Nat.{ℕ, zero, suc, ◌+◌, ◌*◌, ◌/◌, ◌≤◌}
use mathlib.Core.Path.{◌≡◌, refl, sym, ap, ◌∙◌}
use mathlib.Core.Bool.{Bool, true, false, not, ◌&&◌, ◌||◌}
use mathlib.Core.List.{List, [], ◌∷◌, ◌++◌}
use mathlib.Core.Logic.{inl, inr}
use native.Mathlib.Omega.{arith}
use lib.Dec.{eqb}
use lib.ListN.{length, take, get_or}
use lib.Seq.{take-suc}
use borrow.Author.Tests.{eqb-true, eqb-false, eq-eqb, ne_eqb}
use Rattle.std.proofs.Math.Bool.{or-false, and-true, or_assoc, and_assoc}
use Rattle.std.specs.List.{list_any, list_all, range_with_len}
use Rattle.words.specs.Words.{number}
use Rattle.words.proofs.Records.{take-recs}
use Rattle.ident.specs.Words.{hash_bytes}
use Rattle.machine.specs.Claim.{elem}
use Rattle.machine.specs.SoundTest.{no_repeat}
use Rattle.machine.proofs.Tests.{test}
use Rattle.lent_lists.specs.Lists.{hashes_in}
use Rattle.lent_lists.proofs.Given.{length-hashes}
use Rattle.reading.specs.Given.{hashes_of}

-- as a slice's `contains` tells it
pub any_elem : (x : ℕ) (l : List ℕ) → list_any (λ y. eqb y x) l ≡ elem x l
unfolding elem
any_elem x [] = refl
any_elem x (y ∷ l) = rw (any_elem x l) refl

-- the i-th is none of those before it
abbrev pub new_at : List ℕ → ℕ → Bool
new_at l i = not (elem (get_or l i 0) (take i l))

elem-last : (x y : ℕ) (l : List ℕ) → elem y (l ++ (x ∷ [])) ≡ (elem y l || eqb x y)
unfolding elem
elem-last x y [] = or-false (eqb x y)
elem-last x y (z ∷ l) = ap (λ (b : Bool). eqb z y || b) (elem-last x y l) ∙ sym (or_assoc (eqb z y) (elem y l) (eqb x y))

eqb-sym : (m n : ℕ) → eqb m n ≡ eqb n m
eqb-sym m n = elim (test (eqb n m)) [
  | inl e ↦ rw e (eq-eqb m n (sym (eqb-true n m e)))
  | inr e ↦ rw e (ne_eqb m n (λ z. eqb-false n m e (sym z)))
]

no_repeat-last : (x : ℕ) (l : List ℕ) → no_repeat (l ++ (x ∷ [])) ≡ (no_repeat l && not (elem x l))
unfolding elem no_repeat
no_repeat-last x [] = refl
no_repeat-last x (y ∷ l) = rw (elem-last x y l, no_repeat-last x l, eqb-sym x y) (both (elem y l) (eqb y x) (no_repeat l) (elem x l))
  where
    both : (a b c d : Bool) → (not (a || b) && (c && not d)) ≡ ((not a && c) && not (b || d))
    both true b c d = refl
    both false true true d = refl
    both false true false d = refl
    both false false c d = refl

scan-last : (p : ℕ → Bool) (n a j : ℕ) → a + n ≡ j → list_all p (range_with_len a (suc n)) ≡ (list_all p (range_with_len a n) && p j)
scan-last p zero a j e = let f : j ≡ a = omega arith in rw f (and-true (p a))
scan-last p (suc n) a j e = ap (λ (b : Bool). p a && b) (scan-last p n (a + 1) j (omega arith)) ∙ sym (and_assoc (p a) (list_all p (range_with_len (a + 1) n)) (p j))

pub distinct_by : (l : List ℕ) (n : ℕ) → n ≤ length l → list_all (new_at l) (range_with_len 0 n) ≡ no_repeat (take n l)
unfolding no_repeat
distinct_by l zero h = refl
distinct_by l (suc n) h =
    scan-last (new_at l) n 0 n (omega arith)
    ∙ ap (λ (b : Bool). b && new_at l n) (distinct_by l n (omega arith))
    ∙ sym (ap no_repeat (take-suc l n 0 (omega arith)) ∙ no_repeat-last (get_or l n 0) (take n l))

-- ---- hashes of bytes

module _ (b : List ℕ) (n : ℕ) (h : hash_bytes * n ≤ length b) where
  pub so_many : n ≤ length (hashes_in b)
  so_many = rw (length-hashes b) (omega arith)

  pub first-hashes : take n (hashes_in b) ≡ hashes_of n b
  unfolding hashes_in
  first-hashes = take-recs hash_bytes (number 256) n (length b / hash_bytes) b (omega (arith, so_many, length-hashes b))
