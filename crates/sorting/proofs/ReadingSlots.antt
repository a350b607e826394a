-- Slots filled with the keys and the numbers of records, sorted, and read: the records sorted.
use Prim.Native.Nat.{ℕ, zero, suc, ◌+◌, ◌*◌, ◌≤◌, ◌<◌}
use mathlib.Core.Path.{◌≡◌, refl, sym, ap, ◌∙◌}
use mathlib.Core.List.{List, [], ◌∷◌, map}
use native.Mathlib.Omega.{arith}
use lib.ListN.{length, get_or, take, drop, set}
use lib.Seq.{get_or-drop, drop-drop}
use Rattle.machine.specs.Typed.{Each}
use Rattle.sorting.specs.Sorted.{sort_by}
use Rattle.sorting.specs.Slots.{pairs, key_in, number_in, keyed, stored}
use Rattle.sorting.proofs.Copies.{copy_turn}
use Rattle.sorting.proofs.Reading.{each_at, each_sort, length-sort, read_sorted}
use Rattle.sorting.proofs.Slotted.{length_pairs, pair_set}

module _ {A : Type 0} (f : A → ℕ) where
  pub length-keyed : (i : ℕ) (l : List A) → length (keyed f i l) ≡ length l
  unfolding keyed
  length-keyed i [] = refl
  length-keyed i (a ∷ l) = ap suc (length-keyed (suc i) l)

  keyed_at : (d : A) (l : List A) (i j : ℕ) → j < length l → get_or (keyed f i l) j [] ≡ f (get_or l j d) ∷ ((i + j) ∷ [])
  unfolding keyed
  keyed_at d [] i j h = let z : ⊥ = omega arith in absurd z
  keyed_at d (a ∷ l) i zero h = let z : i ≡ i + 0 = omega arith in ap (λ x. f a ∷ (x ∷ [])) z
  keyed_at d (a ∷ l) i (suc j) h = let z : suc i + j ≡ i + suc j = omega arith in keyed_at d l (suc i) j (omega arith) ∙ ap (λ x. f (get_or l j d) ∷ (x ∷ [])) z

  -- one pair more
  pub keyed_turn : (d : A) (l : List A) (k : ℕ) (w : List ℕ) {w' : List ℕ} (i : ℕ) → 4 ≤ k → i < length l → k * length l ≤ length w
      → take i (pairs k (length l) w) ≡ take i (keyed f 0 l) → w' ≡ stored w k i 0 (f (get_or l i d)) i → take (i + 1) (pairs k (length l) w') ≡ take (i + 1) (keyed f 0 l)
  keyed_turn d l k w i h p q e g =
      let z : 0 + i ≡ i = omega arith in
      rw (g, pair_set k (length l) w i p q 0 (omega arith) (f (get_or l i d)) i)
      (ap (λ x. take (i + 1) (set (pairs k (length l) w) i x)) (sym (keyed_at d l 0 i p ∙ ap (λ x. f (get_or l i d) ∷ (x ∷ [])) z))
      ∙ copy_turn [] (keyed f 0 l) (pairs k (length l) w) i (omega (arith, length-keyed 0 l)) (omega (arith, length_pairs 0 k (length l) w)) e)

  -- what the pairs of l say of l
  module _ (d : A) (l : List A) where
    head_at : (i : ℕ) (a : A) (m : List A) → drop i l ≡ a ∷ m → get_or l i d ≡ a
    head_at i a m e = let z : i ≡ i + 0 = omega arith in ap (λ x. get_or l x d) z ∙ (sym (get_or-drop i l 0 d) ∙ ap (λ x. get_or x 0 d) e)

    tail_at : (i : ℕ) (a : A) (m : List A) → drop i l ≡ a ∷ m → drop (suc i) l ≡ m
    tail_at i a m e = let z : suc i ≡ i + 1 = omega arith in ap (λ x. drop x l) z ∙ (sym (drop-drop 1 i l) ∙ ap (drop 1) e)

    read_keyed : (i : ℕ) (m : List A) → drop i l ≡ m → map (λ p. get_or l (number_in p) d) (keyed f i m) ≡ m
    unfolding keyed
    read_keyed i [] e = refl
    read_keyed i (a ∷ m) e = rw (head_at i a m e, read_keyed (suc i) m (tail_at i a m e))

    each_keyed : (i : ℕ) (m : List A) → drop i l ≡ m → Each (λ p. key_in p ≡ f (get_or l (number_in p) d)) (keyed f i m)
    unfolding keyed
    each_keyed i [] e = tt
    each_keyed i (a ∷ m) e = (ap f (sym (head_at i a m e)), each_keyed (suc i) m (tail_at i a m e))

    -- the records of l, read in the order of the sorted slots, are l sorted
    pub read_slots : map (λ p. get_or l (number_in p) d) (sort_by key_in (keyed f 0 l)) ≡ sort_by f l
    read_slots = read_sorted f (λ p. get_or l (number_in p) d) key_in (keyed f 0 l) l (read_keyed 0 l refl) (each_keyed 0 l refl)

  each_below : (b i : ℕ) (m : List A) → i + length m ≤ b → Each (λ p. number_in p < b) (keyed f i m)
  unfolding keyed
  each_below b i [] h = tt
  each_below b i (a ∷ m) h = (omega arith, each_below b (suc i) m (omega arith))

  -- the sorted slots are as many as l's records, and each number is one of theirs
  pub slots-long : (l : List A) → length (sort_by key_in (keyed f 0 l)) ≡ length l
  slots-long l = length-sort key_in (keyed f 0 l) ∙ length-keyed 0 l

  pub slots-within : (l : List A) (i : ℕ) → i < length l → number_in (get_or (sort_by key_in (keyed f 0 l)) i []) < length l
  slots-within l i h =
      each_at (λ p. number_in p < length l) [] (sort_by key_in (keyed f 0 l)) i
      (each_sort key_in (λ p. number_in p < length l) (keyed f 0 l) (each_below (length l) 0 l (omega arith))) (omega (arith, slots-long l))
