-- Marks of hashes: a hash whose slot has no mark is not among those that were marked.
use Prim.Native.Nat.{ℕ, zero, suc, ◌+◌, ◌-◌, ◌*◌, ◌≤◌, ◌<◌}
use mathlib.Core.Path.{◌≡◌, sym, ap, ◌∙◌}
use mathlib.Core.Logic.{inl, inr}
use mathlib.Core.Bool.{true, false}
use mathlib.Core.List.{List, ◌∷◌}
use native.Mathlib.Omega.{arith}
use lib.Dec.{eqb}
use lib.ListN.{length, drop, get_or, set}
use lib.Seq.{get_or-set_same, get_or-set_other}
use borrow.Author.Tests.{eqb-true, eqb-false, ne_eqb}
use Rattle.regions.specs.declared.Quad.{Quad}
use Rattle.regions.specs.Rows.{read_quad, quad_number}
use Rattle.machine.specs.Claim.{elem}
use Rattle.machine.specs.Sound.{NoRepeat}
use Rattle.machine.proofs.Tests.{test, never}
use Rattle.sound.specs.Places.{hashes_in, slot_of}
use Rattle.sound.proofs.Hashes.{hash_read, hashes_turn, hashes_none}

-- the slots of the hashes l have the mark v
abbrev pub Marked : ℕ → List ℕ → List ℕ → Type 0
Marked v marks l = (x : ℕ) → elem x l ≡ true → get_or marks (slot_of x) 0 ≡ v

pub unmarked : (v : ℕ) (marks l : List ℕ) (x : ℕ) {y : ℕ} → Marked v marks l → y ≡ slot_of x → (get_or marks y 0 ≡ v → ⊥) → elem x l ≡ false
unmarked v marks l x m s z = elim (test (elem x l)) [
  | inl e ↦ absurd (z (ap (λ (i : ℕ). get_or marks i 0) s ∙ m x e))
  | inr e ↦ e
]

marked_more : (v : ℕ) (marks l : List ℕ) (y : ℕ) → slot_of y < length marks → Marked v marks l → Marked v (set marks (slot_of y) v) (y ∷ l)
unfolding elem
marked_more v marks l y h m x e = elim (test (eqb (slot_of x) (slot_of y))) [
  | inl b ↦ rw (eqb-true (slot_of x) (slot_of y) b) (get_or-set_same marks (slot_of y) v 0 h)
  | inr b ↦
      let n : y ≡ x → ⊥ = λ z. eqb-false (slot_of x) (slot_of y) b (ap slot_of (sym z)) in
      get_or-set_other marks (slot_of y) (slot_of x) v 0 (eqb-false (slot_of x) (slot_of y) b) ∙ m x (rw (ne_eqb y x n) at e)
]

module _ (w : List ℕ) (a n : ℕ) where
  pub none_met : (x : ℕ) → elem x (hashes_in w a n n) ≡ true → ⊥
  unfolding elem
  none_met x e = never (rw (hashes_none w a n n (omega arith)) at e)

  pub repeat_none : NoRepeat (hashes_in w a n n)
  repeat_none = rw (hashes_none w a n n (omega arith)) tt

  pub repeat_from : (k : ℕ) → k ≤ n → NoRepeat (hashes_in w a 0 n) → NoRepeat (hashes_in w a k n)
  repeat_from zero h d = d
  repeat_from (suc k) h d =
      let e : k + 1 ≡ suc k = omega arith in
      rw e at (rw (hashes_turn w a k n (omega arith)) at (repeat_from k (omega arith) d)).1

  module _ (k : ℕ) (h : 0 < k) (l : k ≤ n) {q : Quad} (e : q ≡ read_quad (drop (a + (k - 1) * 4) w)) where
    turn : hashes_in w a (k - 1) n ≡ quad_number q ∷ hashes_in w a k n
    turn =
        let g : k - 1 + 1 ≡ k = omega arith in
        rw (hash_read w a (k - 1) e) (rw g at (hashes_turn w a (k - 1) n (omega arith)))

    pub marked_turn : (v : ℕ) (marks : List ℕ) {x : ℕ} → x ≡ slot_of (quad_number q) → x < length marks → Marked v marks (hashes_in w a k n) → Marked v (set marks x v) (hashes_in w a (k - 1) n)
    marked_turn v marks g b m = rw (turn, g) (marked_more v marks (hashes_in w a k n) (quad_number q) (rw g at b) m)

    pub repeat_back : elem (quad_number q) (hashes_in w a k n) ≡ false → NoRepeat (hashes_in w a k n) → NoRepeat (hashes_in w a (k - 1) n)
    repeat_back z d = rw turn (z, d)

    pub repeat_met : elem (quad_number q) (hashes_in w a k n) ≡ true → NoRepeat (hashes_in w a 0 n) → ⊥
    repeat_met z d = never (sym (rw turn at (repeat_from (k - 1) (omega arith) d)).0 ∙ z)

-- for the tactic
pub ruleset marking = (unmarked, none_met, marked_turn, repeat_none, repeat_back, repeat_met)
