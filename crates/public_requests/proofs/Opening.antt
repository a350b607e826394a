-- What opening does, case by case of its refusals.
use Prim.Native.Nat.{ℕ, zero, suc, ◌≤◌, ◌<◌}
use mathlib.Core.Path.{◌≡◌, refl}
use mathlib.Core.Bool.{true, false, ◌&&◌}
use mathlib.Core.List.{List, [], ◌∷◌, ◌++◌}
use lib.Dec.{leb}
use native.Mathlib.Omega.{arith}
use lib.ListN.{length, drop, get_or}
use borrow.Author.Tests.{lt-ltb, le-ltb, leb-true}
use Rattle.machine.specs.Limits.{max_announcements, max_places, need}
use Rattle.machine.specs.Call.{Open, sizes_taken, opening_refusal, refusal}
use Rattle.machine.specs.Step.{Refused, Number, empty, carry_out, written, step_if}
use Rattle.machine.proofs.Tests.{and_left, and_right}
use Rattle.store.specs.Image.{Writes, stored, Bytes}
use Rattle.store.proofs.Stored.{written_bytes}
use Rattle.outcome.specs.Outcome.{outcome_if, Leaves}
use Rattle.outcome.proofs.Contract.{does_not_open}

-- what is known of the bytes of a store is known of its front
pub bytes_front : (a z : List ℕ) → ((i : ℕ) → get_or (a ++ z) i 0 < 256) → Bytes a
bytes_front [] z p i = omega arith
bytes_front (x ∷ a) z p zero = p 0
bytes_front (x ∷ a) z p (suc i) = bytes_front a z (λ j. p (suc j)) i

module _ (L Q : ℕ) (b : List ℕ) where
  pub bad-sizes : sizes_taken L Q ≡ false → Leaves (Open L Q) b b (Refused 2)
  unfolding opening_refusal
  bad-sizes e = does_not_open b _ L Q refl 1 (rw e) refl refl

  pub short-store : sizes_taken L Q ≡ true → length b < need L Q → Leaves (Open L Q) b b (Refused 1)
  unfolding opening_refusal
  short-store e h = does_not_open b _ L Q refl 0 (rw (e, lt-ltb (length b) (need L Q) h)) refl refl

  pub opened : (p : List ℕ) → sizes_taken L Q ≡ true → need L Q ≤ length b → Bytes p → Writes p (empty L Q) → Leaves (Open L Q) b (p ++ drop (need L Q) b) (Number 1)
  unfolding outcome_if step_if refusal opening_refusal carry_out written stored
  opened p e h q w = record { sound = false; tested = tt; effect = rw (e, le-ltb (length b) (need L Q) h, ← written_bytes p (empty L Q) q w) }

pub taken-limit : (L Q : ℕ) → sizes_taken L Q ≡ true → L ≤ max_announcements
taken-limit L Q e = leb-true L max_announcements (and_right (leb 1 L) _ (and_left (leb 1 L && leb L max_announcements) _ e))

pub taken_places : (L Q : ℕ) → sizes_taken L Q ≡ true → Q ≤ max_places
taken_places L Q e = leb-true Q max_places (and_right (leb 1 Q) _ (and_right (leb 1 L && leb L max_announcements) _ e))
