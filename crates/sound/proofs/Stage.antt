-- Stage, combined hash and number of wtxids of a place.
use Prim.Native.Nat.{ℕ, zero, suc, ◌≤◌}
use mathlib.Core.Path.{◌≡◌, refl}
use mathlib.Core.Logic.{◌⊎◌, inl, inr}
use mathlib.Core.Bool.{Bool}
use native.Mathlib.Omega.{arith}
use lib.Dec.{leb}
use borrow.Author.Tests.{leb-true, leb-false}
use Rattle.words.specs.Words.{Decides}
use Rattle.machine.specs.Limits.{max_wtxids}
use Rattle.machine.proofs.Tests.{test}
use Rattle.sound.specs.Places.{StagePlain}
use Rattle.sound_rows.proofs.Decide.{decides_iff}

pub record Flag (s h n : ℕ) : Type 0 where
  pub stage : s ≡ 1
  pub combined : h ≡ 0
  pub wtxids : n ≡ 0

pub record Packed (s n : ℕ) : Type 0 where
  pub some : 2 ≤ s
  pub most : s ≤ 3
  pub some_wtxid : 1 ≤ n
  pub few_wtxids : n ≤ max_wtxids

pub stage_cases : (s h n : ℕ) → StagePlain s h n → Flag s h n ⊎ Packed s n
stage_cases zero h n p = absurd p
stage_cases (suc zero) h n p = inl (record { stage = refl; combined = p.0; wtxids = p.1 })
stage_cases (suc (suc zero)) h n p = inr (record { some = omega arith; most = omega arith; some_wtxid = p.0; few_wtxids = p.1 })
stage_cases (suc (suc (suc zero))) h n p = inr (record { some = omega arith; most = omega arith; some_wtxid = p.0; few_wtxids = p.1 })
stage_cases (suc (suc (suc (suc s)))) h n p = absurd p

pub stage_few : (s h n : ℕ) → StagePlain s h n → n ≤ max_wtxids
stage_few s h n p = elim (stage_cases s h n p) [ inl f ↦ omega (arith, f.wtxids) | inr f ↦ f.few_wtxids ]

pub flag-decides : (s h n : ℕ) (b : Bool) → s ≡ 1 → n ≡ 0 → Decides b (h ≡ 0) → Decides b (StagePlain s h n)
flag-decides s h n b e z d = rw e (decides_iff b (record { to = λ h. (h, z); from = λ p. p.0 }) d)

pub some_decides : (m n : ℕ) → m ≡ n → Decides (leb 1 m) (1 ≤ n)
some_decides m n e = elim (test (leb 1 m)) [
  | inl t ↦ rw t (omega (arith, leb-true 1 m t))
  | inr t ↦ rw t (λ p. omega (arith, leb-false 1 m t))
]

-- for the tactic
pub ruleset staged = (flag-decides)
