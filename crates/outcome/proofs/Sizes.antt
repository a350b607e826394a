-- A call keeps L and Q, or leaves the store with others that it has room for.
use Prim.Native.Nat.{ℕ, ◌≤◌}
use mathlib.Core.Path.{◌≡◌, refl}
use mathlib.Core.Logic.{inl, inr}
use mathlib.Core.Bool.{true}
use mathlib.Core.Option.{Option, none, some}
use native.Mathlib.Omega.{arith}
use lib.Dec.{ltb, eqb}
use borrow.Author.Tests.{ltb-false, eqb-true}
use Rattle.machine.specs.Limits.{need}
use Rattle.machine.specs.State.{State}
use Rattle.machine.specs.Call.{Ask, Announce}
use Rattle.machine.specs.Call.{Call, Open, On, sizes_taken, opening_refusal, refusal}
use Rattle.machine.specs.Call.{Restore, restore_refusal}
use Rattle.machine.specs.Plan.{plan}
use Rattle.machine.specs.Listing.{read_listing}
use Rattle.machine.specs.SoundTest.{is_sound}
use Rattle.machine.specs.Step.{perform, restored, carry_out, step_if, step}
use Rattle.machine.proofs.Tests.{test, by_test}
use Rattle.store.specs.Image.{need_of}

-- of the first call, and the same of each other
pub need_kept : (a : Ask) (s : State) → need_of (perform a s).state ≡ need_of s
unfolding perform plan
need_kept (Announce c) s = refl
need_kept a s = refl

-- an opening that is not refused has sizes that it takes, and room
pub opening-fits : (n L Q : ℕ) → opening_refusal n L Q ≡ 0 → (sizes_taken L Q ≡ true) × (need L Q ≤ n)
unfolding opening_refusal
opening-fits n L Q e =
    elim (test (sizes_taken L Q)) [
      | inl t ↦ elim (test (ltb n (need L Q))) [ inl d ↦ absurd (omega (arith, rw (t, d) at e)) | inr d ↦ (t, ltb-false n (need L Q) d) ]
      | inr t ↦ absurd (omega (arith, rw t at e))
    ]

-- a text that is not refused lists a state that the store has room for
pub restoring_fits : (n : ℕ) (o : Option State) (s : State) → restore_refusal n o ≡ 0 → need_of (restored o s) ≤ n
unfolding restore_refusal
restoring_fits n none s e = absurd (omega arith)
restoring_fits n (some t) s e =
    elim (test (is_sound t)) [
      | inl q ↦ elim (test (ltb n (need_of t))) [ inl d ↦ absurd (omega (arith, rw (q, d) at e)) | inr d ↦ ltb-false n (need_of t) d ]
      | inr q ↦ absurd (omega (arith, rw q at e))
    ]

carried-room : (n : ℕ) (c : Call) (s : State) → refusal n true c s ≡ 0 → need_of s ≤ n → need_of (carry_out c s).state ≤ n
unfolding carry_out refusal
carried-room n (Open L Q) s e h = (opening-fits n L Q e).1
carried-room n (Restore x) s e h = restoring_fits n (read_listing x) s e
carried-room n (On a) s e h = rw (need_kept a s) h

pub step_room : (n : ℕ) (c : Call) (s : State) → need_of s ≤ n → need_of (step n c s).state ≤ n
unfolding step_if
step_room n c s h = by_test (λ (t : State). need_of t ≤ n) (eqb (refusal n true c s) 0) (λ e. carried-room n c s (eqb-true (refusal n true c s) 0 e) h) (λ e. h)
