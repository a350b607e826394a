-- One public call: what it leaves of a sound store is what the machine's step says.
use Prim.Native.Nat.{ℕ, ◌≤◌}
use mathlib.Core.Path.{◌≡◌, refl, ap, ◌∙◌}
use mathlib.Core.Logic.{inl, inr}
use mathlib.Core.Bool.{Bool, true}
use mathlib.Core.List.{List}
use native.Mathlib.Omega.{arith}
use lib.Dec.{eqb}
use lib.ListN.{length, take}
use Rattle.std.specs.Prelude.{if◌then◌else◌}
use Rattle.machine.specs.State.{State}
use Rattle.machine.specs.Sound.{Sound}
use Rattle.machine.specs.Call.{Call, refusal}
use Rattle.machine.specs.Step.{Outcome, step_if, step}
use Rattle.machine.specs.Typed.{CallTyped}
use Rattle.machine.proofs.Tests.{test}
use Rattle.machine.proofs.Kept.{sound_step}
use Rattle.store.specs.Image.{Writes, SoundStore, stored, Bytes, need_of}
use Rattle.store.proofs.Stored.{stored_front, stored_back, stored_bytes_lem, stored-length, stored-writes, state-shown, store_kept}
use Rattle.outcome.specs.Outcome.{Effect, outcome_if}
use Rattle.outcome.specs.Steps.{Stepped}
use Rattle.outcome.proofs.Sizes.{step_room}

-- ---- bytes that a state was stored in

module _ (b : List ℕ) (o : Outcome) (e : Effect) (p : Bytes b) (h : Sound o.state) (l : need_of o.state ≤ length b) where
  pub stepped-stored : e.reply ≡ o.reply → e.buffer ≡ o.buffer → e.store ≡ stored o.state b → Stepped b o e
  stepped-stored r u q =
      let n : length e.store ≡ length b = ap length q ∙ stored-length o.state b l in
      let w : Writes (take (need_of o.state) e.store) o.state = rw q (stored-writes o.state b h) in
      record {
        reply = r;
        buffer = u;
        sound = record { state = o.state; sound = h; long = omega arith; writes = w };
        state = refl;
        bytes = rw q (stored_bytes_lem o.state b p);
        long = n;
        front = rw q (stored_front o.state b);
        back = rw q (stored_back o.state b);
      }

-- ---- a call on a sound store

module _ (b : List ℕ) (w : SoundStore b) (c : Call) where
  abbrev n : ℕ
  n = length b

  same_reply : (outcome_if true b c).reply ≡ (step n c w.state).reply
  unfolding outcome_if
  same_reply = ap (λ (s : State). (step n c s).reply) (state-shown b w)

  same_buffer : (outcome_if true b c).buffer ≡ (step n c w.state).buffer
  unfolding outcome_if
  same_buffer = ap (λ (s : State). (step n c s).buffer) (state-shown b w)

  -- also a refused call leaves the image of the machine's state
  step_stored : Bytes b → (outcome_if true b c).store ≡ stored (step n c w.state).state b
  unfolding outcome_if step_if
  step_stored p =
      rw (state-shown b w) (elim (test (eqb (refusal n true c w.state) 0)) [
        | inl t ↦ rw t
        | inr t ↦ rw t (store_kept b w p)
      ])

  pub call-steps : CallTyped c → Bytes b → Stepped b (step n c w.state) (outcome_if true b c)
  call-steps t p =
      stepped-stored b (step n c w.state) (outcome_if true b c) p (sound_step n c w.state t w.sound) (step_room n c w.state w.long) same_reply same_buffer (step_stored p)

-- ---- for a call whose effect is computed

-- `outcome_if` on a state that is given
abbrev pub effect_of : Bool → List ℕ → Call → State → Effect
effect_of sound b c s =
    let o = step_if (length b) sound c s in
    record { reply = o.reply; buffer = o.buffer; store = if eqb (refusal (length b) sound c s) 0 then stored o.state b else b }

pub outcome-shown : (b : List ℕ) (w : SoundStore b) (c : Call) → outcome_if true b c ≡ effect_of true b c w.state
unfolding outcome_if
outcome-shown b w c = ap (effect_of true b c) (state-shown b w)
