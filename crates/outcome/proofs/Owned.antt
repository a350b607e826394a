-- A store that is not sound, and what an owner of the bytes may rely on: one law of each for all calls.
use Prim.Native.Nat.{ℕ}
use mathlib.Core.Path.{◌≡◌, refl, ap}
use mathlib.Core.Logic.{inl, inr}
use mathlib.Core.Bool.{true}
use mathlib.Core.List.{List, []}
use lib.Dec.{eqb}
use lib.ListN.{length}
use Rattle.std.specs.Prelude.{Result}
use Rattle.std.specs.Result.{IsErrAnd}
use Rattle.words.specs.Words.{words}
use Rattle.machine.specs.Call.{Buffer, Ask, Call, On, named, refusal}
use Rattle.machine.specs.Step.{Reply, Refused, carry_out, step_if}
use Rattle.machine.proofs.Tests.{test}
use Rattle.machine.proofs.Kept.{sound_step}
use Rattle.store.proofs.Stored.{stored-sound}
use Rattle.machine.specs.Typed.{CallTyped}
use Rattle.store.specs.Image.{SoundStore, Bytes}
use Rattle.store.specs.Read.{state_of}
use Rattle.outcome.specs.declared.refusal.Refusal.{Refusal}
use Rattle.outcome.specs.declared.Figures.{Figures}
use Rattle.outcome.specs.declared.Departure.{Departure}
use Rattle.outcome.specs.declared.refusal.Refusal.TheVariants.{NotSound}
use Rattle.outcome.specs.Refusals.{number_of}
use Rattle.outcome.specs.Outcome.{Effect, outcome_if, Does, Leaves, LeavesWith}
use Rattle.outcome.specs.Reply.{reply_of, figures_of, listing_of, departure_of, text_of}
use Rattle.outcome.proofs.Exits.{hands-on}
use Rattle.outcome.proofs.Contract.{does-unsound}
use Rattle.outcome.proofs.Calls.{does-true, does-steps}
use Rattle.outcome.proofs.Sizes.{step_room}
use Rattle.outcome.proofs.Stepped.{outcome-shown}

-- ---- a public call but opening, of a store that is not sound

-- refused with 3, and every byte stays
pub unsound_refused : {b : List ℕ} {e : Refusal} → (e ≡ NotSound) × (SoundStore b → ⊥) → (a : Ask) {u : Buffer} → u ≡ (named a (state_of (words b))).buffer
    → Does (On a) b (record { reply = Refused (number_of e); buffer = u; store = b })
unsound_refused {b} h a q = does-unsound b _ a h.1 (ap (λ (e : Refusal). Refused (number_of e)) h.0) q refl

-- the same by the answer, as `?` hands the refusal on: one law for each form of reply, so that the check finds it by what the call says of its answer
module _ (b : List ℕ) (e : Refusal) (a : Ask) where
  pub unsound_replied : (r : Result ℕ Refusal) → IsErrAnd r (λ y. y ≡ e) → (e ≡ NotSound) × (SoundStore b → ⊥) → [] ≡ (named a (state_of (words b))).buffer → Leaves (On a) b b (reply_of r)
  unsound_replied r h n q = rw (hands-on r h) (unsound_refused n a q)

  pub unsound_figured : (r : Result Figures Refusal) → IsErrAnd r (λ y. y ≡ e) → (e ≡ NotSound) × (SoundStore b → ⊥) → [] ≡ (named a (state_of (words b))).buffer
      → Leaves (On a) b b (figures_of r)
  unsound_figured r h n q = rw (hands-on r h) (unsound_refused n a q)

  module _ (u : Buffer) where
    pub unsound_listed : (r : Result ℕ Refusal) → IsErrAnd r (λ y. y ≡ e) → (e ≡ NotSound) × (SoundStore b → ⊥) → u ≡ (named a (state_of (words b))).buffer
        → LeavesWith (On a) b b u (listing_of r)
    unsound_listed r h n q = rw (hands-on r h) (unsound_refused n a q)

    pub unsound_departed : (r : Result Departure Refusal) → IsErrAnd r (λ y. y ≡ e) → (e ≡ NotSound) × (SoundStore b → ⊥) → u ≡ (named a (state_of (words b))).buffer
        → LeavesWith (On a) b b u (departure_of r)
    unsound_departed r h n q = rw (hands-on r h) (unsound_refused n a q)

    pub unsound_texted : (r : Result ℕ Refusal) → IsErrAnd r (λ y. y ≡ e) → (e ≡ NotSound) × (SoundStore b → ⊥) → u ≡ (named a (state_of (words b))).buffer
        → LeavesWith (On a) b b u (text_of r)
    unsound_texted r h n q = rw (hands-on r h) (unsound_refused n a q)

pub ruleset unsound = (unsound_replied, unsound_figured, unsound_listed, unsound_departed, unsound_texted)

-- ---- the owner's store

-- a call on a sound store leaves a sound store: that of the machine's next state, or the one that it was
keeps-sound : (b : List ℕ) (w : SoundStore b) (c : Call) → CallTyped c → SoundStore (outcome_if true b c).store
unfolding step_if
keeps-sound b w c t =
    rw (outcome-shown b w c) (elim (test (eqb (refusal (length b) true c w.state) 0)) [
      | inl q ↦ rw q (stored-sound (carry_out c w.state).state b (rw q at (sound_step (length b) c w.state t w.sound)) (rw q at (step_room (length b) c w.state w.long)))
      | inr q ↦ rw q w
    ])

pub does-keeps-sound : {c : Call} {b z : List ℕ} {r : Reply} {u : Buffer} → Does c b (record { reply = r; buffer = u; store = z }) → SoundStore b → CallTyped c → SoundStore z
does-keeps-sound {c} {b} d w t = rw (ap (λ (e : Effect). e.store) (does-true b _ c w d)) (keeps-sound b w c t)

-- of the same length
pub does-keeps-length : {b : List ℕ} {c : Call} {e : Effect} → SoundStore b → CallTyped c → Bytes b → Does c b e → length e.store ≡ length b
does-keeps-length {b} {c} {e} w t p d = (does-steps b e c w t p d).long
