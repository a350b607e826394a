-- The contract of a public call, by what the store's bytes write.
use Prim.Native.Nat.{ℕ, suc}
use mathlib.Core.Path.{◌≡◌, refl, ap, ◌∙◌}
use mathlib.Core.Bool.{Bool, true, false}
use mathlib.Core.List.{List, []}
use mathlib.Core.Option.{some}
use lib.Dec.{eqb-suc-zero}
use lib.ListN.{length}
use Rattle.words.specs.Words.{words}
use Rattle.machine.specs.State.{State}
use Rattle.machine.specs.Listing.{read_listing}
use Rattle.machine.specs.Call.{Ask, Call, Open, Restore, On, opening_refusal, restore_refusal, ask_refusal, refusal}
use Rattle.machine.specs.Step.{Refused, Number, Outcome, carry_out, written, empty, buffer_of, step_if, step}
use Rattle.machine.specs.Typed.{CallTyped}
use Rattle.machine.proofs.Kept.{sound_empty, restored-sound}
use Rattle.store.specs.Image.{SoundStore, stored, Bytes}
use Rattle.store.specs.Read.{state_of}
use Rattle.outcome.specs.Outcome.{Effect, outcome_if, Tested, Does}
use Rattle.outcome.proofs.Sizes.{opening-fits, restoring_fits}
use Rattle.outcome.specs.Steps.{Stepped}
use Rattle.outcome.proofs.Stepped.{stepped-stored, call-steps}

-- "An opened store" is an empty tracker
abbrev pub opened : ℕ → ℕ → Outcome
opened L Q = record { reply = Number 1; buffer = []; state = empty L Q }

-- a listing that is read leaves the state that it lists
abbrev pub read : State → Outcome
read t = record { reply = Number 1; buffer = []; state = t }

module _ (b : List ℕ) (e : Effect) where
  -- ---- on a sound store

  -- opening looks at no bytes
  any_opening : (L Q : ℕ) (x : Bool) → outcome_if x b (Open L Q) ≡ outcome_if true b (Open L Q)
  unfolding outcome_if step_if refusal
  any_opening L Q x = refl

  -- nor does the reading of a listing
  any_reading : (x : List ℕ) (o : Bool) → outcome_if o b (Restore x) ≡ outcome_if true b (Restore x)
  unfolding outcome_if step_if refusal
  any_reading x o = refl

  told : (a : Ask) (x : Bool) → SoundStore b → Tested (On a) x b → e ≡ outcome_if x b (On a) → e ≡ outcome_if true b (On a)
  told a true w t q = q
  told a false w t q = absurd (t w)

  pub does-true : (c : Call) → SoundStore b → Does c b e → e ≡ outcome_if true b c
  does-true (Open L Q) w d = d.effect ∙ any_opening L Q d.sound
  does-true (Restore x) w d = d.effect ∙ any_reading x d.sound
  does-true (On a) w d = told a d.sound w d.tested d.effect

  pub does-steps : (c : Call) (w : SoundStore b) → CallTyped c → Bytes b → Does c b e → Stepped b (step (length b) c w.state) e
  does-steps c w t p d = rw (does-true c w d) (call-steps b w c t p)

  -- ---- on any other

  -- "store bytes do not write a sound state: 3"; store and buffer stay
  unsound_told : (a : Ask) (x : Bool) → (SoundStore b → ⊥) → Tested (On a) x b → e ≡ outcome_if x b (On a)
      → (e.reply ≡ Refused 3) × (e.buffer ≡ buffer_of (On a) (state_of (words b))) × (e.store ≡ b)
  unfolding outcome_if step_if refusal ask_refusal
  unsound_told a true n t q = absurd (n t)
  unsound_told a false n t q = (ap (λ (e : Effect). e.reply) q, ap (λ (e : Effect). e.buffer) q, ap (λ (e : Effect). e.store) q)

  pub does_refuse : (a : Ask) → (SoundStore b → ⊥) → Does (On a) b e → (e.reply ≡ Refused 3) × (e.buffer ≡ buffer_of (On a) (state_of (words b))) × (e.store ≡ b)
  does_refuse a n d = unsound_told a d.sound n d.tested d.effect

  -- ---- an opening, whatever the bytes were

  module _ (L Q : ℕ) (z : opening_refusal (length b) L Q ≡ 0) where
    opens : outcome_if true b (Open L Q) ≡ record { reply = Number 1; buffer = []; store = stored (empty L Q) b }
    unfolding outcome_if step_if refusal carry_out written
    opens = rw z

    pub does-open : Bytes b → Does (Open L Q) b e → Stepped b (opened L Q) e
    does-open p d =
        let f = opening-fits (length b) L Q z in
        let q : e ≡ record { reply = Number 1; buffer = []; store = stored (empty L Q) b } = d.effect ∙ any_opening L Q d.sound ∙ opens in
        stepped-stored b (opened L Q) e p (sound_empty L Q f.0) f.1 (ap (λ (e : Effect). e.reply) q) (ap (λ (e : Effect). e.buffer) q) (ap (λ (e : Effect). e.store) q)

  -- ---- the reading of a listing, whatever the bytes were

  module _ (x : List ℕ) (t : State) (g : read_listing x ≡ some t) (z : restore_refusal (length b) (some t) ≡ 0) where
    reads : outcome_if true b (Restore x) ≡ record { reply = Number 1; buffer = []; store = stored t b }
    unfolding outcome_if step_if refusal carry_out written
    reads = rw (g, z)

    pub does_read : Bytes b → Does (Restore x) b e → Stepped b (read t) e
    does_read p d =
        let q : e ≡ record { reply = Number 1; buffer = []; store = stored t b } = d.effect ∙ any_reading x d.sound ∙ reads in
        stepped-stored b (read t) e p (restored-sound (length b) (some t) t z) (restoring_fits (length b) (some t) t z)
        (ap (λ (e : Effect). e.reply) q) (ap (λ (e : Effect). e.buffer) q) (ap (λ (e : Effect). e.store) q)

  -- one that is refused leaves every byte
  pub does_not_read : (x : List ℕ) (m : ℕ) → restore_refusal (length b) (read_listing x) ≡ suc m → Does (Restore x) b e → (e.reply ≡ Refused (suc m)) × (e.store ≡ b)
  does_not_read x m z d =
      let q : e ≡ record { reply = Refused (suc m); buffer = []; store = b } = d.effect ∙ any_reading x d.sound ∙ kept in
      (ap (λ (e : Effect). e.reply) q, ap (λ (e : Effect). e.store) q)
    where
      kept : outcome_if true b (Restore x) ≡ record { reply = Refused (suc m); buffer = []; store = b }
      kept = unfold outcome_if step_if refusal in rw (z, eqb-suc-zero m)
