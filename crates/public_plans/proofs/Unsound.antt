-- A store that is not sound: of the replies of this crate's own forms, as crates/outcome/proofs/Owned has it of the others.
use Prim.Native.Nat.{ℕ}
use mathlib.Core.Path.{◌≡◌}
use mathlib.Core.List.{List}
use Rattle.std.specs.Prelude.{Result}
use Rattle.std.specs.Result.{IsErrAnd}
use Rattle.words.specs.Words.{words}
use Rattle.machine.specs.Call.{Buffer, Ask, On, named}
use Rattle.store.specs.Image.{SoundStore}
use Rattle.store.specs.Read.{state_of}
use Rattle.outcome.specs.declared.refusal.Refusal.{Refusal}
use Rattle.outcome.specs.declared.refusal.Refusal.TheVariants.{NotSound}
use Rattle.outcome.specs.Outcome.{LeavesWith}
use Rattle.outcome.proofs.Exits.{hands-on}
use Rattle.outcome.proofs.Owned.{unsound as others, unsound_refused}
use Rattle.public_plans.specs.Entries.{entries_of, planned_of}
use Rattle.public_plans.specs.Ownership.{owners_of}
use Rattle.public_plans.specs.declared.Selection.{Selection}

module _ (b : List ℕ) (e : Refusal) (a : Ask) (u : Buffer) where
  pub unsound-entries : (r : Result ℕ Refusal) → IsErrAnd r (λ y. y ≡ e) → (e ≡ NotSound) × (SoundStore b → ⊥) → u ≡ (named a (state_of (words b))).buffer
      → LeavesWith (On a) b b u (entries_of r)
  unsound-entries r h n q = rw (hands-on r h) (unsound_refused n a q)

  pub unsound_planned : (r : Result Selection Refusal) → IsErrAnd r (λ y. y ≡ e) → (e ≡ NotSound) × (SoundStore b → ⊥) → u ≡ (named a (state_of (words b))).buffer
      → LeavesWith (On a) b b u (planned_of r)
  unsound_planned r h n q = rw (hands-on r h) (unsound_refused n a q)

  pub unsound-owners : (hs : List ℕ) (r : Result ℕ Refusal) → IsErrAnd r (λ y. y ≡ e) → (e ≡ NotSound) × (SoundStore b → ⊥) → u ≡ (named a (state_of (words b))).buffer
      → LeavesWith (On a) b b u (owners_of hs r)
  unsound-owners hs r h n q = rw (hands-on r h) (unsound_refused n a q)

pub ruleset unsound = (others, unsound-entries, unsound_planned, unsound-owners)
