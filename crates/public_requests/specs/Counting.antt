-- What `counts` says of a connection.
use Rattle.std.specs.Prelude.{ℕ, ◌≡◌, List, Result, Ok, Err}
use Rattle.machine.specs.Table.{held_by, owned_by}
use Rattle.store.specs.Image.{SoundStore}
use Rattle.outcome.specs.declared.refusal.Refusal.{Refusal}
use Rattle.outcome.specs.Refusals.{number_of}
use Rattle.public_requests.specs.declared.Counts.{Counts}

-- an answer in document 01's numbers: that of a refusal, or two counts
pub data Counted : Type 0 where
  NotCounted : ℕ → Counted
  Are : ℕ → ℕ → Counted

abbrev pub counts_of : Result Counts Refusal → Counted
counts_of (Err r) = NotCounted (number_of r)
counts_of (Ok c) = Are c.announced c.owned

-- of the bytes b and the connection n: refused by the table's 3, then its 4; else its announcements and its owned requests, in the state that the bytes write
pub record CountsOf (b : List ℕ) (n : ℕ) (r : Counted) : Type 0 where
  pub unsound : (SoundStore b → ⊥) → r ≡ NotCounted 3
  pub nobody : SoundStore b → n ≡ 0 → r ≡ NotCounted 4
  pub told : (w : SoundStore b) → (n ≡ 0 → ⊥) → r ≡ Are (held_by n w.state.table) (owned_by n w.state.table)
