-- What the two free figures of sum say of newcomers (document 02, "The free figure misleads inbound and outbound alike").
use Rattle.std.specs.Prelude.{ℕ, ◌≤◌, ◌<◌, ◌≡◌, Bool, true, false, ltb}
use Rattle.std.proofs.Math.Option.{some}
use Rattle.ident.specs.Number.{Key, key_of}
use Rattle.machine.specs.Limits.{Limits, max_peer_announcements}
use Rattle.machine.specs.State.{Candidate, Table, State, limits_of}
use Rattle.machine.specs.Table.{one, held_by, held_at, is_candidate}
use Rattle.machine.specs.Wrapper.{Sums, sum}
use Rattle.machine.specs.Call.{Announce}
use Rattle.machine.specs.Step.{Number, perform}

-- the figure of a preferred newcomer, and of an unpreferred one
abbrev pub free_for : Bool → Sums → ℕ
free_for true f = f.preferred
free_for false f = f.free

-- "Both speak only of the limit L, not of the eight or the 5,000": none of these, nor an announcement of its own at the hash, is in c's way at k
pub record Unhindered (m : Limits) (k : Key) (c : Candidate) (t : Table) : Type 0 where
  pub new : is_candidate c.connection k.hash t ≡ false
  pub below_5000 : held_by c.connection t < max_peer_announcements
  pub below_eight : held_at k.hash t < m.alternates

pub record FreeFigures (s : State) : Type 0 where
  -- neither is above L
  pub most : (p : Bool) → free_for p (sum s) ≤ s.limit
  -- an announcement that nothing but L can hinder is accepted exactly if its figure is above 0
  pub enters : (k : Key) (c : Candidate) → key_of c.item ≡ some k → Unhindered (limits_of s) k c s.table → (perform (Announce c) s).reply ≡ Number (one (ltb 0 (free_for c.preferred (sum s))))
