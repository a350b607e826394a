-- A request that is changed, read back at its key; and an owner is a candidate.
use Prim.Native.Nat.{ℕ, ◌≤◌}
use mathlib.Core.Path.{◌≡◌, ◌∙◌}
use mathlib.Core.Bool.{true}
use mathlib.Core.List.{List}
use mathlib.Core.Option.{Option, none, some}
use lib.ListN.{length}
use Rattle.ident.specs.Number.{Key}
use Rattle.machine.specs.State.{Candidate, Owner, Request, Table, owner_is}
use Rattle.machine.specs.Table.{at, change}
use Rattle.machine.specs.Sound.{OwnerFits, Ordered}
use Rattle.machine.proofs.Tests.{never}
use Rattle.machine.proofs.At.{KeepsKey, kept_some, at_same}
use Rattle.machine.proofs.Alone.{has_some}

-- a change that keeps the candidates of a request which has some
pub at_changed : (k : Key) (f : Request → Request) (t : Table) → KeepsKey f → Ordered 0 t → 1 ≤ length (f (at k t)).candidates → at k (change k f t) ≡ f (at k t)
at_changed k f t ff o h = at_same k f 0 t ff o ∙ kept_some k (f (at k t)) (f (at k t)).candidates h

pub owner_held : (n : ℕ) (o : Option Owner) (cs : List Candidate) → OwnerFits o cs → owner_is n o ≡ true → 1 ≤ length cs
owner_held n none cs f e = never e
owner_held n (some o) cs f e = has_some o.connection cs f.0
