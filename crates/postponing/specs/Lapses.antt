-- Requests that have failed and wait to go together: until then their owner has the deadline 0, which is over at any time, and one pass over
-- the rows takes out the owners whose time is over at 0 (specs/Silent).
use Rattle.std.specs.Prelude.{ℕ, ◌≡◌, Bool, true, false, not, ◌&&◌, List, [], ◌∷◌}
use Rattle.ident.specs.Number.{Key}
use Rattle.regions.specs.declared.Row.{Row}
use Rattle.machine.specs.State.{Request, Table, unowned, owned_until}
use Rattle.machine.specs.Table.{change}
use Rattle.machine.specs.Fail.{releasable}
use Rattle.machine.specs.Leave.{alive}
use Rattle.machine.specs.Sound.{All}
use Rattle.postponing.specs.Silent.{readied_both, late, is_due}

-- no row says an owner with the deadline 0
unfoldable pub none_due : List Row → Bool
none_due [] = true
none_due (r ∷ rs) = not (is_due 0 r) && none_due rs

-- no owner has the deadline 0
abbrev pub Timely : Table → Type 0
Timely t = All (λ r. late 0 r.owner ≡ false) t

-- the connection n fails the request, which does not wait already
abbrev pub lapses : ℕ → Request → Bool
lapses n r = releasable n r && alive 0 r.owner

-- the owner n waits to go, without flag, package and parents
abbrev pub overdue : ℕ → Request → Request
overdue n r = owned_until n 0 (unowned r)

-- and every candidate of the hash is ready
abbrev pub lapsed : Key → ℕ → ℕ → Table → Table
lapsed k n now t = readied_both now k (change k (overdue n) t)
