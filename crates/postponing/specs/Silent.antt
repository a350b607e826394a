-- Owners whose time is over, where none of them has a place: their rows go in one pass.
use Rattle.std.specs.Prelude.{ℕ, ◌≡◌, Bool, true, false, ◌&&◌, [], ◌∷◌, leb, if◌then◌else◌}
use Rattle.std.proofs.Math.Option.{Option, none, some}
use Rattle.ident.specs.Number.{Key, other}
use Rattle.regions.specs.declared.Row.{Row}
use Rattle.machine.specs.State.{Owner, Request, Table, with_candidates, unowned}
use Rattle.machine.specs.Table.{keep, change}
use Rattle.machine.specs.Announce.{without}
use Rattle.machine.specs.Sound.{All}
use Rattle.store.specs.Flat.{places_for}
use Rattle.store.specs.FlatSound.{owns}
use Rattle.package_stages.specs.Changes.{owner_num}
use Rattle.failing.specs.Changes.{readied}

-- ---- the machine in two steps: all candidates beside those who fail are ready, under both kinds; then they go

abbrev pub readied_both : ℕ → Key → Table → Table
readied_both now k t = change (other k) (readied now) (change k (readied now) t)

abbrev pub late : ℕ → Option Owner → Bool
late now none = false
late now (some o) = leb o.deadline now

-- the connection goes, and with it the owner
abbrev pub gone : ℕ → Request → Request
gone n r = with_candidates (without n r.candidates) (unowned r)

abbrev pub dropped_in : ℕ → Request → Request
dropped_in now r = if late now r.owner then gone (owner_num r.owner) r else r

unfoldable pub dropped_all : ℕ → Table → Table
dropped_all now [] = []
dropped_all now (r ∷ t) = keep (dropped_in now r) (dropped_in now r).candidates (dropped_all now t)

-- who is late has no place
abbrev pub Unburdened : ℕ → Table → Type 0
Unburdened now t = All (λ r. late now r.owner ≡ true → places_for r ≡ []) t

-- ---- rows

-- the row says an owner whose time is over
abbrev pub is_due : ℕ → Row → Bool
is_due now r = owns r && leb r.deadline now
