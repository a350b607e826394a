-- `heavy::count` meets its contract.
use mathlib.Core.Path.{refl, ◌∙◌}
use native.Mathlib.Omega.{arith}
use Rattle.heavy.specs.Counters.{names_in, counts_in}
use Rattle.heavy.proofs.Seeking.{length-names, names_kept, counts_set, count_at, count_below, not_counted, counted_up}
use Rattle.heavy.proofs.count.Goals as goal

pub overflow_add-counters : goal.overflow_add-counters
overflow_add-counters c = omega (arith, count_at c.args.counters.now c.in-Some.at, count_below c.in-Some.at (counts_in c.args.counters.now), c.requires)

pub returns-in-Some : goal.returns-in-Some
returns-in-Some c =
    let cs = c.args.counters.now in
    let e = c.in-Some.ensures in
    let up = counted_up c.args.x (names_in cs) (counts_in cs) e.0 (omega (arith, length-names cs, e.1)) in (
      names_kept cs c.in-Some.at _,
      counts_set _ _ _ _ ∙ rw (count_at cs c.in-Some.at) up,
    )

pub returns-in_default : goal.returns-in_default
returns-in_default c = (refl, not_counted c.args.x (names_in c.args.counters.now) (counts_in c.args.counters.now) refl c.in_default.ensures)
