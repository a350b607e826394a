-- `heavy::note` meets its contract.
use Prim.Native.Nat.{◌+◌}
use mathlib.Core.Path.{refl}
use native.Mathlib.Omega.{arith}
use lib.ListN.{get_or}
use Rattle.heavy.specs.Counters.{names_in, counts_in}
use Rattle.heavy.proofs.Seeking.{length-names, length-counts, names_kept, names_set, counts_set, count_at, count_below, notes_up, notes-taken, notes_down}
use Rattle.heavy.proofs.note.Goals as goal

pub overflow_add-counters : goal.overflow_add-counters
overflow_add-counters c = omega (arith, count_at c.args.counters.now c.in-Some.i, count_below c.in-Some.i (counts_in c.args.counters.now), c.requires)

pub returns-in-Some : goal.returns-in-Some
returns-in-Some c =
    let cs = c.args.counters.now in
    let i = c.in-Some.i in
    let d = get_or cs i (record { name = 0; count = 0 }) in
    rw (names_kept cs i (d.count + 1), counts_set cs i d.name (d.count + 1), count_at cs i)
    (notes_up c.args.x (names_in cs) (counts_in cs) c.in-Some.ensures.0 (omega (arith, length-names cs, c.in-Some.ensures.1)))

pub returns-in-Some-unused : goal.returns-in-Some-unused
returns-in-Some-unused c =
    let cs = c.args.counters.now in
    let j = c.in-Some-unused.j in
    rw (names_set cs j c.args.x 1, counts_set cs j c.args.x 1)
    (notes-taken c.args.x (names_in cs) (counts_in cs) refl c.in_default.ensures c.in-Some-unused.ensures.0 (omega (arith, length-counts cs, c.in-Some-unused.ensures.1)))

pub returns : goal.returns
returns c =
    let cs = c.args.counters.now in
    rw (c.lower.ensures.0) (notes_down c.args.x (names_in cs) (counts_in cs) refl c.in_default.ensures refl c.in_default-unused.ensures c.lower.ensures.1)
