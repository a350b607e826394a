-- `printing::entries::put_behind` meets its contract. The loop's invariant: the first i entries are written.
use mathlib.Core.Path.{refl}
use native.Mathlib.Omega.{arith}
use Rattle.printing.proofs.EntryLists.{no-entries, more_entries}
use Rattle.printing.proofs.entries.put_behind.Goals as goal

pub loop-i-init : goal.loop-i-init
loop-i-init c =
    (refl, omega arith, no-entries c.args.out.now c.args.at c.args.answer.now c.args.first refl)

pub loop-i-preserved : goal.loop-i-preserved
loop-i-preserved c =
    let w = more_entries c.args.first
    c.loop-i.i
    c.args.answer.now
    (omega arith) c.loop-i.invariant.0
    c.loop-i.invariant.2 c.put_bytes-from.ensures
    c.put_entry-to.ensures in
    (omega (arith, c.put_entry-to.auto, c.put_bytes-from.auto), omega (arith, w.0), w.1)
