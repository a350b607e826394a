-- `tallying::counts::count` meets its contract.
use native.Mathlib.Omega.{arith}
use Rattle.tallying.proofs.Tables.{entry_few}
use Rattle.tallying.proofs.counts.count.Goals as goal

pub overflow_add-d : goal.overflow_add-d
overflow_add-d c =
    let e = rw (c.new.ensures.0, c.new.ensures.1) at c.is_entry.ensures in
    omega (arith, c.requires.1, entry_few c.requires.2.partly c.requires.2.more c.read-c.ensures (e.inside c.if-is_entry.true) c.read-e.ensures)

pub overflow_add-d-then-is_entry : goal.overflow_add-d-then-is_entry
overflow_add-d-then-is_entry c =
    let e = rw (c.new.ensures.0, c.new.ensures.1) at c.is_entry.ensures in
    omega (arith, c.requires.1, entry_few c.requires.2.partly c.requires.2.more c.read-c.ensures (e.inside c.if-is_entry.true) c.read-e.ensures)
