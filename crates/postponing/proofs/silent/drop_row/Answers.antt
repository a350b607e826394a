-- `postponing::silent::drop_row` meets its contract.
use Rattle.announcing.proofs.DroppingRows.{drop_goes, drop_stays}
use Rattle.postponing.specs.Silent.{is_due}
use Rattle.postponing.proofs.DroppedTables.{due-owns}
use Rattle.postponing.proofs.silent.drop_row.Goals as goal

pub returns-then-is_due : goal.returns-then-is_due
returns-then-is_due c = drop_goes (is_due c.args.clock)
    c.args.m
    c.args.i c.row_at-r.ensures
    c.is_due.ensures c.if-is_due.true
    (due-owns c.args.clock c.row_at-r.result
    c.is_due.ensures c.if-is_due.true) c.count_out.ensures

pub returns : goal.returns
returns c = drop_stays (is_due c.args.clock)
    c.args.m c.args.i
    c.row_at-r.ensures c.is_due.ensures c.if-is_due.false
    c.keep_row.ensures
