-- `gathering::going::drop_row` meets its contract.
use Rattle.announcing.specs.Falls.{goes_by}
use Rattle.announcing.proofs.DroppingRows.{drop_goes, drop_stays}
use Rattle.gathering.proofs.Departing.{bare-row}
use Rattle.gathering.proofs.going.drop_row.Goals as goal

pub returns-then-goes : goal.returns-then-goes
returns-then-goes c = drop_goes (goes_by c.args.v)
    c.args.m c.args.i
    c.row_at-r.ensures c.goes.ensures c.if-goes.true (bare-row
    c.args.v c.row_at-r.result
    c.goes.ensures c.if-goes.true)
    c.count_out.ensures

pub returns : goal.returns
returns c = drop_stays (goes_by c.args.v)
    c.args.m c.args.i
    c.row_at-r.ensures c.goes.ensures c.if-goes.false
    c.keep_row.ensures
