use Rattle.regions.proofs.Bits.{is_one, not_one}
use mathlib.Core.Path.{refl}
use borrow.Author.Tests.{not-true, not-false}
use Rattle.tearing.proofs.TearingRows.{tear_stays, tear_goes, tear_readies}
use Rattle.tearing.proofs.tear_row.Goals as goal

pub returns-then-not-found : goal.returns-then-not-found
returns-then-not-found c = tear_stays c.args.clock
    c.args.m
    c.args.i
    c.row_at-r.ensures c.find-found.ensures (not-true c.find-found.result.packaged c.if-not-found.true) c.keep_row.ensures

pub returns-then-owns : goal.returns-then-owns
returns-then-owns c = tear_goes c.args.clock
    c.args.m
    c.args.i
    c.row_at-r.ensures c.find-found.ensures (not-false c.find-found.result.packaged c.if-not-found.false)
    (is_one _ c.owns.ensures c.if-owns.true) c.count_off.ensures

pub returns : goal.returns
returns c = tear_readies c.args.clock
    c.args.m
    c.args.i
    c.row_at-r.ensures
    c.find-found.ensures (not-false c.find-found.result.packaged c.if-not-found.false)
    (not_one _ c.owns.ensures c.if-owns.false) refl c.set.ensures
