-- `postponing::silent::drop_due` meets its contract.
use native.Mathlib.Omega.{arith}
use Rattle.announcing.proofs.DroppingRows.{dropping_none, dropping_rows, dropping_shown, dropping_more, dropping_end}
use Rattle.postponing.specs.Silent.{is_due}
use Rattle.postponing.proofs.DroppedTables.{dropped-writes}
use Rattle.postponing.proofs.silent.drop_due.Goals as goal

pub loop-i-init : goal.loop-i-init
loop-i-init c = dropping_none _ (is_due c.args.clock)

pub drop_row-m-requires : goal.drop_row-m-requires
drop_row-m-requires c = (
  dropping_shown c.loop-i.invariant c.requires,
  c.loop-i.invariant.less,
  omega (
    arith,
    dropping_rows c.loop-i.invariant c.requires,
    c.loop-i-test.true,
    c.rows-n.ensures.word,
  ),
)

pub loop-i-preserved : goal.loop-i-preserved
loop-i-preserved c = dropping_more c.loop-i.invariant
    (omega (arith, c.rows-n.ensures.word, c.loop-i-test.true)) c.drop_row-m.auto.s
    c.drop_row-m.ensures

pub drop_rows-requires : goal.drop_rows-requires
drop_rows-requires c = (
  dropping_shown c.loop-i.invariant c.requires,
  omega (arith, dropping_rows c.loop-i.invariant c.requires, c.rows-n.ensures.word),
)

pub returns : goal.returns
returns c = λ st s w p. dropped-writes c.args.clock st s p
    (dropping_end c.loop-i.invariant c.rows-n.ensures.word
    (omega (arith, c.loop-i-test.false)) c.drop_rows.ensures st s w)
