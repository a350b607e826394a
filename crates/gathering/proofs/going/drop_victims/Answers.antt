-- `gathering::going::drop_victims` meets its contract.
use native.Mathlib.Omega.{arith}
use Rattle.announcing.specs.Falls.{goes_by}
use Rattle.announcing.proofs.DroppingRows.{dropping_none, dropping_rows, dropping_shown, dropping_more, dropping_end}
use Rattle.gathering.proofs.Departing.{gone_at_once}
use Rattle.gathering.proofs.going.drop_victims.Goals as goal

pub loop-i-init : goal.loop-i-init
loop-i-init c = dropping_none _ (goes_by c.get-v.result)

pub drop_row-k-requires : goal.drop_row-k-requires
drop_row-k-requires c = (
  dropping_shown c.loop-i.invariant c.requires.0,
  c.loop-i.invariant.less,
  omega (
    arith,
    dropping_rows c.loop-i.invariant c.requires.0,
    c.loop-i-test.true,
    c.rows-n.ensures.word,
  ),
)

pub loop-i-preserved : goal.loop-i-preserved
loop-i-preserved c = dropping_more c.loop-i.invariant (omega
    (arith, c.rows-n.ensures.word, c.loop-i-test.true)) c.drop_row-k.auto.s
    c.drop_row-k.ensures

pub drop_rows-requires : goal.drop_rows-requires
drop_rows-requires c = (
  dropping_shown c.loop-i.invariant c.requires.0,
  omega (arith, dropping_rows c.loop-i.invariant c.requires.0, c.rows-n.ensures.word),
)

pub returns : goal.returns
returns c = gone_at_once c.requires.2
    c.requires.3 c.get-v.ensures
    (λ st s w. dropping_end c.loop-i.invariant c.rows-n.ensures.word (omega
    (arith, c.loop-i-test.false)) c.drop_rows.ensures st s w)
