use native.Mathlib.Omega.{arith}
use Rattle.store.proofs.Frame.{sizes}
use Rattle.requests.proofs.Keeping.{kept_shown}
use Rattle.tearing.proofs.TearingRows.{tearing_none, tearing-rows, tearing-shown, tearing_more, tearing-cut, tearing_end}
use Rattle.tearing.proofs.tear_rows.Goals as goal

pub rows-n-requires : goal.rows-n-requires
rows-n-requires c = omega (arith, sizes c.requires.writes)

pub reach-first-requires : goal.reach-first-requires
reach-first-requires c = (kept_shown c.requires, omega arith)

pub loop-i-init : goal.loop-i-init
loop-i-init c = tearing_none _ c.args.clock c.reach-first.ensures.stands

pub tear_row-k-requires : goal.tear_row-k-requires
tear_row-k-requires c = (
  tearing-shown c.loop-i.invariant c.requires,
  c.loop-i.invariant.less,
  omega (
    arith,
    tearing-rows c.loop-i.invariant c.requires,
    c.loop-i-test.true,
    c.rows-n.ensures.word,
  ),
)

pub loop-i-preserved : goal.loop-i-preserved
loop-i-preserved c = tearing_more c.loop-i.invariant
    (omega (arith, c.rows-n.ensures.word, c.loop-i-test.true)) c.tear_row-k.auto.s
    c.tear_row-k.ensures

pub drop_rows-requires : goal.drop_rows-requires
drop_rows-requires c = (
  tearing-shown c.loop-i.invariant c.requires,
  omega (arith, tearing-rows c.loop-i.invariant c.requires, c.rows-n.ensures.word),
)

pub drop_idle-requires : goal.drop_idle-requires
drop_idle-requires c = tearing-cut c.loop-i.invariant c.rows-n.ensures.word
    (omega (arith, c.loop-i-test.false)) c.drop_rows.ensures
    c.requires

pub returns : goal.returns
returns c = tearing_end c.loop-i.invariant
    c.rows-n.ensures.word
    (omega (arith, c.loop-i-test.false)) c.drop_rows.ensures
    c.drop_idle.ensures
