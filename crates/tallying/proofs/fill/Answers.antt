-- `tallying::fill` meets its contract.
use Prim.Native.Nat.{◌/◌}
use Rattle.regions.proofs.Bits.{as_bit}
use Rattle.tallying.proofs.Filling.{filling_none, filling_shown, filling_row, filling_room, filling_more}
use Rattle.tallying.proofs.fill.Goals as goal

pub loop-i-init : goal.loop-i-init
loop-i-init c = filling_none c.rows-n.ensures.word c.requires.1

pub row_at-r-requires : goal.row_at-r-requires
row_at-r-requires c = (
  filling_shown c.requires.0 c.loop-i.invariant,
  filling_row
      c.requires.0 c.loop-i.invariant c.loop-i-test.true,
)

pub add-requires : goal.add-requires
add-requires c = (
  filling_shown c.requires.0 c.loop-i.invariant,
  (filling_room c.requires.0 c.loop-i.invariant
      c.loop-i-test.true).0,
  (filling_room c.requires.0 c.loop-i.invariant
      c.loop-i-test.true).1,
)

pub loop-i-preserved : goal.loop-i-preserved
loop-i-preserved c = filling_more c.requires.0
    c.loop-i.invariant c.loop-i-test.true
    c.row_at-r.ensures (as_bit (c.row_at-r.result.bits / 8) c.from.ensures c.owns.ensures)
    c.add.ensures c.add.auto.s
