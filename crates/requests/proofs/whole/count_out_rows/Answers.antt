use Prim.Native.Nat.{◌/◌}
use native.Mathlib.Omega.{arith}
use Rattle.regions.proofs.Bits.{as_bit}
use Rattle.requests.proofs.Shearing.{none_out, out_shown, out_rows, one_out}
use Rattle.requests.proofs.whole.count_out_rows.Goals as goal

pub loop-i-init : goal.loop-i-init
loop-i-init c = none_out c.args.w.from c.args.w.to c.args.w.order

pub row_at-r-requires : goal.row_at-r-requires
row_at-r-requires c = (
  out_shown c.requires.0 c.loop-i.invariant c.requires.1,
  omega (arith, out_rows c.requires.0 c.loop-i.invariant c.requires.1),
)

pub count_out-requires : goal.count_out-requires
count_out-requires c = out_shown c.requires.0 c.loop-i.invariant
    c.requires.1

pub loop-i-preserved : goal.loop-i-preserved
loop-i-preserved c = one_out c.requires.0 c.loop-i.invariant
    c.requires.1 c.loop-i-test.true
    c.row_at-r.ensures c.count_out.auto.s (rw (as_bit (c.row_at-r.result.bits / 8) c.from.ensures c.owns.ensures) at c.count_out.ensures)
