-- `printing::keys::put_behind` meets its contract.
use mathlib.Core.Path.{refl}
use native.Mathlib.Omega.{arith}
use Rattle.printing.proofs.Behind.{none_behind, more_behind}
use Rattle.printing.proofs.keys.put_behind.Goals as goal

pub loop-i-init : goal.loop-i-init
loop-i-init c = (refl, omega arith, none_behind c.args.out.now c.args.at _ refl)

pub loop-i-preserved : goal.loop-i-preserved
loop-i-preserved c =
    let w = more_behind c.args.first c.loop-i.i
    c.args.answer.now
    (omega arith) c.loop-i.invariant.0
    c.loop-i.invariant.2 c.put_bytes-from.ensures
    c.put_key-to.ensures in
    (omega (arith, c.put_key-to.auto, c.put_bytes-from.auto), omega (arith, w.0), w.1)
