use Prim.Native.Nat.{◌<◌}
use native.Mathlib.Omega.{arith}
use Rattle.machine.specs.Limits.{word}
use Rattle.leaving.proofs.Ending.{going_first, ended}
use Rattle.leaving.proofs.drop_keys.Goals as goal

pub loop-i-init : goal.loop-i-init
loop-i-init c = λ st s w.
    let late : c.args.clock < word = omega (arith, c.well_formed.1.1.0) in
    going_first c.args.n.number c.args.clock late st s w c.args.out.now
    c.args.own (c.requires.2.count st s w) (c.requires.2.keys st s w)
    c.requires.1 c.idle_keys-i.ensures

pub returns : goal.returns
returns c = λ st s w. ended (c.loop-i.invariant st s w) c.loop-i-test.false c.cut_listed.ensures
