use Prim.Native.Nat.{◌<◌}
use native.Mathlib.Omega.{arith}
use Rattle.machine.specs.Limits.{word}
use Rattle.leaving.proofs.Ending.{parted-asks, parted}
use Rattle.leaving.proofs.disconnected.Goals as goal

pub drop_keys-parents-requires : goal.drop_keys-parents-requires
drop_keys-parents-requires c = let late : c.args.clock < word =
    omega (arith, c.well_formed.1.1.0) in
    parted-asks c.args.n.number c.args.clock late
    c.requires.0
    c.requires.1 c.own_keys-own.ensures

pub returns : goal.returns
returns c = let late : c.args.clock < word =
    omega (arith, c.well_formed.1.1.0) in
    parted c.args.n.number
    c.args.clock late
    c.requires.1
    c.own_keys-own.ensures c.drop_keys-parents.ensures
