use Prim.Native.Nat.{◌<◌}
use native.Mathlib.Omega.{arith}
use Rattle.ident.specs.Words.{key_num}
use Rattle.ident.proofs.Words.{key-four, hash_below}
use Rattle.machine.specs.Limits.{word}
use Rattle.failing.proofs.Leaving.{first_leave, second-leave, both_left}
use Rattle.failing.proofs.leave_both.Goals as goal

pub leave-requires : goal.leave-requires
leave-requires c = first_leave (key_num c.args.k)
    (hash_below c.args.k.hash (key-four c.args.k
    c.well_formed.1.0)) c.args.n
    c.requires.1 c.clear.ensures c.requires.0

pub leave-requires-2 : goal.leave-requires-2
leave-requires-2 c =
    let v : c.args.clock < word =
    omega (arith, c.well_formed.1.1.1.0) in
    second-leave (key_num c.args.k)
    (hash_below c.args.k.hash
    (key-four c.args.k
    c.well_formed.1.0))
    c.args.n
    c.requires.1 c.clear.ensures
    c.requires.0 v
    c.same_hash_other_kind-o.ensures c.leave.ensures

pub returns : goal.returns
returns c =
    let v : c.args.clock < word =
    omega (arith, c.well_formed.1.1.1.0) in
    both_left (key_num c.args.k)
    (hash_below c.args.k.hash
    (key-four c.args.k
    c.well_formed.1.0))
    c.args.n
    c.requires.1
    c.clear.ensures v
    c.same_hash_other_kind-o.ensures
    c.leave.ensures c.leave-2.ensures
