use Prim.Native.Nat.{◌<◌}
use native.Mathlib.Omega.{arith}
use Rattle.ident.specs.Words.{key_num}
use Rattle.machine.specs.Limits.{word}
use Rattle.handing.proofs.GivingBack.{ready_kept, leave-free, eased_made}
use Rattle.announcing.proofs.Lent.{key_low}
use Rattle.handing.proofs.ease.Goals as goal

pub ready_all-requires : goal.ready_all-requires
ready_all-requires c = let v : c.args.clock < word =
    omega (arith, c.well_formed.1.1.1.0) in
    ready_kept (key_num c.args.k) (key_low c.args.k c.well_formed.1.0)
    c.args.n c.args.clock v
    c.requires.1 c.unclaim.ensures c.requires.0

pub leave-requires : goal.leave-requires
leave-requires c = let v : c.args.clock < word =
    omega (arith, c.well_formed.1.1.1.0) in
    leave-free (key_num c.args.k)
    (key_low c.args.k c.well_formed.1.0)
    c.args.n
    c.args.clock v
    c.requires.1 c.unclaim.ensures
    c.ready_all.ensures c.same_hash_other_kind-o.ensures
    c.requires.0

pub returns : goal.returns
returns c = let v : c.args.clock < word =
    omega (arith, c.well_formed.1.1.1.0) in
    eased_made (key_num c.args.k)
    (key_low c.args.k c.well_formed.1.0)
    c.args.n
    c.args.clock v
    c.requires.1
    c.unclaim.ensures c.ready_all.ensures
    c.same_hash_other_kind-o.ensures c.leave.ensures
