-- `postponing::later::fail_later` meets its contract.
use Prim.Native.Nat.{◌<◌}
use native.Mathlib.Omega.{arith}
use Rattle.ident.specs.Words.{key_num}
use Rattle.ident.proofs.Words.{key-four, hash_below}
use Rattle.machine.specs.Limits.{word}
use Rattle.postponing.proofs.FailingLater.{cleared_owner, few_gone, fails-later}
use Rattle.postponing.proofs.later.fail_later.Goals as goal

pub lapse-requires : goal.lapse-requires
lapse-requires c =
    let k = c.args.k in
    cleared_owner (key_num k) (hash_below k.hash (key-four k c.well_formed.1.1.1.0)) c.args.n c.requires.0 c.requires.1 c.clear_hash-gone.ensures

pub overflow_add-result : goal.overflow_add-result
overflow_add-result c = let l = few_gone (c.clear_hash-gone.ensures.pending c.requires.0.state c.requires.0.now_table c.requires.0.pending) in omega (arith, l)

pub returns : goal.returns
returns c =
    let k = c.args.k in
    let late : c.args.clock < word = omega (arith, c.well_formed.1.1.1.1.1.0) in
    fails-later (key_num k) (hash_below k.hash (key-four k c.well_formed.1.1.1.0)) c.args.n c.args.clock late c.requires.1 c.clear_hash-gone.ensures c.lapse.ensures
