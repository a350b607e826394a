-- `postponing::lapsing::lapse` meets its contract.
use Prim.Native.Nat.{◌<◌}
use native.Mathlib.Omega.{arith}
use Rattle.ident.specs.Words.{key_num}
use Rattle.ident.proofs.Words.{key-four, hash_below}
use Rattle.machine.specs.Limits.{word}
use Rattle.postponing.proofs.LapsedSteps.{lapse_first, lapse_second, lapse_third, lapse_makes}
use Rattle.postponing.proofs.lapsing.lapse.Goals as goal

pub own-requires : goal.own-requires
own-requires c =
    let k = c.args.k in
    lapse_first (key_num k) (hash_below k.hash (key-four k c.well_formed.1.0)) c.args.n c.requires.1 c.clear.ensures c.requires.0

pub ready_all-requires : goal.ready_all-requires
ready_all-requires c =
    let k = c.args.k in
    lapse_second (key_num k) (hash_below k.hash (key-four k c.well_formed.1.0)) c.args.n c.requires.1 c.clear.ensures c.own.ensures c.requires.0

pub ready_all-requires-2 : goal.ready_all-requires-2
ready_all-requires-2 c =
    let k = c.args.k in
    let late : c.args.clock < word = omega (arith, c.well_formed.1.1.1.0) in
    lapse_third (key_num k) (hash_below k.hash (key-four k c.well_formed.1.0)) c.args.n c.requires.1 c.clear.ensures c.own.ensures
    c.args.clock late c.ready_all.ensures c.requires.0

pub returns : goal.returns
returns c =
    let k = c.args.k in
    let late : c.args.clock < word = omega (arith, c.well_formed.1.1.1.0) in
    lapse_makes (key_num k) (hash_below k.hash (key-four k c.well_formed.1.0)) c.args.n c.requires.1 c.clear.ensures c.own.ensures
    c.args.clock late c.ready_all.ensures c.same_hash_other_kind-o.ensures c.ready_all-2.ensures
