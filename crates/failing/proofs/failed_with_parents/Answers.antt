use Prim.Native.Nat.{◌<◌}
use native.Mathlib.Omega.{arith}
use Rattle.ident.specs.Words.{key_num}
use Rattle.ident.proofs.Words.{key-four, hash_below}
use Rattle.machine.specs.Limits.{word}
use Rattle.failing.proofs.Handing.{nothing-handed, failed_kept, handed}
use Rattle.failing.proofs.failed_with_parents.Goals as goal

pub returns-then-not-failed : goal.returns-then-not-failed
returns-then-not-failed c = nothing-handed (key_num c.args.k)
    c.args.n.number
    c.args.clock
    c.args.out.now c.if-not-failed.true
    c.failed.ensures

pub announce_behind-requires : goal.announce_behind-requires
announce_behind-requires c =
    let v : c.args.clock < word =
    omega (arith, c.well_formed.1.1.1.0) in (
      failed_kept (key_num c.args.k)
          (hash_below c.args.k.hash
          (key-four c.args.k
          c.well_formed.1.0))
          c.args.n.number
          c.args.clock v
          c.if-not-failed.false
          c.failed.ensures
          c.requires.0,
      c.parents_for-parents.ensures.0,
      omega (arith, c.parents_for-parents.ensures.0, c.requires.1),
    )

pub returns : goal.returns
returns c =
    let v : c.args.clock < word =
    omega (
      arith,
      c.well_formed.1.1.1.0,
    ) in
    handed (key_num c.args.k)
    (hash_below
    c.args.k.hash
    (key-four c.args.k
    c.well_formed.1.0))
    c.args.n.number
    c.args.clock v
    c.if-not-failed.false
    c.failed.ensures _
    c.parents_for-parents.ensures.1
    c.announce_behind.ensures
