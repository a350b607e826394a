use Prim.Native.Nat.{◌<◌}
use native.Mathlib.Omega.{arith}
use mathlib.Core.Path.{sym, ◌∙◌}
use Rattle.ident.specs.Words.{hash_num, key_num}
use Rattle.ident.proofs.Words.{key-four, hash_below}
use Rattle.machine.specs.Limits.{word}
use Rattle.failing.proofs.Enqueued.{nothing_released, released_kept, released_handed}
use Rattle.failing.proofs.release_package.Goals as goal

pub returns-then-not-enqueued_by : goal.returns-then-not-enqueued_by
returns-then-not-enqueued_by c = nothing_released (key_num c.from-k.result) (hash_num c.args.subject.0)
    c.args.n.number c.args.clock
    c.args.out.now c.from-k.ensures
    (λ st s w. sym (c.enqueued_by.ensures st s w) ∙ c.if-not-enqueued_by.true)

pub announce_behind-requires : goal.announce_behind-requires
announce_behind-requires c =
    let v : c.args.clock < word =
    omega (arith, c.well_formed.1.1.1.0) in (
      released_kept (key_num c.from-k.result)
          (hash_below c.from-k.result.hash
          (key-four c.from-k.result
          c.from-k.type_inv))
          c.args.n.number
          c.args.clock v
          c.leave_both.ensures
          c.requires.0,
      c.parents_for-parents.ensures.0,
      omega (arith, c.parents_for-parents.ensures.0, c.requires.1),
    )

pub returns : goal.returns
returns c =
    let v : c.args.clock < word = omega (
      arith,
      c.well_formed.1.1.1.0,
    ) in
    released_handed (key_num
    c.from-k.result)
    (hash_below
    c.from-k.result.hash
    (key-four
    c.from-k.result
    c.from-k.type_inv))
    c.args.n.number c.args.clock v c.leave_both.ensures (hash_num c.args.subject.0)
    c.from-k.ensures
    (λ st s w. sym (c.enqueued_by.ensures st
    s w) ∙ c.if-not-enqueued_by.false) _
    c.parents_for-parents.ensures.1
    c.announce_behind.ensures
