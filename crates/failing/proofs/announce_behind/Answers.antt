use native.Mathlib.Omega.{arith}
use mathlib.Core.Path.{refl}
use Rattle.ident.specs.Words.{key_num}
use Rattle.lent_lists.specs.Lists.{hashes_in}
use Rattle.machine.specs.State.{limits_of}
use Rattle.machine.specs.Fail.{announce_parents}
use Rattle.machine.proofs.AnswerLengths.{length-announce_parents}
use Rattle.failing.proofs.Handing.{listed-behind}
use Rattle.failing.proofs.announce_behind.Goals as goal

pub overflow_add-result : goal.overflow_add-result
overflow_add-result c =
    let kept = c.requires.0 in
    omega (
      arith,
      c.announce_parents-c.ensures.count kept.state kept.sound kept.writes,
      length-announce_parents (limits_of kept.state) c.args.n.number
          c.args.clock (hashes_in
          c.args.list.now) kept.state.table,
      c.requires.1,
    )

pub returns : goal.returns
returns c = listed-behind c.args.out.now _
    (key_num c.args.k) _
    c.put_key.ensures refl
    (λ m t. announce_parents m c.args.n.number
    c.args.clock
    (hashes_in c.args.list.now) t)
    c.announce_parents-c.ensures
