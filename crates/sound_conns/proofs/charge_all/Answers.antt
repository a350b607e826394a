use borrow.Author.Rules.{rules}
use native.Mathlib.Omega.{arith}
use lib.ListN.{length-set}
use Rattle.words.proofs.Records.{length-recs}
use Prim.Native.Nat.{◌+◌}
use mathlib.Core.Path.{◌∙◌}
use Rattle.words.specs.Words.{words}
use Rattle.regions.specs.Rows.{conn_size, read_conn}
use Rattle.sound_conns.proofs.Tally.{charged_turn, conn-fits}
use Rattle.sound_conns.proofs.charge_all.Goals as goal

pub charge-requires : goal.charge-requires
charge-requires c =
    let a = c.args in
    conn-fits a.pass.conns.count (words a.pass.conns.bytes.now) (a.pass.lo + c.loop-j.j) (omega (arith, c.min-j-end.ensures)) c.get-c.ensures.words_are c.requires

pub loop-j-preserved : goal.loop-j-preserved
loop-j-preserved c =
    let a = c.args in (
      length-set c.loop-j.t c.loop-j.j c.charge.result ∙ c.loop-j.invariant.0,
      charged_turn a.pass.conns.count (words a.pass.conns.bytes.now) (a.pass.lo + c.loop-j.j) (omega (arith, c.min-j-end.ensures)) c.get-c.ensures.words_are
          a.pass.lo c.loop-j.j c.loop-j.t (omega arith) (omega (arith, c.min-j-end.ensures)) c.charge.ensures c.loop-j.invariant.1,
    )

pub returns : goal.returns
returns c =
    let a = c.args in
    (λ j h l. c.loop-j.invariant.1 j (omega (arith, c.min-j-end.ensures, length-recs conn_size read_conn a.pass.conns.count (words a.pass.conns.bytes.now))) l, search rules)
