use borrow.Author.Rules.{rules}
use native.Mathlib.Omega.{arith}
use Rattle.words.specs.Words.{recs, words}
use Rattle.regions.specs.Rows.{conn_size, read_conn}
use Rattle.machine.proofs.Tests.{never}
use Rattle.sound_conns.specs.Conns.{EntryStep}
use Rattle.sound_rows.proofs.Decide.{walk_turn, walk_stop, walk_end}
use Rattle.sound_conns.proofs.Entries.{entries_iff, length-names, conn-typed, low_turn}
use Rattle.sound_conns.proofs.entries_fit.Goals as goal

pub returns-then-not-entry_fits : goal.returns-then-not-entry_fits
returns-then-not-entry_fits c =
    let w = words c.args.conns.bytes.now in
    let n = c.args.conns.count in (
      (λ z. walk_stop EntryStep conn_size read_conn n w c.loop-i.p c.loop-i.i (omega arith) c.loop-i.invariant.2 c.get-c.ensures.words_are
          c.if-not-entry_fits.ensures ((entries_iff (recs conn_size read_conn n w)).from z)),
      λ e. never e,
    )

pub loop-i-preserved : goal.loop-i-preserved
loop-i-preserved c =
    let w = words c.args.conns.bytes.now in
    let n = c.args.conns.count in (
      search rules,
      low_turn n w c.loop-i.i (omega arith) c.get-c.ensures.words_are (conn-typed c.get-c.result c.get-c.type_inv) c.loop-i.invariant.1,
      walk_turn EntryStep conn_size read_conn n w c.loop-i.p c.loop-i.i (omega arith) c.loop-i.invariant.2 c.get-c.ensures.words_are c.if-not-entry_fits.ensures,
    )

pub returns : goal.returns
returns c =
    let w = words c.args.conns.bytes.now in
    let n = c.args.conns.count in (
      (entries_iff (recs conn_size read_conn n w)).to (walk_end EntryStep conn_size read_conn n w c.loop-i.p c.loop-i.i (omega arith) c.loop-i.invariant.2),
      λ _ p h. c.loop-i.invariant.1 p (omega (arith, length-names n w)),
    )
