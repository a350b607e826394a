use native.Mathlib.Omega.{arith}
use Rattle.words.specs.Words.{words}
use Rattle.sound_rows.specs.Parts.{rows_of}
use Rattle.sound_rows.proofs.Groups.{apart-later, apart-others, found-some}
use Rattle.sound_rows.proofs.group.apart.Goals as goal

pub returns-then-is_some : goal.returns-then-is_some
returns-then-is_some c = apart-later (words c.args.mine.rows.bytes.now) (rows_of c.args.others) c.loop-k.k
    c.args.mine.to (omega arith) c.get-r.ensures.words_are c.loop-k.invariant.2
    (found-some (words c.args.mine.rows.bytes.now) c.get-r.result.conn _ _ _ c.find_conn_in.ensures c.is_some.ensures c.if-is_some.true)

pub returns-then-is_some-2 : goal.returns-then-is_some-2
returns-then-is_some-2 c = apart-others (words c.args.mine.rows.bytes.now)
    (rows_of c.args.others) c.loop-k.k
    c.args.mine.to (omega arith) c.get-r.ensures.words_are
    c.loop-k.invariant.2
    (found-some (words c.args.others.rows.bytes.now) c.get-r.result.conn _ _ _ c.find_conn_in-in-loop-k.ensures c.is_some-in-loop-k.ensures c.if-is_some-2.true)
