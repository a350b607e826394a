use Rattle.words.specs.Words.{recs, words}
use Rattle.regions.specs.Rows.{row_size, read_row}
use Rattle.sound_conns.proofs.Conns.{Walked}
use Rattle.sound_conns.proofs.conns_fit.Given as goal

abbrev pub invariant-loop-lo : goal.invariant-loop-lo
invariant-loop-lo l = Walked (recs row_size read_row l.rows.count (words l.rows.bytes.now)) l.conns.count (words l.conns.bytes.now) l.done l.lo
