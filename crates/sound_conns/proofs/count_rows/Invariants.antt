use Prim.Native.Nat.{◌≤◌}
use mathlib.Core.Path.{◌≡◌}
use lib.ListN.{length}
use Rattle.words.specs.Words.{recs, words}
use Rattle.regions.specs.Rows.{row_size, read_row, conn_size, read_conn}
use Rattle.sound_conns.specs.Conns.{names, Tallied}
use Rattle.sound_conns.proofs.count_rows.Given as goal

abbrev pub invariant-loop-i : goal.invariant-loop-i
invariant-loop-i l = (l.i ≤ l.rows.count) × (length l.t ≡ length l.initial.t) × Tallied (names l.pass.conns.count (words l.pass.conns.bytes.now)) (recs row_size read_row l.i (words l.rows.bytes.now))
    (recs conn_size read_conn l.pass.conns.count (words l.pass.conns.bytes.now)) l.pass.done l.pass.last l.pass.lo l.t
