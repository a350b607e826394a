use Prim.Native.Nat.{◌+◌, ◌-◌, ◌≤◌}
use mathlib.Core.List.{◌++◌}
use Rattle.ident.specs.declared.Kind.TheVariants.{Txid, Wtxid}
use Rattle.words.specs.Words.{recs, words}
use Rattle.regions.specs.Rows.{row_size, read_row}
use Rattle.sound_rows.specs.Rows.{RowsSound}
use Rattle.sound_rows.specs.Groups.{GroupsSound, rows_in}
use Rattle.sound_rows.proofs.Decide.{Iff}
use Rattle.sound_rows.proofs.Fitting.{Half}
use Rattle.sound_rows.proofs.group.rows_fit.Given as goal

abbrev pub invariant-loop-i : goal.invariant-loop-i
invariant-loop-i l = (l.i ≤ l.m) × (l.m ≤ l.j) × (l.j ≤ l.rows.count)
    × Half Txid (words l.rows.bytes.now) 0 l.m l.i × Half Wtxid (words l.rows.bytes.now) l.m l.rows.count l.j
    × (RowsSound (recs row_size read_row l.rows.count (words l.rows.bytes.now)) → Iff (GroupsSound l.most (recs row_size read_row l.rows.count (words l.rows.bytes.now)))
    (GroupsSound l.most (rows_in (words l.rows.bytes.now) l.i l.m ++ rows_in (words l.rows.bytes.now) l.j l.rows.count)))

abbrev pub decreases-loop-i : goal.decreases-loop-i
decreases-loop-i l = (l.m + l.rows.count) - (l.i + l.j)
