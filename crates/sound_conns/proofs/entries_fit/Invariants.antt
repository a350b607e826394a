use Prim.Native.Nat.{◌≤◌}
use Rattle.words.specs.Words.{recs, words}
use Rattle.regions.specs.Rows.{conn_size, read_conn}
use Rattle.sound_conns.specs.Conns.{EntryStep, blank}
use Rattle.sound_rows.proofs.Decide.{Chain, Walk}
use Rattle.sound_conns.proofs.Entries.{LowUpto}
use Rattle.sound_conns.proofs.entries_fit.Given as goal

abbrev pub invariant-loop-i : goal.invariant-loop-i
invariant-loop-i l = (l.i ≤ l.conns.count) × LowUpto l.conns.count (words l.conns.bytes.now) l.i
    × Walk EntryStep conn_size read_conn l.conns.count (words l.conns.bytes.now) (Chain EntryStep blank (recs conn_size read_conn l.conns.count (words l.conns.bytes.now))) l.p l.i
