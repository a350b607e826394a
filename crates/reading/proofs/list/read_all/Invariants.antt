-- `reading::list::read_all` meets its contract. The loop's invariant: the first i elements are read.
use Prim.Native.Nat.{◌≤◌}
use mathlib.Core.Path.{◌≡◌}
use lib.ListN.{length}
use Rattle.words.specs.Words.{recs}
use Rattle.reading.specs.Given.{ElementsRead}
use Rattle.reading.proofs.list.read_all.Given as goal

abbrev pub invariant-loop-i : goal.invariant-loop-i
invariant-loop-i g l =
    let m = g.E.Element in
    (l.i ≤ l.n) × (length l.buffer ≡ length l.initial.buffer) × ElementsRead m.reads l.line l.e l.n l.to l.i (recs m.SIZE m.held l.i l.buffer)
