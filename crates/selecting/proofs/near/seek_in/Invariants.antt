-- `selecting::near::seek_in` meets its contract.
use Prim.Native.Nat.{◌-◌}
use Rattle.words.specs.Words.{words, recs}
use Rattle.regions.specs.Rows.{row_size, row_key, start_number}
use Rattle.regions.proofs.Order.{Searching}
use Rattle.selecting.proofs.near.seek_in.Given as goal

abbrev pub invariant-loop-lo : goal.invariant-loop-lo
invariant-loop-lo l = Searching (recs row_size row_key l.n (words l.s)) l.n (start_number l.start) l.lo l.hi

abbrev pub decreases-loop-lo : goal.decreases-loop-lo
decreases-loop-lo l = l.hi - l.lo
