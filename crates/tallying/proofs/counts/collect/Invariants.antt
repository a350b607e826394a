-- `tallying::counts::collect` meets its contract.
use mathlib.Core.Path.{◌≡◌}
use lib.ListN.{length}
use Rattle.words.specs.Words.{words}
use Rattle.tallying.proofs.Tables.{Collecting}
use Rattle.tallying.proofs.counts.collect.Given as goal

abbrev pub invariant-loop-j : goal.invariant-loop-j
invariant-loop-j l = Collecting (words l.initial.r) (words l.r) l.n l.m l.j × (length l.r ≡ length l.initial.r)
