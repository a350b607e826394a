use mathlib.Core.Path.{◌≡◌}
use lib.ListN.{length}
use Rattle.words.specs.Words.{words}
use Rattle.places.proofs.Cleared.{Clearing}
use Rattle.places.proofs.clearing.clear_from.Given as goal

abbrev pub invariant-loop-i : goal.invariant-loop-i
invariant-loop-i l = Clearing (words l.initial.s) (words l.s) l.n l.m l.i × (length l.s ≡ length l.initial.s)
