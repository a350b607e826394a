-- `heavy::restart` meets its contract. The loop's invariant: the first counts are 0.
use mathlib.Core.Path.{◌≡◌}
use lib.ListN.{length, take}
use Rattle.heavy.specs.Counters.{names_in, counts_in, sum}
use Rattle.heavy.proofs.restart.Given as goal

abbrev pub invariant-loop-c : goal.invariant-loop-c
invariant-loop-c l = (length l.c-items ≡ length l.initial.c-items) × (names_in l.c-items ≡ names_in l.initial.c-items) × (sum (take l.c-index (counts_in l.c-items)) ≡ 0)
