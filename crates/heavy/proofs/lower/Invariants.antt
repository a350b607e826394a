-- `heavy::lower` meets its contract. The loop's invariant: the first counts are lowered.
use mathlib.Core.Path.{◌≡◌}
use lib.ListN.{length}
use Rattle.heavy.specs.Counters.{names_in, counts_in}
use Rattle.heavy.proofs.Seeking.{partly}
use Rattle.heavy.proofs.lower.Given as goal

abbrev pub invariant-loop-c : goal.invariant-loop-c
invariant-loop-c l =
    (length l.c-items ≡ length l.initial.c-items) × (names_in l.c-items ≡ names_in l.initial.c-items) × (counts_in l.c-items ≡ partly l.c-index (counts_in l.initial.c-items))
