-- `heavy::lower` meets its contract. The loop's invariant: the first counts are lowered.
use mathlib.Core.Path.{refl, ◌∙◌}
use native.Mathlib.Omega.{arith}
use lib.ListN.{length-set}
use Rattle.heavy.proofs.Seeking.{partly_none, partly_all, partly_more, names_kept, counts_set, count_at, length-counts}
use Rattle.heavy.proofs.lower.Goals as goal

pub loop-c-init : goal.loop-c-init
loop-c-init c = (refl, refl, partly_none _)

pub loop-c-preserved : goal.loop-c-preserved
loop-c-preserved c =
    let i = c.loop-c.invariant in (
      simp length-set i.0,
      names_kept c.loop-c.c-items c.loop-c.c-index c.saturating_sub-c.result ∙ i.1,
      counts_set _ _ _ _
          ∙ partly_more c.loop-c.c-index _ _ (omega (arith, i.0, length-counts c.args.counters.now)) i.2
          (rw (← count_at c.loop-c.c-items c.loop-c.c-index) c.saturating_sub-c.ensures),
    )

pub returns : goal.returns
returns c =
    let i = c.loop-c.invariant in (i.1, i.2 ∙ partly_all _ _ (omega (arith, i.0, length-counts c.args.counters.now, c.loop-c-test.false)))
