-- `heavy::restart` meets its contract. The loop's invariant: the first counts are 0.
use mathlib.Core.Path.{refl, ◌∙◌}
use native.Mathlib.Omega.{arith}
use lib.ListN.{length-set}
use Rattle.heavy.specs.Counters.{sum}
use Rattle.heavy.proofs.Seeking.{names_kept, zeros_more, zeros_all}
use Rattle.heavy.proofs.restart.Goals as goal

pub loop-c-init : goal.loop-c-init
unfolding sum
loop-c-init c = (refl, refl, refl)

pub loop-c-preserved : goal.loop-c-preserved
loop-c-preserved c =
    let i = c.loop-c.invariant in (
      simp length-set i.0,
      names_kept c.loop-c.c-items c.loop-c.c-index 0 ∙ i.1,
      zeros_more c.loop-c.c-items c.loop-c.c-index _ (omega arith) i.2,
    )

pub returns : goal.returns
returns c = let i = c.loop-c.invariant in (i.1, zeros_all c.loop-c.c-items c.loop-c.c-index (omega (arith, c.loop-c-test.false)) i.2)
