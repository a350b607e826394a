-- `planning::plan::begin` meets its contract.
use native.Mathlib.Omega.{arith}
use mathlib.Core.Path.{◌∙◌}
use Rattle.apart.proofs.OneOwner.{all_room, front_kept}
use Rattle.planning.proofs.Planned.{rested_few, expired-parted, begun}
use borrow.Author.Rules.{rules}
use Rattle.planning.proofs.plan.begin.Goals as goal

pub phase_noted-w-requires : goal.phase_noted-w-requires
phase_noted-w-requires c = let x = expired-parted c.expire-e.ensures c.requires.0 in let n = rested_few c.requires.0 in (
  all_room x.apart (omega (arith, c.expire-e.ensures.most, x.count)),
  front_kept x.apart,
  c.requires.1,
  omega (arith, c.fresh-v.ensures.chosen),
  omega (arith, n, c.expire-e.ensures.most, c.fresh-v.ensures.considered),
)

pub returns : goal.returns
returns c = begun (rested_few c.requires.0) c.expire-e.ensures c.fresh-v.ensures
    c.phase_noted-w.ensures c.forget.ensures (c.forget.auto.s ∙ c.phase_noted-w.auto.s) (search rules)
