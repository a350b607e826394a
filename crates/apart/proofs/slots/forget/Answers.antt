-- `apart::slots::forget` meets its contract.
use mathlib.Core.Path.{refl, ◌∙◌}
use native.Mathlib.Omega.{arith}
use borrow.Author.Rules.{rules}
use Rattle.apart.proofs.Forgetting.{forgetting_starts, forgetting_goes, forgetting_ends}
use Rattle.apart.proofs.slots.forget.Goals as goal

pub loop-i-init : goal.loop-i-init
loop-i-init c = (omega arith, refl, refl, forgetting_starts)

pub loop-i-preserved : goal.loop-i-preserved
loop-i-preserved c = (
  omega (arith, c.loop-i-test.true),
  c.set_note.auto.s ∙ c.loop-i.invariant.1,
  search rules,
  forgetting_goes c.loop-i.invariant.3 c.set_note.ensures,
)

pub returns : goal.returns
returns c = forgetting_ends (omega (arith, c.loop-i.invariant.0, c.loop-i-test.false)) c.loop-i.invariant.3
