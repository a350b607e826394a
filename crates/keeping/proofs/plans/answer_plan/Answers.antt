-- `keeping::plans::answer_plan` meets its contract.
use mathlib.Core.Path.{refl, ap}
use mathlib.Core.Option.{none}
use native.Mathlib.Omega.{arith}
use Rattle.machine.specs.Call.{Buffer, Plan}
use Rattle.printing.proofs.Printing.{does_is}
use Rattle.keeping.proofs.Stepping.{listable, selection_asked, selection_told, step_planned}
use Rattle.keeping.proofs.plans.answer_plan.Goals as goal

pub keep_selection-requires : goal.keep_selection-requires
keep_selection-requires c = (c.requires, selection_asked c.plan-a.result _ (listable c.plan-a.ensures (omega (arith, c.plan-a.auto))))

pub returns : goal.returns
returns c =
    rw (← c.lists.view_is) (step_planned _
    (does_is (ap (λ (u : Buffer). Plan c.args.clock none u) c.answer_buffer-answer.ensures) c.plan-a.ensures) refl (selection_told _ c.plan-a.result c.keep_selection.ensures))
