-- `keeping::plans::plan_given` meets its contract.
use mathlib.Core.Path.{refl, ap}
use mathlib.Core.Option.{some}
use native.Mathlib.Omega.{arith}
use Rattle.machine.specs.Call.{Buffer, Plan}
use Rattle.selecting.specs.Phasing.{given_keys}
use Rattle.printing.proofs.Printing.{does_is}
use Rattle.keeping.proofs.Stepping.{listable, selection_asked, selection_told, step_planned}
use Rattle.keeping.proofs.plans.plan_given.Goals as goal

pub keep_selection-requires : goal.keep_selection-requires
keep_selection-requires c = (c.requires, selection_asked c.plan_given-a.result _ (listable c.plan_given-a.ensures (omega (arith, c.plan_given-a.auto))))

pub returns : goal.returns
returns c =
    rw (← c.lists.view_is) (step_planned _
    (does_is (ap (λ (u : Buffer). Plan c.args.clock (some (given_keys c.args.given.now)) u) c.answer_buffer-answer.ensures) c.plan_given-a.ensures) refl
    (selection_told _ c.plan_given-a.result c.keep_selection.ensures))
