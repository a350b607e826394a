-- `listed_form::form_of` meets its contract.
use mathlib.Core.Path.{refl, sym, ◌∙◌}
use Rattle.listed_form.proofs.Forms.{no_text, no_first, not_placed, listed}
use Rattle.listed_form.proofs.form_of.Goals as goal

pub returns-in_err-line : goal.returns-in_err-line
returns-in_err-line c = rw c.from_residual.ensures (no_text c.args.text.now (c.in_err-line.ensures.none refl).0)

pub returns-in_default : goal.returns-in_default
returns-in_default c = no_first c.in_ok-line.ensures.line c.in_default.not-Head

pub returns-then-not-placed : goal.returns-then-not-placed
returns-then-not-placed c =
    not_placed c.in_ok-line.ensures.line c.in-Head.is (rw (← c.in_ok-line.ensures.same) (sym c.placed.ensures ∙ c.if-not-placed.true))

pub returns : goal.returns
returns c =
    let e = c.in_ok-line.ensures.same in
    record { is = (rw e refl, listed c.in_ok-line.ensures.line c.in-Head.is (rw (← e) (sym c.placed.ensures ∙ c.if-not-placed.false))) }
