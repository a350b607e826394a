-- `listed_form::placed` meets its contract. The loop's invariant: the lines that are left, from what has been met, are placed where all of them are.
use mathlib.Core.Path.{refl, ◌∙◌}
use Rattle.listed_form.proofs.Forms.{scan_on, scan_stop, scan_end}
use Rattle.listed_form.proofs.placed.Goals as goal

pub returns-in_default-meets : goal.returns-in_default-meets
returns-in_default-meets c = rw (← c.loop-line.invariant.0) (scan_stop (scan_on c.loop-line.invariant.1 c.in-Some.ensures.line c.in_default-meets.ensures))

pub loop-line-preserved : goal.loop-line-preserved
loop-line-preserved c =
    let e = c.in-Some.ensures.same in
    (e ∙ c.loop-line.invariant.0, rw e (scan_on c.loop-line.invariant.1 c.in-Some.ensures.line c.in-Some-meets.ensures))

pub returns : goal.returns
returns c = rw (← c.loop-line.invariant.0) (scan_end c.loop-line.last c.loop-line.invariant.1 (c.in_default.ensures.none refl).0)
