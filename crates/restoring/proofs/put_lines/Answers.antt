-- `restoring::put_lines` meets its contract. The loop's invariant: with the lines that were read, the store has what those that are left do not bring.
use mathlib.Core.Path.{refl, ◌∙◌}
use Rattle.restoring.proofs.Walking.{walked-room, walked_on, walked_all}
use Rattle.restoring.proofs.put_lines.Goals as goal

pub take_line-last-requires : goal.take_line-last-requires
take_line-last-requires c = walked-room c.loop-line.invariant.1 (rw c.loop-line.invariant.0 c.requires) c.in-Some.ensures.line

pub loop-line-preserved : goal.loop-line-preserved
loop-line-preserved c =
    let e = c.in-Some.ensures.same in
    (e ∙ c.loop-line.invariant.0, rw e (walked_on c.loop-line.invariant.1 c.in-Some.ensures.line c.take_line-last.ensures c.take_line-last.auto.s))

pub returns : goal.returns
returns c = rw (← c.loop-line.invariant.0) (walked_all c.loop-line.invariant.1 (c.in_default.ensures.none refl).0)
