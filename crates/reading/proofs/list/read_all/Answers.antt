-- `reading::list::read_all` meets its contract.
use mathlib.Core.Path.{refl, ◌∙◌}
use native.Mathlib.Omega.{arith}
use Rattle.reading.proofs.Elements.{none_read, no-element, one_more_lem, not_taken, as_taken}
use Rattle.reading.proofs.Stored.{none_stored}
use Rattle.reading.proofs.list.read_all.Goals as goal

pub loop-i-init : goal.loop-i-init
loop-i-init g c =
    let m = g.E.Element in
    (omega arith, refl, none_read m.reads c.args.line.now c.args.e c.args.n (none_stored m.SIZE m.held c.args.buffer.now))

pub returns-in_err-to : goal.returns-in_err-to
returns-in_err-to g c = rw c.from_residual.ensures (record { is = no-element c.loop-i.invariant.2 (omega arith) (not_taken c.take.ensures c.in_err-to.was) refl })

pub loop-i-preserved : goal.loop-i-preserved
loop-i-preserved g c =
    let taken = as_taken c.take.ensures c.in_ok-to.was in
    (omega arith, c.take.auto.buffer ∙ c.loop-i.invariant.1, one_more_lem c.loop-i.invariant.2 (omega arith) taken.found refl taken.stored.is)
