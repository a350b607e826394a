-- `listed_requests::candidates::gather` meets its contract. The loop's invariant: the candidates of the lines that were taken are gathered.
use mathlib.Core.Path.{refl, ◌∙◌}
use native.Mathlib.Omega.{arith}
use Rattle.listed_requests.proofs.Gathering.{gone_none, gone_more, too_many, all_gone}
use Rattle.listed_requests.proofs.candidates.gather.Goals as goal

pub loop-c-init : goal.loop-c-init
loop-c-init c = (refl, omega arith, c.requires, gone_none _ _ _ c.args.n c.args.room.now.conns.now)

pub returns-then-count-ge-MAX_ALTERNATES-clause-gathers : goal.returns-then-count-ge-MAX_ALTERNATES-clause-gathers
returns-then-count-ge-MAX_ALTERNATES-clause-gathers c =
    let i = c.loop-c.invariant in
    rw (← i.0) (too_many i.3 c.in-Some.ensures.next.takes i.1 c.if-count-ge-MAX_ALTERNATES.true)

pub loop-c-preserved : goal.loop-c-preserved
loop-c-preserved c =
    let i = c.loop-c.invariant in
    let e = c.in-Some.ensures.same in
    let f = c.in-Some.ensures.next.takes in
    (e ∙ i.0, omega (arith, i.1, f.on), omega (arith, c.if-count-ge-MAX_ALTERNATES.false), rw e (gone_more i.3 f (omega (arith, c.if-count-ge-MAX_ALTERNATES.false)) c.fits-fit.ensures))

pub returns-clause-gathers : goal.returns-clause-gathers
returns-clause-gathers c =
    let i = c.loop-c.invariant in
    rw (← i.0) (all_gone i.3 i.1 i.2 (c.in_default.ensures.next.stays refl))
