-- `claiming::checked::claim` meets its contract.
use Rattle.std.proofs.lemmas.List.{get_or_default}
use Rattle.claiming.specs.Claiming.{no_entry}
use Rattle.claiming.proofs.Listed.{reached_start, reached_done, reached_more}
use Rattle.claiming.proofs.checked.claim.Goals as goal

pub loop-e-init : goal.loop-e-init
loop-e-init c = reached_start c.args.clock.time c.args.checked.now c.args.s.now c.args.out.now

pub loop-e-preserved : goal.loop-e-preserved
loop-e-preserved c =
    let x = c.claim_next-n in
    let l = c.args.checked.now in
    reached_more c.loop-e.invariant c.loop-e-test.true c.requires.0 c.args.clock.early c.requires.1 _ (get_or_default l c.loop-e.e-index _ no_entry c.loop-e-test.true) x.auto.s x.auto.out x.ensures

pub returns : goal.returns
returns c = reached_done c.loop-e.invariant c.loop-e-test.false
