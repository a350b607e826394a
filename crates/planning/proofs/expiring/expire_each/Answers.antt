-- `planning::expiring::expire_each` meets its contract.
use Prim.Native.Nat.{◌<◌}
use mathlib.Core.Path.{refl, ◌∙◌}
use native.Mathlib.Omega.{arith}
use Rattle.ident.specs.Words.{key_num}
use Rattle.machine.specs.Limits.{word}
use borrow.Author.Rules.{rules}
use Rattle.apart.proofs.OneOwner.{front_kept}
use Rattle.planning.proofs.AllExpired.{place-small, way-starts, way-kept, way-pends, way-expiring, way-peer, way_goes, way-ends}
use Rattle.planning.proofs.expiring.expire_each.Goals as goal

pub start-delayed-requires : goal.start-delayed-requires
start-delayed-requires c = front_kept c.requires.apart

pub loop-due-init : goal.loop-due-init
loop-due-init c = (refl, omega arith, omega arith, way-starts c.args.clock _ (omega arith) c.start-delayed.ensures _ refl)

pub next_due-requires : goal.next_due-requires
next_due-requires c = way-kept c.requires c.loop-due.invariant.3

pub end-requires : goal.end-requires
end-requires c = way-pends c.requires c.loop-due.invariant.3

pub returns : goal.returns
returns c = way-ends c.loop-due.invariant.2 c.loop-due.invariant.3 c.least.ensures (c.next_due.ensures.ends c.in_default.is) c.end.ensures c.end.auto.s (search rules) refl

pub expire_one-known-requires : goal.expire_one-known-requires
expire_one-known-requires c = way-expiring c.loop-due.invariant.3 c.least.ensures (c.next_due.ensures.goes c.in-Some.due c.in-Some.is) c.requires

pub invariant_of-owner : goal.invariant_of-owner
invariant_of-owner c =
    let y = way-peer c.loop-due.invariant.3 c.least.ensures (c.next_due.ensures.goes c.in-Some.due c.in-Some.is) c.requires in
    record { positive = let z = y.positive in omega (arith, z) }

pub loop-due-preserved : goal.loop-due-preserved
loop-due-preserved c =
    let g = c.next_due.ensures.goes c.in-Some.due c.in-Some.is in
    let late : c.args.clock < word = omega (arith, c.well_formed.1.1.1.1.0) in (
      c.expire_one-known.auto.s ∙ c.loop-due.invariant.0,
      place-small (key_num c.in-Some.due.key) g.small,
      c.expire_one-known.ensures.most c.loop-due.invariant.2,
      way_goes c.loop-due.invariant.3 c.least.ensures g late c.expire_one-known.ensures,
    )
