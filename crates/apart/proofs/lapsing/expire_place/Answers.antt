-- `apart::lapsing::expire_place` meets its contract.
use Prim.Native.Nat.{◌<◌}
use mathlib.Core.Path.{refl}
use native.Mathlib.Omega.{arith}
use Rattle.machine.specs.Limits.{word}
use Rattle.machine.proofs.Tests.{never}
use Rattle.apart.specs.Lapsing.{nowhere}
use Rattle.apart.proofs.SlotWords.{plain-long}
use Rattle.apart.proofs.Overdue.{place-expired}
use Rattle.apart.proofs.OneOwner.{around_room, around_within, few_parents, lapsed_fronts}
use borrow.Author.Rules.{rules}
use Rattle.announcing.proofs.Lent.{key_low}
use Rattle.apart.proofs.lapsing.expire_place.Goals as goal

pub load-requires : goal.load-requires
load-requires c = let x = c.requires in around_room x.around (omega (arith, x.held.inside, plain-long x.places))

pub lapse-requires : goal.lapse-requires
lapse-requires c = let x = c.requires in record { state = x.state; places = x.places; around = x.around; held = x.held; own = x.own; none_left = λ i. never i }

pub announce_all-requires : goal.announce_all-requires
announce_all-requires c =
    let x = c.requires in
    lapsed_fronts x.around (key_low c.args.k c.well_formed.1.1.1.1.1.0) (c.lapse.ensures x.state x.places x.around x.held) x.none_left

pub invariant_of-parents : goal.invariant_of-parents
invariant_of-parents c = record { few = few_parents c.requires.around c.requires.held }

pub returns : goal.returns
returns c = λ st xs o h own given. let late : c.args.clock < word = omega arith in place-expired o h c.args.n.number c.args.clock late
    (key_low c.args.k c.well_formed.1.1.1.1.1.0) own (c.lapse.ensures st xs o h) _ (c.load.ensures st.places xs nowhere (omega (
      arith,
      h.inside,
      plain-long
          xs,
    )) o.slots)
    (search rules) c.announce_all.auto.s c.announce_all.ensures given (search rules) (search rules) refl
