-- `apart::lapsing::expire_one` meets its contract.
use Prim.Native.Nat.{◌<◌}
use mathlib.Core.Path.{refl}
use native.Mathlib.Omega.{arith}
use Rattle.ident.specs.Words.{key_num}
use Rattle.machine.specs.Limits.{word}
use Rattle.apart.proofs.OneOwner.{around_room, around_fails, found_inside, found_expiring, expired-without, expired_with}
use Rattle.apart.proofs.Forgetting.{room_within}
use borrow.Author.Rules.{rules}
use Rattle.announcing.proofs.Lent.{key_low}
use Rattle.apart.proofs.lapsing.expire_one.Goals as goal

pub find-requires : goal.find-requires
find-requires c = let x = c.requires in around_room x.around (omega (arith, x.count))

pub fail-requires : goal.fail-requires
fail-requires c = around_fails c.requires.around c.requires.own

pub returns-in_default : goal.returns-in_default
returns-in_default c = record {
  most = λ l. l;
  goes = λ st xs o n own given.
      let late : c.args.clock < word = omega arith in
      expired-without o (key_num c.args.k) c.args.n.number c.args.clock late (key_low c.args.k c.well_formed.1.1.1.1.1.0) own
      (c.find.ensures.none c.in_default.is st.places xs n o.slots o.ascend) c.fail.auto.s c.fail.ensures (search rules) refl given;
}

pub expire_place-r-requires : goal.expire_place-r-requires
expire_place-r-requires c = found_expiring c.requires c.find.ensures c.in-Some.is

pub set_note-requires : goal.set_note-requires
set_note-requires c = let x = c.requires in room_within
    (found_inside x c.find.ensures c.in-Some.is) (around_room x.around (omega (arith, x.count)))
    c.expire_place-r.auto.s (search rules)

pub returns : goal.returns
returns c = record {
  most = λ l. let y = found_inside c.requires c.find.ensures c.in-Some.is in omega (arith, y);
  goes = λ st xs o n own given.
      let h = c.find.ensures.held c.in-Some.p c.in-Some.is st.places xs n o.slots o.ascend in
      expired_with o h (c.expire_place-r.ensures st xs o h own given) c.set_note.ensures c.set_note.auto.s (search rules);
}
