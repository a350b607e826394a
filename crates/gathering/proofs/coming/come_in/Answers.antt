-- `gathering::coming::come_in` meets its contract.
use Rattle.gathering.proofs.Arriving.{nobody_in, of_one, room_for, with_shown, arrived}
use Rattle.gathering.proofs.coming.come_in.Goals as goal

pub returns-then-new-eq0 : goal.returns-then-new-eq0
returns-then-new-eq0 c = nobody_in c.if-new-eq0.true

pub add_rows-requires : goal.add_rows-requires
add_rows-requires c = let r = room_for (of_one c.requires) in (r.0, r.1)

pub count_in-requires : goal.count_in-requires
count_in-requires c = with_shown (of_one c.requires) c.add_rows.ensures
    c.if-new-eq0.false

pub returns : goal.returns
returns c = arrived c.add_rows.ensures c.count_in.ensures
