-- `gathering::coming::come_in_all` meets its contract.
use Rattle.gathering.proofs.Arriving.{room_for, uncounted, all_arrived}
use Rattle.gathering.proofs.coming.come_in_all.Goals as goal

pub add_rows-requires : goal.add_rows-requires
add_rows-requires c = let r = room_for c.requires in (r.0, r.1)

pub count_each-requires : goal.count_each-requires
count_each-requires c = uncounted c.requires c.add_rows.ensures

pub returns : goal.returns
returns c = all_arrived c.add_rows.ensures c.count_each.ensures
