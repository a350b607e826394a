-- `listed_pairs::side_by_side` meets its contract.
use Rattle.listed_pairs.proofs.Pairing.{first_many, both_many, both_few}
use Rattle.listed_pairs.proofs.side_by_side.Goals as goal

pub returns-in_default-clause-together : goal.returns-in_default-clause-together
returns-in_default-clause-together c = first_many c.in_default.ensures.gathers

pub returns-in_default-gather-clause-together : goal.returns-in_default-gather-clause-together
returns-in_default-gather-clause-together c =
    both_many c.in-Some.ensures.gathers (rw c.requires at c.in_default-gather.ensures.gathers)

pub returns-clause-together : goal.returns-clause-together
returns-clause-together c =
    rw (c.is_some.ensures, c.is_some-2.ensures)
    (both_few c.in-Some.ensures.gathers (rw c.requires at c.in-Some-gather.ensures.gathers) c.all_distinct-once.ensures)
