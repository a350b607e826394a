-- `listed_lines::hash_lists::list_at` meets its contract.
use mathlib.Core.Path.{refl, ap}
use Rattle.machine.specs.Fields.{number_of}
use Rattle.reading.specs.Given.{number_at}
use Rattle.listed_lines.proofs.Anywhere.{number_took, hashes_at, hashes_took}
use Rattle.listed_lines.proofs.Lists.{no_length, too_short, too_long, no-hashes, hashes-are}
use Rattle.listed_lines.proofs.hash_lists.list_at.Goals as goal
use Rattle.listed_lines.proofs.hash_lists.list_at.Goals.{then-count-least-via-then-count-least, then-count-least-via-else-count-least+then-count}

pub returns-in_err-count : goal.returns-in_err-count
returns-in_err-count c = rw c.from_residual.ensures (no_length _ (number_took number_of c.number_at.ensures) (ap number_at c.in_err-count.was))

pub returns-then-count-least : goal.returns-then-count-least
returns-then-count-least c = elim c.then-count-least.branch [
  | then-count-least-via-then-count-least w ↦ too_short _ (number_took number_of c.number_at.ensures) (ap number_at c.in_ok-count.was) w.if-count-least.true
  | then-count-least-via-else-count-least+then-count w ↦ too_long _ (number_took number_of c.number_at.ensures) (ap number_at c.in_ok-count.was) w.if-count.true
]

pub returns-in_err-end : goal.returns-in_err-end
returns-in_err-end c =
    rw c.from_residual-in_err-end.ensures
    (no-hashes _ (number_took number_of c.number_at.ensures) (ap number_at c.in_ok-count.was) c.if-count-least.false c.if-count.false refl (hashes_took c.read_all.ensures)
    (ap (hashes_at _) c.in_err-end.was))

pub returns : goal.returns
returns c =
    hashes-are _ (number_took number_of c.number_at.ensures) (ap number_at c.in_ok-count.was) c.if-count-least.false c.if-count.false refl (hashes_took c.read_all.ensures)
    (ap (hashes_at _) c.in_ok-end.was)
