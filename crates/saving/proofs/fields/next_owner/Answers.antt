-- `saving::fields::next_owner` meets its contract.
use mathlib.Core.Path.{ap}
use native.Mathlib.Omega.{arith}
use Rattle.package_stages.specs.Changes.{owner_as}
use Rattle.saving.proofs.Texts.{no-owner, owner-laid}
use Rattle.saving.proofs.fields.next_owner.Goals as goal

pub returns-in_default : goal.returns-in_default
returns-in_default c = (omega (arith, c.put_text.ensures.next), no-owner (ap owner_as c.in_default.is) c.put_text.ensures)

pub returns : goal.returns
returns c = (
  omega (arith, c.next_number-e.ensures.0, c.next_number.ensures.0),
  owner-laid _ (ap owner_as c.in-Some.is) c.next_number-e.ensures.1
      c.next_number.ensures.1,
)
