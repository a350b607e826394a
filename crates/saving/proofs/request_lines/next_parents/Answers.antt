-- `saving::request_lines::next_parents` meets its contract.
use native.Mathlib.Omega.{arith}
use Rattle.machine.specs.State.{Request}
use Rattle.saving.proofs.Places.{hashes_read, parents-laid}
use Rattle.saving.proofs.request_lines.next_parents.Goals as goal

pub returns : goal.returns
returns c = (
  omega (arith, c.parents-n.ensures.0, c.next_number-e.ensures.0, c.next_hashes.ensures.near),
  parents-laid c.parents-n.ensures.1 c.next_number-e.ensures.1 (hashes_read (λ (q : Request). q.parents) c.next_hashes.ensures.laid (λ j h l r. r)),
)
