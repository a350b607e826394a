-- `printing::buffers::owners_buffer` meets its contract.
use mathlib.Core.Path.{refl}
use Rattle.asking.specs.Calls.{owners_buffer}
use Rattle.printing.proofs.buffers.owners_buffer.Goals as goal

pub returns : goal.returns
unfolding owners_buffer
returns c = refl
