-- `printing::buffers::answer_buffer` meets its contract.
use mathlib.Core.Path.{refl}
use Rattle.asking.specs.Calls.{answer_buffer}
use Rattle.printing.proofs.buffers.answer_buffer.Goals as goal

pub returns : goal.returns
unfolding answer_buffer
returns c = refl
