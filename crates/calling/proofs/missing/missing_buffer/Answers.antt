-- `calling::missing::missing_buffer` meets its contract.
use mathlib.Core.Path.{refl}
use Rattle.asking.specs.Calls.{missing_buffer}
use Rattle.calling.proofs.missing.missing_buffer.Goals as goal

pub returns : goal.returns
unfolding missing_buffer
returns c = refl
