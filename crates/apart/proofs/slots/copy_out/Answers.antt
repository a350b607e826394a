-- `apart::slots::copy_out` meets its contract.
use mathlib.Core.Path.{refl}
use Rattle.apart.proofs.Slotted.{copied_out}
use Rattle.apart.proofs.slots.copy_out.Goals as goal

pub returns : goal.returns
returns c = copied_out c.args.region.now c.args.i refl refl c.requires c.copy_from_slice.ensures.after
