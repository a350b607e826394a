-- `choosing::rank` meets its contract.
use Prim.Native.Nat.{◌/◌}
use mathlib.Core.Path.{refl}
use Rattle.regions.proofs.Bits.{as_unset}
use Rattle.choosing.proofs.rank.Goals as goal

pub returns : goal.returns
returns c = (as_unset (c.args.r.bits / 4) c.from.ensures c.is_preferred.ensures, refl)
