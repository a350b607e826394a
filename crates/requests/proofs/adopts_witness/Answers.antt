-- `requests::adopts_witness` meets its contract.
use mathlib.Core.Path.{ap, ◌∙◌}
use Prim.Native.Nat.{◌/◌}
use Rattle.regions.specs.Packed.{bit}
use Rattle.store.proofs.Packed.{bit-is}
use Rattle.requests.proofs.adopts_witness.Goals as goal

pub returns-else-same : goal.returns-else-same
returns-else-same c = rw c.if-same.false (ap bit c.is_witness-else-same.ensures ∙ bit-is (c.args.r.bits / 2))
