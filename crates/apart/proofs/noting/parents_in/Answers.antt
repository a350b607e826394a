-- `apart::noting::parents_in` meets its contract.
use native.Mathlib.Omega.{arith}
use mathlib.Core.List.{[], ◌∷◌}
use lib.Dec.{lit<, lit≤}
use Rattle.package_stages.proofs.Seeking.{head-parents}
use Rattle.apart.proofs.SlotWords.{region-head}
use Rattle.apart.proofs.noting.parents_in.Goals as goal

pub returns : goal.returns
returns c = record {
  most = omega (arith, c.min.ensures);
  is = λ x h l. let e = head-parents x.place (region-head 1 (x ∷ []) (lit≤ tt) h 0 x (lit< tt) c.read_head.ensures) in omega (arith, c.min.ensures);
}
