-- `inventory::offers::read_list` meets its contract.
use mathlib.Core.Path.{refl}
use native.Mathlib.Omega.{arith}
use Rattle.inventory.proofs.Offering.{unlisted, listed, offers-are}
use Rattle.inventory.proofs.offers.read_list.Goals as goal

pub returns-in_err-n : goal.returns-in_err-n
returns-in_err-n c = rw c.from_residual.ensures (unlisted c.read_front.ensures c.in_err-n.was)

pub returns : goal.returns
returns c =
    let front = listed c.read_front.ensures c.in_ok-n.was in
    offers-are c.read_front.new.items c.read_front.new.priorities front.0 (omega (arith, c.read_front.auto, c.requires.1))
    (omega (arith, c.read_front.auto, c.requires.2)) _ refl refl front.1
