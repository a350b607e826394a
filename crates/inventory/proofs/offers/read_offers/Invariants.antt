-- `inventory::offers::read_offers` meets its contract. The loop's invariant: the first i offers are read.
use Prim.Native.Nat.{◌≤◌, ◌-◌}
use mathlib.Core.Path.{◌≡◌}
use lib.ListN.{length}
use Rattle.reading.specs.Lists.{offer_then}
use Rattle.reading.specs.Given.{ElementsRead}
use Rattle.inventory.specs.Given.{offers_of}
use Rattle.inventory.proofs.offers.read_offers.Given as goal

abbrev pub invariant-loop-i : goal.invariant-loop-i
invariant-loop-i l =
    (l.i ≤ l.n) × (length l.items ≡ length l.initial.items) × (length l.priorities ≡ length l.initial.priorities) × ElementsRead offer_then l.line l.e l.n l.to l.i (offers_of l.i l.items l.priorities)

abbrev pub decreases-loop-i : goal.decreases-loop-i
decreases-loop-i l = l.n - l.i
