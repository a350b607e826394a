-- `wrapping::offering::settle` meets its contract.
use Rattle.wrapping.proofs.Swapped.{swaps_gathers, swaps_settled}
use Rattle.wrapping.proofs.offering.settle.Goals as goal

pub come_in-requires : goal.come_in-requires
come_in-requires c = rw (c.new.ensures.0, c.new.ensures.1) (swaps_gathers c.swap-next.ensures c.go.ensures c.requires.0)

pub returns : goal.returns
returns c = swaps_settled c.swap-next.ensures
    c.go.ensures (rw (c.new.ensures.0, c.new.ensures.1) at c.come_in.ensures)
