-- `wrapping::lapsing::lapse_each` meets its contract.
use Rattle.ident.specs.Number.{key_of}
use Rattle.lent_lists.specs.Items.{items_in}
use Rattle.wrapping.specs.Lapses.{lapse_one}
use Rattle.wrapping.proofs.Turning.{Turned}
use Rattle.wrapping.proofs.lapsing.lapse_each.Given as goal

abbrev pub invariant-loop-i : goal.invariant-loop-i
invariant-loop-i l = Turned (λ m i t. lapse_one l.n l.clock (key_of i) t) (items_in l.items) l.initial.s l.s l.initial.out l.out l.kept l.i
