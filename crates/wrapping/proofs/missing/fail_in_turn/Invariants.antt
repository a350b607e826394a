-- `wrapping::missing::fail_in_turn` meets its contract.
use Rattle.machine.specs.Wrapper.{not_found_one}
use Rattle.lent_lists.specs.Items.{items_in}
use Rattle.wrapping.proofs.Turning.{Turned}
use Rattle.wrapping.proofs.missing.fail_in_turn.Given as goal

abbrev pub invariant-loop-i : goal.invariant-loop-i
invariant-loop-i l = Turned (λ m i t. not_found_one m l.n.number l.clock i t) (items_in l.items) l.initial.s l.s l.initial.out l.out l.kept l.i
