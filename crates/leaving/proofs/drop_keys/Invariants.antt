use Rattle.machine.specs.State.{State}
use Rattle.machine.specs.Sound.{Sound}
use Rattle.store.specs.Image.{Writes}
use Rattle.leaving.specs.Parting.{Going}
use Rattle.leaving.proofs.drop_keys.Given as goal

abbrev pub invariant-loop-i : goal.invariant-loop-i
invariant-loop-i l = ((st : State) → Sound st → Writes l.initial.s st → Going l.n.number l.clock st l.initial.out l.s l.out l.own l.p.from l.i l.p.parents)
