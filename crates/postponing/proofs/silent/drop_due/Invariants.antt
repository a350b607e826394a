-- `postponing::silent::drop_due` meets its contract.
use Rattle.announcing.proofs.DroppingRows.{Dropping}
use Rattle.postponing.specs.Silent.{is_due}
use Rattle.postponing.proofs.silent.drop_due.Given as goal

abbrev pub invariant-loop-i : goal.invariant-loop-i
invariant-loop-i l = Dropping l.initial.s l.s (is_due l.clock) l.i l.m
