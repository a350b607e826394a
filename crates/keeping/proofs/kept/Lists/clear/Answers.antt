-- `keeping::kept::Lists::clear` meets its contract: none ascend.
use mathlib.Core.Path.{sym, subst}
use mathlib.Core.List.{List, []}
use Rattle.machine.specs.State.{Entry}
use Rattle.regions.specs.Order.{Sorted}
use Rattle.store.proofs.Bounds.{ascend-sorted}
use Rattle.sending.specs.Parts.{connections_in}
use Rattle.keeping.proofs.kept.Lists.clear.Goals as goal

pub invariant_of-self : goal.invariant_of-self
invariant_of-self c = subst (λ (x : List Entry). Sorted (connections_in x)) (sym c.clear-3.ensures) (ascend-sorted 0 [] tt)
