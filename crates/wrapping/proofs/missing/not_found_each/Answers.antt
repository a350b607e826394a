-- `wrapping::missing::not_found_each` meets its contract.
use native.Mathlib.Omega.{arith}
use Rattle.lent_lists.specs.Items.{items_in}
use Rattle.wrapping.proofs.Asked.{asked_of}
use Rattle.wrapping.proofs.LapsedItems.{lapsed_kept, all_went}
use Rattle.wrapping.proofs.missing.not_found_each.Goals as goal

pub drop_due-requires : goal.drop_due-requires
drop_due-requires c =
    let a = c.args in
    let q = asked_of a.n a.clock a.items.now (omega arith) (omega arith) (λ j. omega (arith, c.type_inv.items j)) in
    lapsed_kept a.n.number a.clock (items_in a.items.now) q.late q.hashed c.requires.0 c.lapse_each-kept.ensures

pub returns : goal.returns
returns c =
    let a = c.args in
    let q = asked_of a.n a.clock a.items.now (omega arith) (omega arith) (λ j. omega (arith, c.type_inv.items j)) in
    let x = c.may_wait.ensures c.if-not-may_wait.false in
    all_went a.n.number a.clock (items_in a.items.now) q.late q.hashed x.0 x.1 c.lapse_each-kept.ensures c.drop_due.ensures
