-- `public_plans::on_sound::wrappers::transaction_not_found` meets its contract: an instance of crates/outcome/proofs/Carried.
use native.Mathlib.Omega.{arith}
use Rattle.machine.proofs.Fail.{Peer}
use Rattle.lent_lists.proofs.Inventory.{items-fit}
use Rattle.outcome.proofs.Turns.{some_connection, passed, sized}
use Rattle.outcome.proofs.Exits.{hands-on}
use Rattle.outcome.proofs.Carried.{refused_by, front_places, lists_done}
use Rattle.outcome.proofs.ListedKeys.{missing-typed}
use Rattle.public_plans.proofs.Instances.{misses}
use Rattle.public_plans.proofs.on_sound.wrappers.transaction_not_found.Goals as goal

pub returns-in_err-connection : goal.returns-in_err-connection
returns-in_err-connection c =
    rw (hands-on _ c.from_residual.ensures.1) (refused_by (misses _ _ _ _).names c.requires _ (sized _ _ _ _ c.in_err-connection.ensures.test (c.missing_needs-needs.ensures c.requires)))

pub transaction_not_found-listed-requires : goal.transaction_not_found-listed-requires
transaction_not_found-listed-requires c =
    let w = c.requires in
    let p = passed c.in_ok-connection.ensures.test in
    let e = c.need_of-n.ensures in
    (e.kept, omega (arith, p.room, c.missing_needs-needs.ensures w, front_places w e))

pub returns : goal.returns
returns c =
    let w = c.requires in
    let a = c.args in
    let q = sized _ _ _ _ c.in_ok-connection.ensures.test
    (c.missing_needs-needs.ensures w) in
    let peer : Peer a.connection = record
    { positive = some_connection _ (passed c.in_ok-connection.ensures.test).connections; small = omega arith } in
    let fit = items-fit a.items.now
    (λ i. omega (arith, c.type_inv.items i)) in
    let typed = missing-typed w.state w.sound _ a.clock _ peer (omega arith) fit in
    lists_done (misses _ _ _ _) w q c.need_of-n.ensures (λ i. omega (arith, c.type_inv.s i)) typed
    (rw (c.in_ok-connection.ensures.given.0, c.in_ok-connection.ensures.given.1) at c.transaction_not_found-listed.ensures)
