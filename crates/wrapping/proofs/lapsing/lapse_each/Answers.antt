-- `wrapping::lapsing::lapse_each` meets its contract.
use Prim.Native.Nat.{◌*◌, ◌<◌}
use mathlib.Core.Path.{◌≡◌, refl}
use native.Mathlib.Omega.{arith}
use lib.ListN.{length}
use Rattle.machine.specs.Call.{key_bytes}
use Rattle.lent_lists.specs.Items.{items_in}
use Rattle.lent_lists.proofs.Inventory.{items-fit}
use Rattle.wrapping.proofs.Turning.{turned_start, turned_kept, turned_fits, turned_roomy, turned_more}
use Rattle.wrapping.proofs.LapsedItems.{lapsing_steady, lapsing_room}
use Rattle.wrapping.proofs.lapsing.lapse_each.Goals as goal

pub loop-i-init : goal.loop-i-init
loop-i-init c = turned_start _ _ _ _

pub overflow_mul-a : goal.overflow_mul-a
overflow_mul-a c =
    let a = c.args in
    let h = items-fit a.items.now (λ j. omega (arith, c.type_inv.items j)) in
    let v = c.loop-i.invariant in
    let steady = lapsing_steady a.n a.clock (omega arith) in
    let room = lapsing_room a.s.now (items_in a.items.now) a.out.now c.requires.1 in
    omega (arith, turned_fits v steady h c.requires.0 room, v.buffer-long)

pub slice_bounds-lapse_item-count : goal.slice_bounds-lapse_item-count
slice_bounds-lapse_item-count c =
    let a = c.args in
    let h = items-fit a.items.now (λ j. omega (arith, c.type_inv.items j)) in
    let v = c.loop-i.invariant in
    let steady = lapsing_steady a.n a.clock (omega arith) in
    let room = lapsing_room a.s.now (items_in a.items.now) a.out.now c.requires.1 in
    omega (arith, turned_fits v steady h c.requires.0 room, v.buffer-long)

pub slice_bounds-lapse_item-start : goal.slice_bounds-lapse_item-start
slice_bounds-lapse_item-start c =
    let a = c.args in
    let h = items-fit a.items.now (λ j. omega (arith, c.type_inv.items j)) in
    let v = c.loop-i.invariant in
    let steady = lapsing_steady a.n a.clock (omega arith) in
    let room = lapsing_room a.s.now (items_in a.items.now) a.out.now c.requires.1 in
    omega (arith, turned_fits v steady h c.requires.0 room, v.buffer-long)

pub lapse_item-c-requires : goal.lapse_item-c-requires
lapse_item-c-requires c =
    let a = c.args in
    let h = items-fit a.items.now (λ j. omega (arith, c.type_inv.items j)) in
    let v = c.loop-i.invariant in
    let steady = lapsing_steady a.n a.clock (omega arith) in
    let room = lapsing_room a.s.now (items_in a.items.now) a.out.now c.requires.1 in
    let inside : c.loop-i.i < length (items_in a.items.now) = omega (arith, c.loop-i-test.true, c.items-count.ensures) in
    let from : c.loop-i.kept * key_bytes ≡ key_bytes * c.loop-i.kept = omega arith in
    let k = turned_kept v steady h c.requires.0 room in
    let roomy = turned_roomy v steady h c.requires.0 room inside from refl k.state k.sound k.writes in
    (k, omega (arith, roomy))

pub overflow_add-kept : goal.overflow_add-kept
overflow_add-kept c =
    let a = c.args in
    let h = items-fit a.items.now (λ j. omega (arith, c.type_inv.items j)) in
    let v = c.loop-i.invariant in
    let steady = lapsing_steady a.n a.clock (omega arith) in
    let room = lapsing_room a.s.now (items_in a.items.now) a.out.now c.requires.1 in
    let inside : c.loop-i.i < length (items_in a.items.now) = omega (arith, c.loop-i-test.true, c.items-count.ensures) in
    let from : c.loop-i.kept * key_bytes ≡ key_bytes * c.loop-i.kept = omega arith in
    let next = turned_more v steady h c.requires.0 room inside from refl _ c.item_at-item.ensures
    c.lapse_item-c.auto.s c.lapse_item-c.auto.out
    c.lapse_item-c.ensures in
    omega (arith, turned_fits next steady h c.requires.0 room)

pub loop-i-preserved : goal.loop-i-preserved
loop-i-preserved c =
    let a = c.args in
    let h = items-fit a.items.now (λ j. omega (arith, c.type_inv.items j)) in
    let v = c.loop-i.invariant in
    let steady = lapsing_steady a.n a.clock (omega arith) in
    let room = lapsing_room a.s.now (items_in a.items.now) a.out.now c.requires.1 in
    let inside : c.loop-i.i < length (items_in a.items.now) = omega (arith, c.loop-i-test.true, c.items-count.ensures) in
    let from : c.loop-i.kept * key_bytes ≡ key_bytes * c.loop-i.kept = omega arith in
    turned_more v steady h c.requires.0 room inside from refl _ c.item_at-item.ensures
    c.lapse_item-c.auto.s c.lapse_item-c.auto.out
    c.lapse_item-c.ensures
