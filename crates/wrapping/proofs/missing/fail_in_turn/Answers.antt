-- `wrapping::missing::fail_in_turn` meets its contract.
use Prim.Native.Nat.{◌*◌, ◌<◌}
use mathlib.Core.Path.{◌≡◌, refl}
use native.Mathlib.Omega.{arith}
use lib.ListN.{length}
use Rattle.machine.specs.Call.{key_bytes}
use Rattle.lent_lists.specs.Items.{items_in}
use Rattle.wrapping.proofs.Asked.{asked_of}
use Rattle.wrapping.proofs.Turning.{turned_start, turned_done, turned_kept, turned_fits, turned_roomy, turned_more}
use Rattle.wrapping.proofs.FailedInTurn.{failing_steady, failing_room, each_failed}
use Rattle.wrapping.proofs.missing.fail_in_turn.Goals as goal

pub loop-i-init : goal.loop-i-init
loop-i-init c = turned_start _ _ _ _

pub overflow_mul-a : goal.overflow_mul-a
overflow_mul-a c =
    let a = c.args in
    let q = asked_of a.n a.clock a.items.now (omega arith) (omega arith) (λ j. omega (arith, c.type_inv.items j)) in
    let v = c.loop-i.invariant in
    let steady = failing_steady q.peer q.late in
    let room = failing_room (items_in a.items.now) a.out.now c.requires.1 in
    omega (arith, turned_fits v steady q.hashed c.requires.0 room, v.buffer-long)

pub slice_bounds-not_found_one-count : goal.slice_bounds-not_found_one-count
slice_bounds-not_found_one-count c =
    let a = c.args in
    let q = asked_of a.n a.clock a.items.now (omega arith) (omega arith) (λ j. omega (arith, c.type_inv.items j)) in
    let v = c.loop-i.invariant in
    let steady = failing_steady q.peer q.late in
    let room = failing_room (items_in a.items.now) a.out.now c.requires.1 in
    omega (arith, turned_fits v steady q.hashed c.requires.0 room, v.buffer-long)

pub slice_bounds-not_found_one-start : goal.slice_bounds-not_found_one-start
slice_bounds-not_found_one-start c =
    let a = c.args in
    let q = asked_of a.n a.clock a.items.now (omega arith) (omega arith) (λ j. omega (arith, c.type_inv.items j)) in
    let v = c.loop-i.invariant in
    let steady = failing_steady q.peer q.late in
    let room = failing_room (items_in a.items.now) a.out.now c.requires.1 in
    omega (arith, turned_fits v steady q.hashed c.requires.0 room, v.buffer-long)

pub not_found_one-c-requires : goal.not_found_one-c-requires
not_found_one-c-requires c =
    let a = c.args in
    let q = asked_of a.n a.clock a.items.now (omega arith) (omega arith) (λ j. omega (arith, c.type_inv.items j)) in
    let v = c.loop-i.invariant in
    let steady = failing_steady q.peer q.late in
    let room = failing_room (items_in a.items.now) a.out.now c.requires.1 in
    let inside : c.loop-i.i < length (items_in a.items.now) = omega (arith, c.loop-i-test.true, c.items-count.ensures) in
    let from : c.loop-i.kept * key_bytes ≡ key_bytes * c.loop-i.kept = omega arith in
    (turned_kept v steady q.hashed c.requires.0 room, turned_roomy v steady q.hashed c.requires.0 room inside from refl)

pub overflow_add-kept : goal.overflow_add-kept
overflow_add-kept c =
    let a = c.args in
    let q = asked_of a.n a.clock a.items.now (omega arith) (omega arith) (λ j. omega (arith, c.type_inv.items j)) in
    let v = c.loop-i.invariant in
    let steady = failing_steady q.peer q.late in
    let room = failing_room (items_in a.items.now) a.out.now c.requires.1 in
    let inside : c.loop-i.i < length (items_in a.items.now) = omega (arith, c.loop-i-test.true, c.items-count.ensures) in
    let from : c.loop-i.kept * key_bytes ≡ key_bytes * c.loop-i.kept = omega arith in
    let next = turned_more v steady q.hashed c.requires.0 room inside from refl _ c.item_at-item.ensures
    c.not_found_one-c.auto.s c.not_found_one-c.auto.out
    c.not_found_one-c.ensures in
    omega (arith, turned_fits next steady q.hashed c.requires.0 room)

pub loop-i-preserved : goal.loop-i-preserved
loop-i-preserved c =
    let a = c.args in
    let q = asked_of a.n a.clock a.items.now (omega arith) (omega arith) (λ j. omega (arith, c.type_inv.items j)) in
    let v = c.loop-i.invariant in
    let steady = failing_steady q.peer q.late in
    let room = failing_room (items_in a.items.now) a.out.now c.requires.1 in
    let inside : c.loop-i.i < length (items_in a.items.now) = omega (arith, c.loop-i-test.true, c.items-count.ensures) in
    let from : c.loop-i.kept * key_bytes ≡ key_bytes * c.loop-i.kept = omega arith in
    turned_more v steady q.hashed c.requires.0 room inside from refl _ c.item_at-item.ensures
    c.not_found_one-c.auto.s c.not_found_one-c.auto.out
    c.not_found_one-c.ensures

pub returns : goal.returns
returns c = each_failed c.args.n.number c.args.clock (items_in c.args.items.now) (turned_done c.loop-i.invariant (omega (arith, c.loop-i.invariant.inside, c.loop-i-test.false, c.items-count.ensures)))
