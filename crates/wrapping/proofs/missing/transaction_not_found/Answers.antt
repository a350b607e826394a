-- `wrapping::missing::transaction_not_found` meets its contract.
use Prim.Native.Nat.{◌*◌}
use mathlib.Core.Path.{◌≡◌, refl}
use native.Mathlib.Omega.{arith}
use Rattle.machine.specs.Call.{key_bytes}
use Rattle.lent_lists.specs.Items.{items_in}
use Rattle.wrapping.proofs.Asked.{asked_of}
use Rattle.wrapping.proofs.Idle.{idle_listed}
use Rattle.wrapping.proofs.Packaged.{items_kept, items-within, packages-room, packages-listed, packages-within}
use Rattle.wrapping.proofs.missing.transaction_not_found.Goals as goal

pub overflow_mul-a : goal.overflow_mul-a
overflow_mul-a c =
    let a = c.args in
    let q = asked_of a.n a.clock a.items.now (omega arith) (omega arith) (λ j. omega (arith, c.type_inv.items j)) in
    let v = c.not_found_each-kept.ensures in
    let long = c.not_found_each-kept.auto.out in
    omega (arith, items-within (items_in a.items.now) v long q c.requires.0 c.requires.1, long)

pub slice_bounds-packages_not_found-count : goal.slice_bounds-packages_not_found-count
slice_bounds-packages_not_found-count c =
    let a = c.args in
    let q = asked_of a.n a.clock a.items.now (omega arith) (omega arith) (λ j. omega (arith, c.type_inv.items j)) in
    let v = c.not_found_each-kept.ensures in
    let long = c.not_found_each-kept.auto.out in
    omega (arith, items-within (items_in a.items.now) v long q c.requires.0 c.requires.1, long)

pub slice_bounds-packages_not_found-start : goal.slice_bounds-packages_not_found-start
slice_bounds-packages_not_found-start c =
    let a = c.args in
    let q = asked_of a.n a.clock a.items.now (omega arith) (omega arith) (λ j. omega (arith, c.type_inv.items j)) in
    let v = c.not_found_each-kept.ensures in
    let long = c.not_found_each-kept.auto.out in
    omega (arith, items-within (items_in a.items.now) v long q c.requires.0 c.requires.1, long)

pub packages_not_found-c-requires : goal.packages_not_found-c-requires
packages_not_found-c-requires c =
    let a = c.args in
    let q = asked_of a.n a.clock a.items.now (omega arith) (omega arith) (λ j. omega (arith, c.type_inv.items j)) in
    let v = c.not_found_each-kept.ensures in
    let long = c.not_found_each-kept.auto.out in
    let from : c.not_found_each-kept.result * key_bytes ≡ key_bytes * c.not_found_each-kept.result =
    omega arith in
    (items_kept (items_in a.items.now) v long q c.requires.0 c.requires.1, packages-room (items_in a.items.now) v long q c.requires.0 c.requires.1 from refl)

pub overflow_add-result : goal.overflow_add-result
overflow_add-result c =
    let a = c.args in
    let q = asked_of a.n a.clock a.items.now (omega arith) (omega arith) (λ j. omega (arith, c.type_inv.items j)) in
    let v = c.not_found_each-kept.ensures in
    let long = c.not_found_each-kept.auto.out in
    let from : c.not_found_each-kept.result * key_bytes ≡ key_bytes * c.not_found_each-kept.result = omega arith in
    omega (arith, packages-within (items_in a.items.now) v long q c.requires.0 c.requires.1 from refl c.packages_not_found-c.ensures)

pub returns : goal.returns
returns c =
    let a = c.args in
    let q = asked_of a.n a.clock a.items.now (omega arith) (omega arith) (λ j. omega (arith, c.type_inv.items j)) in
    let v = c.not_found_each-kept.ensures in
    let long = c.not_found_each-kept.auto.out in
    let from : c.not_found_each-kept.result * key_bytes ≡ key_bytes * c.not_found_each-kept.result = omega arith in
    packages-listed (items_in a.items.now) v long q c.requires.0 c.requires.1 from refl c.packages_not_found-c.ensures

pub returns-then-figures-eq0 : goal.returns-then-figures-eq0
returns-then-figures-eq0 c =
    let a = c.args in
    idle_listed a.n.number a.clock (items_in a.items.now) (λ st s w. omega (arith, (c.figures.ensures st s w).owned, c.if-figures-eq0.true))
