-- `soliciting::info::add_parents` meets its contract.
use Prim.Native.Nat.{ℕ, ◌<◌}
use mathlib.Core.Path.{◌≡◌, refl, sym, ap, ◌∙◌}
use mathlib.Core.Bool.{Bool, false}
use mathlib.Core.List.{List}
use native.Mathlib.Omega.{arith}
use lib.ListN.{length}
use Rattle.ident.specs.Words.{hash_num}
use Rattle.ident.proofs.Words.{hash-four, hash_below}
use Rattle.lent_lists.specs.Lists.{hashes_in}
use Rattle.lent_lists.proofs.Given.{hashes-fit}
use Rattle.machine.specs.Claim.{elem}
use Rattle.machine.proofs.Fail.{FewHashes}
use Rattle.soliciting.proofs.Adding.{added_as, added_start, added_kept, added_repeat, added_more}
use Rattle.soliciting.proofs.info.add_parents.Goals as goal
use Rattle.soliciting.proofs.info.add_parents.Goals.{then-not-occurs_before, else-not-occurs_before}

-- a hash that did not occur, as the code answers it
absent : {r : Bool} {x y : ℕ} (l : List ℕ) → r ≡ false → r ≡ elem y l → x ≡ y → elem x l ≡ false
absent l t e q = ap (λ (z : ℕ). elem z l) q ∙ sym e ∙ t

pub loop-i-init : goal.loop-i-init
loop-i-init c =
    let h = c.args.h in
    added_start (hash_num h) (hash_below h (hash-four h c.well_formed.1.0)) _ _

pub add_parent-requires : goal.add_parent-requires
add_parent-requires c =
    let h = c.args.h in
    added_kept (hash_num h) (hash_below h (hash-four h c.well_formed.1.0)) (hashes_in c.args.parents.now) c.loop-i.invariant (record {
      hashes =
          hashes-fit c.args.parents.now (λ j. omega (arith, c.type_inv.parents j));
      few = c.requires.1;
    }) c.requires.0

pub loop-i-preserved : goal.loop-i-preserved
loop-i-preserved c =
    let h = c.args.h in
    let small = hash_below h (hash-four h c.well_formed.1.0) in
    let hs = hashes_in c.args.parents.now in
    let v = c.loop-i.invariant in
    let inside : c.loop-i.i < length hs = omega (arith, c.loop-i-test.true, c.hashes-count.ensures) in
    let few : FewHashes hs = record {
      hashes = hashes-fit c.args.parents.now (λ j. omega (arith, c.type_inv.parents j));
      few = c.requires.1;
    } in
    elim c.if-not-occurs_before.branch [
      | then-not-occurs_before w ↦
          added_as w.s-is (added_more (hash_num h) small hs v few inside _ w.hash_in-p.ensures
          (absent _ w.if-not-occurs_before.true c.occurs_before.ensures w.hash_in-p.ensures) w.add_parent.auto.s w.add_parent.ensures)
      | else-not-occurs_before w ↦
          added_as w.s-is (added_repeat (hash_num h) small hs v few inside _ refl (sym c.occurs_before.ensures ∙ w.if-not-occurs_before.false))
    ]
