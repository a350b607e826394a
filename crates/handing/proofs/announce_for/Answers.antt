use Prim.Native.Nat.{◌*◌}
use native.Mathlib.Omega.{arith}
use lib.Seq.{length-take-le}
use Rattle.machine.proofs.Fail.{FewHashes}
use Rattle.lent_lists.specs.Lists.{hashes_in}
use Rattle.handing.proofs.Announcing.{fits_parents, merge-room, one_merged}
use Rattle.announcing.proofs.Lent.{few_hashes}
use Rattle.handing.proofs.announce_for.Goals as goal

pub overflow_mul-keys : goal.overflow_mul-keys
overflow_mul-keys c =
    let few : FewHashes (hashes_in c.args.list.now) = few_hashes c.args.list.now c.type_inv.list c.requires.1 in
    let fit = fits_parents c.args.n.number c.args.clock _ few c.announce_parents-kept.ensures c.requires.0 c.requires.1 (omega (arith, c.announce_parents-kept.auto)) in
    omega (arith, fit, c.announce_parents-kept.auto)

pub slice_bounds-keys-end : goal.slice_bounds-keys-end
slice_bounds-keys-end c =
    let few : FewHashes (hashes_in c.args.list.now) = few_hashes c.args.list.now c.type_inv.list c.requires.1 in
    let fit = fits_parents c.args.n.number c.args.clock _ few c.announce_parents-kept.ensures c.requires.0 c.requires.1 (omega (arith, c.announce_parents-kept.auto)) in
    omega (arith, fit)

pub slice_bounds-merge-end : goal.slice_bounds-merge-end
slice_bounds-merge-end c =
    let few : FewHashes (hashes_in c.args.list.now) = few_hashes c.args.list.now c.type_inv.list c.requires.1 in
    let fit = fits_parents c.args.n.number c.args.clock _ few c.announce_parents-kept.ensures c.requires.0 c.requires.1 (omega (arith, c.announce_parents-kept.auto)) in
    omega (arith, length-take-le (c.announce_parents-kept.result * 40) c.announce_parents-kept.new.out (omega (arith, fit)))

pub merge-requires : goal.merge-requires
merge-requires c =
    let few : FewHashes (hashes_in c.args.list.now) = few_hashes c.args.list.now c.type_inv.list c.requires.1 in
    let fit = fits_parents c.args.n.number c.args.clock _ few c.announce_parents-kept.ensures c.requires.0 c.requires.1 (omega (arith, c.announce_parents-kept.auto)) in (
      c.requires.2,
      merge-room c.args.n.number c.args.clock _ few c.announce_parents-kept.ensures fit c.args.u.now c.args.c c.requires.0 c.requires.3,
    )

pub returns : goal.returns
returns c =
    let few : FewHashes (hashes_in c.args.list.now) = few_hashes c.args.list.now c.type_inv.list c.requires.1 in
    let fit = fits_parents c.args.n.number c.args.clock _ few c.announce_parents-kept.ensures c.requires.0 c.requires.1 (omega (arith, c.announce_parents-kept.auto)) in
    one_merged c.args.n.number c.args.clock _ few c.announce_parents-kept.ensures fit c.merge.ensures
