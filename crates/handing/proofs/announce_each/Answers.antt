use native.Mathlib.Omega.{arith}
use Prim.Native.Nat.{◌<◌}
use lib.ListN.{length}
use mathlib.Core.Path.{refl}
use Rattle.machine.specs.Limits.{word}
use Rattle.machine.proofs.Fail.{FewHashes}
use Rattle.lent_lists.specs.Lists.{hashes_in}
use Rattle.handing.proofs.Announcing.{handing_none, handing_kept, handing-order, handing-room, handing_more}
use Rattle.announcing.proofs.Lent.{few_hashes}
use Rattle.handing.proofs.announce_each.Goals as goal

pub loop-number-init : goal.loop-number-init
loop-number-init c = handing_none c.args.clock (hashes_in c.args.list.now) c.args.conns.now c.args.s.now c.args.u.now c.args.c c.requires.3

pub announce_for-r-requires : goal.announce_for-r-requires
announce_for-r-requires c =
    let late : c.args.clock < word = omega arith in
    let few : FewHashes (hashes_in c.args.list.now) = few_hashes c.args.list.now c.type_inv.list c.requires.1 in
    let inside : c.loop-number.number-index < length c.args.conns.now = omega (arith, c.loop-number-test) in (
      handing_kept late few c.requires.2 c.requires.3 c.requires.4 c.loop-number.invariant c.requires.0,
      c.requires.1,
      handing-order late few c.requires.2 c.requires.3 c.requires.4 c.loop-number.invariant _ inside refl c.requires.0,
      handing-room late few c.requires.2 c.requires.3 c.requires.4 c.loop-number.invariant _ inside refl c.requires.0,
    )

pub loop-number-preserved : goal.loop-number-preserved
loop-number-preserved c =
    let late : c.args.clock < word = omega arith in
    let few : FewHashes (hashes_in c.args.list.now) = few_hashes c.args.list.now c.type_inv.list c.requires.1 in
    let inside : c.loop-number.number-index < length c.args.conns.now = omega (arith, c.loop-number-test) in
    handing_more late few c.requires.2 c.requires.3 c.requires.4 c.loop-number.invariant _ inside refl
    c.announce_for-r.auto.s c.announce_for-r.ensures
