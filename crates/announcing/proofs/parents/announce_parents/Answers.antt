-- `announcing::parents::announce_parents` meets its contract.
use Prim.Native.Nat.{◌<◌}
use mathlib.Core.Path.{refl, sym, ◌∙◌}
use native.Mathlib.Omega.{arith}
use lib.ListN.{length}
use Rattle.machine.specs.Limits.{word}
use Rattle.machine.proofs.Fail.{Peer, FewHashes}
use Rattle.lent_lists.specs.Lists.{hashes_in}
use Rattle.announcing.proofs.Listing.{absent, keyed, turned_start, turned_as, turned_repeat, turned_kept, turned_left, turned_more, one_written}
use Rattle.announcing.proofs.Lent.{few_hashes, peer_of}
use Rattle.announcing.proofs.parents.announce_parents.Goals as goal
use Rattle.announcing.proofs.parents.announce_parents.Goals.{then-not-occurs_before, then-announce_parent, else-announce_parent, else-not-occurs_before}

pub loop-i-init : goal.loop-i-init
loop-i-init c = turned_start _ _ _ _ _ (λ st g w. w)

pub announce_parent-requires : goal.announce_parent-requires
announce_parent-requires c = (turned_kept c.loop-i.invariant
    (omega (arith, c.loop-i-test.true, c.hashes-count.ensures)) (peer_of c.args.n (omega arith)) (omega arith) (few_hashes c.args.parents.now c.type_inv.parents c.requires.1) c.requires.0)

pub loop-i-preserved : goal.loop-i-preserved
loop-i-preserved c =
    let hs = hashes_in c.args.parents.now in
    let v = c.loop-i.invariant in
    let inside : c.loop-i.i < length hs = omega (arith, c.loop-i-test.true, c.hashes-count.ensures) in
    let few : FewHashes hs = few_hashes c.args.parents.now c.type_inv.parents c.requires.1 in
    let peer : Peer c.args.n.number = peer_of c.args.n (omega arith) in
    let late : c.args.clock < word = omega arith in
    elim c.if-not-occurs_before.branch [
      | then-not-occurs_before w ↦
          let new = absent _ w.if-not-occurs_before.true c.occurs_before.ensures w.hash_in-h.ensures in
          elim w.if-announce_parent.branch [
            | then-announce_parent z ↦
                turned_as w.s-is (w.out-is ∙ z.out-is) (w.kept-is ∙ z.kept-is) w.priority-is
                (turned_more v inside _ w.hash_in-h.ensures peer late few new
                (one_written w.announce_parent.ensures) z.if-announce_parent.true c.requires.2 (keyed _ _ z.from.ensures z.put_key.ensures))
            | else-announce_parent z ↦
                turned_as w.s-is (w.out-is ∙ z.out-is) (w.kept-is ∙ z.kept-is) w.priority-is
                (turned_left v inside _ w.hash_in-h.ensures peer late few new (one_written w.announce_parent.ensures) z.if-announce_parent.false)
          ]
      | else-not-occurs_before w ↦
          turned_as w.s-is w.out-is w.kept-is w.priority-is
          (turned_repeat v inside _ refl (sym c.occurs_before.ensures ∙ w.if-not-occurs_before.false))
    ]
