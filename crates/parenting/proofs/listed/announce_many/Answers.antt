-- `parenting::listed::announce_many` meets its contract.
use Prim.Native.Nat.{◌<◌}
use mathlib.Core.Path.{refl, sym, ◌∙◌}
use native.Mathlib.Omega.{arith}
use lib.ListN.{length}
use Rattle.machine.specs.Limits.{word}
use Rattle.machine.proofs.Fail.{Peer, FewHashes}
use Rattle.lent_lists.specs.Lists.{hashes_in}
use Rattle.announcing.proofs.Listing.{absent, keyed, turned_start, turned_repeat, turned_left, turned_more}
use Rattle.announcing.proofs.Lent.{few_hashes, peer_of}
use Rattle.parenting.proofs.Listing.{supplied_at_first, supplied_as, one_further}
use Rattle.parenting.proofs.listed.announce_many.Goals as goal
use Rattle.parenting.proofs.listed.announce_many.Goals.{then-not-occurs_before, then-announce_further, else-announce_further, else-not-occurs_before}

pub loop-i-init : goal.loop-i-init
loop-i-init c = turned_start _ _ _ _ _ (supplied_at_first _ c.none-new.ensures c.nothing_listed-q.ensures)

pub loop-i-preserved : goal.loop-i-preserved
loop-i-preserved c =
    let hs = hashes_in c.args.parents.now in
    let v = c.loop-i.invariant in
    let inside : c.loop-i.i < length hs = omega (arith, c.loop-i-test.true, c.hashes-count.ensures) in
    let few : FewHashes hs = few_hashes c.args.parents.now c.type_inv.parents c.requires.1 in
    let peer : Peer c.args.n.number = peer_of c.args.n (omega arith) in
    let late : c.args.clock < word = omega arith in
    elim c.if-not-occurs_before.branch [
      | then-not-occurs_before w ↦
          let new = absent _ w.if-not-occurs_before.true c.occurs_before.ensures w.hash_in-hash.ensures in
          elim w.if-announce_further.branch [
            | then-announce_further z ↦
                supplied_as w.s-is (w.out-is ∙ z.out-is) w.new-is w.q-is (w.kept-is ∙ z.kept-is) w.priority-is
                (turned_more v inside _ w.hash_in-hash.ensures peer late few new (one_further w.announce_further.ensures) z.if-announce_further.true c.requires.2
                (keyed _ _ z.from.ensures z.put_key.ensures))
            | else-announce_further z ↦
                supplied_as w.s-is (w.out-is ∙ z.out-is) w.new-is w.q-is (w.kept-is ∙ z.kept-is) w.priority-is
                (turned_left v inside _ w.hash_in-hash.ensures peer late few new (one_further w.announce_further.ensures) z.if-announce_further.false)
          ]
      | else-not-occurs_before w ↦
          supplied_as w.s-is w.out-is w.new-is w.q-is w.kept-is w.priority-is
          (turned_repeat v inside _ refl (sym c.occurs_before.ensures ∙ w.if-not-occurs_before.false))
    ]
