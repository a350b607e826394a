-- `printing::holdings::put_owners` meets its contract.
use native.Mathlib.Omega.{arith}
use Rattle.lent_lists.specs.Lists.{hashes_in}
use Rattle.owners.proofs.Listed.{quad_is}
use Rattle.printing.proofs.Printing.{decimal_end}
use Rattle.printing.proofs.OwnerLists.{telling_none, telling_more, telling_all}
use Rattle.printing.proofs.holdings.put_owners.Goals as goal

pub loop-i-init : goal.loop-i-init
loop-i-init c = telling_none (hashes_in c.args.hashes.now) c.args.answer.now

pub put_owner-to-requires : goal.put_owner-to-requires
put_owner-to-requires c =
    let t = c.loop-i-test.true in
    let n = c.hashes-n.ensures in
    let v = c.loop-i.invariant in
    let d = c.put_decimal-to in
    (omega (arith, t, n, c.requires.2), omega (arith, t, n, v.ends, v.long, decimal_end _ d.ensures, d.auto, c.requires.0, c.requires.1))

pub loop-i-preserved : goal.loop-i-preserved
loop-i-preserved c =
    let t = c.loop-i-test.true in
    let n = c.hashes-n.ensures in
    let v = c.loop-i.invariant in
    let p = c.put_owner-to in
    let d = c.put_decimal-to in
    telling_more (hashes_in c.args.hashes.now) c.args.answer.now v (omega (arith, t, n))
    (quad_is c.from-h.ensures c.hash_in.ensures)
    (omega (arith, t, n, v.ends, decimal_end _ d.ensures, d.auto, c.requires.0, c.requires.1)) (omega (arith, p.auto)) p.ensures

pub returns : goal.returns
returns c =
    telling_all (hashes_in c.args.hashes.now) c.args.answer.now c.args.passed c.requires.0 c.put_decimal-to.ensures c.loop-i.invariant
    (omega (arith, c.loop-i-test.false, c.hashes-n.ensures)) c.requires.1
