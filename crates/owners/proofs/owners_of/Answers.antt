-- `owners::owners_of` meets its contract.
use native.Mathlib.Omega.{arith}
use Rattle.owners.proofs.Entries.{first_is}
use Rattle.owners.proofs.Listed.{quad_is, quad_small}
use Rattle.owners.proofs.Turns.{walking_start, walking_more, walking_done}
use Rattle.owners.proofs.owners_of.Goals as goal

pub loop-p-init : goal.loop-p-init
loop-p-init c = walking_start _ _ _ _ c.first_wtxid-m.ensures

pub loop-p-preserved : goal.loop-p-preserved
loop-p-preserved c =
    let given = c.requires in
    let taken = c.loop-p-test.true in
    let quad = c.from-h.ensures in
    let word = c.rows-n.ensures.word in
    let second = rw word at c.along-b.ensures in
    walking_more c.loop-p.invariant given.1
    c.first_wtxid-m.ensures
    (omega (arith, taken, c.hashes-count.ensures))
    (quad_is quad c.hash_in.ensures) (quad_small quad)
    c.along-a.ensures second c.or.result (λ o q x y. rw c.or.ensures (first_is _ _ o q x y))
    c.put_owner.ensures
    (omega (arith, c.put_owner.auto)) given.2

pub returns : goal.returns
returns c = walking_done c.loop-p.invariant c.requires.1 (omega (arith, c.loop-p-test.false, c.hashes-count.ensures))
