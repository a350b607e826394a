-- `saving::request_lines::next_hashes` meets its contract. The loop's invariant: the first j hashes are done.
use native.Mathlib.Omega.{arith}
use Rattle.saving.proofs.Places.{hashes_none, hashes-laid}
use Rattle.saving.proofs.request_lines.next_hashes.Goals as goal

pub loop-j-init : goal.loop-j-init
loop-j-init g c = (omega arith, omega arith, hashes_none)

pub loop-j-preserved : goal.loop-j-preserved
loop-j-preserved g c =
    let i = c.loop-j.invariant in
    (omega arith, omega (arith, c.next_hash-e.ensures.0, i.1), hashes-laid i.2 c.loop-j-test.true c.hash.ensures c.next_hash-e.ensures.1)
