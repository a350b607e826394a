-- `reading::hashes::ListedHash::take` meets its contract.
use mathlib.Core.Path.{ap}
use native.Mathlib.Omega.{arith}
use Rattle.reading.specs.Given.{hash_at}
use Rattle.reading.proofs.Elements.{taken_there}
use Rattle.reading.proofs.Stored.{quad_below, hash-put}
use Rattle.reading.proofs.hashes.ListedHashElement.take.Goals as goal

pub returns : goal.returns
returns c =
    let q = c.in_ok-hash.hash.value in
    let below = quad_below q (omega arith) (omega arith) (omega arith) (omega arith) in
    taken_there c.hash_at.ensures (ap hash_at c.in_ok-hash.was)
    (hash-put c.args.hashes.now c.args.i c.requires q below c.from.result c.from.ensures c.put_hash.ensures)
