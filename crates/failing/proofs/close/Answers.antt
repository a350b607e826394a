use Rattle.ident.specs.Words.{key_num}
use Rattle.ident.proofs.Words.{key-four, hash_below}
use Rattle.failing.proofs.Clearing.{nothing-closed, left_txid}
use Rattle.failing.proofs.close.Goals as goal

pub returns-else-eq : goal.returns-else-eq
returns-else-eq c = λ st s w u. nothing-closed st s (key_num c.args.k) (hash_below c.args.k.hash
    (key-four c.args.k c.well_formed.1.0)) (left_txid c.args.k.kind c.eq.ensures c.if-eq.false) w
