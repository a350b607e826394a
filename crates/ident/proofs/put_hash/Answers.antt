-- `ident::put_hash` meets its contract.
use Rattle.ident.proofs.Words.{hash-four}
use Rattle.ident.proofs.WordByWord.{hash-put}
use Rattle.ident.proofs.put_hash.Goals as goal

pub returns : goal.returns
returns c =
    let h = c.args.h in
    hash-put c.args.s.now c.args.a c.requires h (hash-four h c.well_formed.1.1.0)
    c.put.ensures
    c.put-2.ensures c.put-3.ensures c.put-4.ensures
