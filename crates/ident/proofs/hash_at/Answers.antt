-- `ident::hash_at` meets its contract.
use Rattle.ident.proofs.WordByWord.{hash_read}
use Rattle.ident.proofs.hash_at.Goals as goal

pub returns : goal.returns
returns c =
    hash_read c.args.s.now c.args.a c.requires c.get.ensures c.get-2.ensures c.get-3.ensures c.get-4.ensures
