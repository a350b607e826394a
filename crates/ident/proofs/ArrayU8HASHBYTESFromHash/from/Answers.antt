-- The bytes of a hash have its number.
use mathlib.Core.Path.{refl}
use Rattle.ident.specs.Words.{hash_num}
use Rattle.ident.proofs.Words.{hash-four, hash_below}
use Rattle.ident.proofs.WordByWord.{written}
use Rattle.ident.proofs.ArrayU8HASHBYTESFromHash.from.Goals as goal

pub returns : goal.returns
returns c =
    let h = c.args.h in
    written _ (hash_num h) refl (hash_below h (hash-four h c.well_formed.0)) c.put_hash.ensures
