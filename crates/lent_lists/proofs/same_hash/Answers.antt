-- `lent_lists::same_hash` meets its contract: hashes are equal where their numbers are.
use mathlib.Core.Path.{◌∙◌}
use Rattle.ident.proofs.Words.{hash-four, same_number}
use Rattle.lent_lists.proofs.same_hash.Goals as goal

pub returns : goal.returns
returns c =
    let a = c.args.a in
    let b = c.args.b in
    c.eq.ensures ∙ same_number a b (hash-four a c.well_formed.0) (hash-four b c.well_formed.1.0)
