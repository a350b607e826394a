-- `claims::waiting::latest` meets its contract: the first that is found from the back.
use mathlib.Core.Path.{ap, ◌∙◌}
use Rattle.std.proofs.Common.{rules, tests}
use Rattle.std.proofs.lemmas.Iterator.Adapters.{YieldsList-from_rev_slice}
use Rattle.std.proofs.lemmas.Iterator.Search.{find_from_yields_List}
use Rattle.ident.specs.Words.{hash_num}
use Rattle.claims.proofs.LastOnes.{sums_to, key_of, last_found}
use Rattle.claims.proofs.waiting.latest.Goals as goal

pub returns-in_err-claim : goal.returns-in_err-claim
returns-in_err-claim c =
    let claims = c.args.claims.now in
    let n = hash_num c.in_ok-c.c in
    let found = find_from_yields_List (sums_to n) _ _ c.find.result c.find.ensures.ran (YieldsList-from_rev_slice claims (cc)) (λ x b q k. search (rules, tests)) in
    rw (c.from_residual-in_err-claim.ensures, c.in_ok-c.was) (ap key_of (rw c.in_err-claim.was at found) ∙ last_found n claims)

pub returns : goal.returns
returns c =
    let claims = c.args.claims.now in
    let n = hash_num c.in_ok-c.c in
    let found = find_from_yields_List (sums_to n) _ _ c.find.result c.find.ensures.ran (YieldsList-from_rev_slice claims (cc)) (λ x b q k. search (rules, tests)) in
    rw c.in_ok-c.was (ap key_of (rw c.in_ok-claim.was at found) ∙ last_found n claims)
