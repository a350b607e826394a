use mathlib.Core.Path.{sym}
use mathlib.Core.List.{[], ◌∷◌}
use Rattle.ident.specs.Number.{wtxid}
use Rattle.ident.specs.Words.{hash_num}
use Rattle.machine.specs.State.{limits_of}
use Rattle.machine.specs.Package.{failed_with_parents, fail_each, some_keys}
use Rattle.claims.specs.Awaited.{hash_found, last_of}
use Rattle.claims.proofs.Listing.{nothing_on, same_on, found_each, missing_each}
use Rattle.claims.proofs.waiting.fail_entry.Goals as goal

pub returns-in-Some : goal.returns-in-Some
returns-in-Some c =
    let o = last_of (hash_found c.args.given) c.args.claims.now in
    same_on (λ m t. failed_with_parents m (wtxid (hash_num c.in-Some.h)) c.args.n.number c.args.clock t)
    (λ m t. fail_each m c.args.n.number c.args.clock (some_keys (o ∷ [])) t)
    (found_each o (wtxid (hash_num c.in-Some.h)) c.args.n.number c.args.clock (sym c.in-Some.ensures))
    c.fail_claim.ensures

pub returns-in-None : goal.returns-in-None
returns-in-None c =
    let o = last_of (hash_found c.args.given) c.args.claims.now in
    nothing_on _ c.args.c (λ m t. fail_each m c.args.n.number c.args.clock (some_keys (o ∷ [])) t)
    (λ st s w. missing_each o c.args.n.number c.args.clock (sym c.in-None.ensures) (limits_of st) st.table)
