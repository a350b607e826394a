-- `calling::ownership::listing` meets its contract.
use mathlib.Core.Path.{ap}
use Prim.Native.Nat.{ℕ}
use Rattle.std.specs.Prelude.{Result}
use Rattle.outcome.specs.declared.refusal.Refusal.{Refusal}
use Rattle.lent_lists.specs.Lists.{hashes_in}
use Rattle.public_plans.specs.Ownership.{owners_of}
use Rattle.printing.proofs.Printing.{refused-printed}
use Rattle.printing.proofs.OwnerLists.{owners-fit, owners-printed}
use Rattle.calling.proofs.ownership.listing.Goals as goal

pub put_owners-requires : goal.put_owners-requires
put_owners-requires c =
    let hs = hashes_in c.args.hashes.now in
    let u = c.args.answer.now in
    let f = owners-fit hs u (ap (λ (x : Result ℕ Refusal). owners_of hs x u) c.in-Ok.is) c.requires.1 in
    (c.requires.0, f.0, f.1)

pub returns-in-Err : goal.returns-in-Err
returns-in-Err c =
    refused-printed (ap (λ (x : Result ℕ Refusal). owners_of (hashes_in c.args.hashes.now) x c.args.answer.now) c.in-Err.is)
    (rw (← c.from.ensures) c.refusal.ensures)

pub returns-in-Ok : goal.returns-in-Ok
returns-in-Ok c =
    owners-printed _ _ (ap (λ (x : Result ℕ Refusal). owners_of (hashes_in c.args.hashes.now) x c.args.answer.now) c.in-Ok.is)
    c.put_owners.ensures
