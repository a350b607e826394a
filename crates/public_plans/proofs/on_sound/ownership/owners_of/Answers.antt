-- `public_plans::on_sound::ownership::owners_of` meets its contract: an instance of proofs/Held.
use mathlib.Core.Path.{sym, ◌∙◌}
use native.Mathlib.Omega.{arith}
use Rattle.lent_lists.specs.Lists.{hashes_in}
use Rattle.outcome.proofs.Turns.{hashes-wrong, hashes-sized, passed-hashes}
use Rattle.outcome.proofs.Exits.{hands-on}
use Rattle.public_plans.proofs.Held.{right_order, sized-hashes, owners_refused_by, owners_done}
use Rattle.outcome.specs.declared.refusal.Refusal.TheVariants.{WrongHashes}
use Rattle.public_plans.proofs.on_sound.ownership.owners_of.Goals as goal

pub returns-then-wrong : goal.returns-then-wrong
returns-then-wrong c =
    let hs = hashes_in c.args.hashes.now in
    owners_refused_by hs _ c.requires WrongHashes (hashes-wrong hs _ _ (sym c.if-wrong.true ∙ c.wrong.ensures))

pub returns-in_err-of_buffer : goal.returns-in_err-of_buffer
returns-in_err-of_buffer c =
    let hs = hashes_in c.args.hashes.now in
    rw (hands-on _ c.from_residual.ensures.1)
    (owners_refused_by hs _ c.requires _ (sized-hashes hs _ (c.in_err-of_buffer.ensures ∙ hashes-sized hs _ _ (sym c.if-wrong.false ∙ c.wrong.ensures)) c.needs-needs.ensures))

pub owners_of-passed-requires : goal.owners_of-passed-requires
owners_of-passed-requires c =
    let hs = hashes_in c.args.hashes.now in
    let p = passed-hashes (c.in_ok-of_buffer.ensures ∙ hashes-sized hs _ _ (sym c.if-wrong.false ∙ c.wrong.ensures)) in
    (c.need_of-n.ensures.kept, right_order hs p.right, omega (arith, p.room, c.needs-needs.ensures))

pub returns : goal.returns
returns c =
    let hs = hashes_in c.args.hashes.now in
    owners_done hs _ c.requires
    (sized-hashes hs _ (c.in_ok-of_buffer.ensures ∙ hashes-sized hs _ _
    (sym c.if-wrong.false ∙ c.wrong.ensures)) c.needs-needs.ensures)
    c.need_of-n.ensures
    (λ i. omega (arith, c.type_inv.s i)) c.owners_of-passed.ensures
