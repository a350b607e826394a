-- `public_plans::on_sound::arrangements::arrange` meets its contract: an instance of proofs/Sent.
use mathlib.Core.Path.{sym, ◌∙◌}
use native.Mathlib.Omega.{arith}
use Rattle.words.specs.Words.{words}
use Rattle.outcome.proofs.Turns.{connections-zero, connections-sized, passed, sized}
use Rattle.outcome.proofs.Exits.{hands-on}
use Rattle.outcome.proofs.Carried.{refused_by}
use Rattle.public_plans.proofs.Entered.{length-entries, entries_whole}
use Rattle.public_plans.proofs.Sent.{arranges, arranges_done}
use Rattle.outcome.specs.declared.refusal.Refusal.TheVariants.{NoConnection}
use Rattle.public_plans.proofs.on_sound.arrangements.arrange.Goals as goal

pub returns-then-listed : goal.returns-then-listed
returns-then-listed c =
    refused_by (arranges _ _ _) c.requires NoConnection
    (connections-zero (words c.args.witnesses.now) _ _ (sym c.if-listed.true ∙ c.listed.ensures))

pub returns-in_err-of_buffer : goal.returns-in_err-of_buffer
returns-in_err-of_buffer c =
    let ws = words c.args.witnesses.now in
    let q = sized ws _ _ _ (c.in_err-of_buffer.ensures ∙ connections-sized ws _ _ (sym c.if-listed.false ∙ c.listed.ensures)) c.list_needs-needs.ensures in
    rw (hands-on _ c.from_residual.ensures.1) (refused_by (arranges _ _ _) c.requires _ q)

pub arrange-sent-requires : goal.arrange-sent-requires
arrange-sent-requires c =
    (c.need_of-n.ensures.kept, omega (arith, (passed c.in_ok-of_buffer.ensures).room, c.list_needs-needs.ensures, length-entries c.args.taken.now))

pub returns : goal.returns
returns c =
    let a = c.args in
    let ws = words a.witnesses.now in
    let whole = entries_whole a.taken.now (λ i. omega (arith, c.type_inv.taken i)) in
    let q = sized ws _ _ _
    (c.in_ok-of_buffer.ensures ∙ connections-sized ws _ _
    (sym c.if-listed.false ∙ c.listed.ensures)) c.list_needs-needs.ensures in
    let g = c.arrange-sent.ensures in
    arranges_done _ _ c.requires whole q c.need_of-n.ensures
    (λ i. omega (arith, c.type_inv.s i)) g.count g.entries
