-- `saving::request_lines::next_package` meets its contract.
use mathlib.Core.Path.{sym, ◌∙◌}
use native.Mathlib.Omega.{arith}
use Rattle.std.specs.Prelude.{Some}
use Rattle.package_stages.specs.declared.Stage.TheVariants.{Enqueued}
use Rattle.package_stages.proofs.Read.{stage-eq}
use Rattle.machine.specs.State.{Request}
use Rattle.package_stages.specs.Changes.{wtxids_of}
use Rattle.saving.proofs.Places.{hashes_read, flagged_stage, package_stage, none_laid, package-laid}
use Rattle.saving.proofs.request_lines.next_package.Goals as goal

pub returns-then-eq : goal.returns-then-eq
returns-then-eq c = (omega (arith, c.put_text.ensures.next), none_laid (flagged_stage c.args.stage (sym c.if-eq.true ∙ c.eq.ensures)) c.put_text.ensures)

pub returns : goal.returns
returns c = (
  omega (
    arith,
    c.wtxids-n.ensures.0,
    c.next_hash-e.ensures.0,
    c.next_number-e.ensures.0,
    c.next_hashes-e.ensures.near,
    c.next_bool.ensures.0,
  ),
  package-laid _ (package_stage c.args.stage (sym c.if-eq.false ∙ c.eq.ensures)) (c.eq-2.ensures ∙ stage-eq (Some c.args.stage) Enqueued)
      c.combined_at-c.ensures
      c.wtxids-n.ensures.1
      c.next_hash-e.ensures.1
      c.next_number-e.ensures.1
      (hashes_read (λ (q : Request). wtxids_of q.«package») c.next_hashes-e.ensures.laid (λ j h l r. r)) c.next_bool.ensures.1,
)
