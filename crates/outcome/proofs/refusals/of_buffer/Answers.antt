-- `outcome::refusals::of_buffer` meets its contract.
use mathlib.Core.Path.{◌∙◌}
use native.Mathlib.Omega.{arith}
use Rattle.outcome.proofs.Turns.{buffer-short, buffer-long, buffer_only}
use Rattle.outcome.proofs.refusals.of_buffer.Goals as goal

pub returns-then-length-needs : goal.returns-then-length-needs
returns-then-length-needs c = buffer-short _ _ (omega arith) ∙ buffer_only _ _

pub returns : goal.returns
returns c = buffer-long _ _ (omega arith) ∙ buffer_only _ _
