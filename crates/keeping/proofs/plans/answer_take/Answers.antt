-- `keeping::plans::answer_take` meets its contract.
use mathlib.Core.Path.{refl}
use native.Mathlib.Omega.{arith}
use Rattle.machine.specs.Call.{Claim}
use Rattle.printing.proofs.Printing.{does_is}
use Rattle.keeping.proofs.Stepping.{listable, entries_asked, entries_told, step_taken}
use Rattle.keeping.proofs.plans.answer_take.Goals as goal

pub keep_entries-requires : goal.keep_entries-requires
keep_entries-requires c = (c.requires, entries_asked c.claim-a.result _ (listable c.claim-a.ensures (omega (arith, c.claim-a.auto))))

pub returns : goal.returns
returns c =
    rw (← c.lists.view_is) (step_taken _ c.args.clock
    (does_is (λ i. Claim c.args.clock (c.bytes.ensures.entries i) (c.answer_buffer-answer.ensures i)) c.claim-a.ensures) refl (entries_told _ c.claim-a.result c.keep_entries.ensures))
