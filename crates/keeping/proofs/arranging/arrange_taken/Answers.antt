-- `keeping::arranging::arrange_taken` meets its contract.
use mathlib.Core.Path.{refl}
use native.Mathlib.Omega.{arith}
use Rattle.words.specs.Words.{words}
use Rattle.machine.specs.Call.{Arrange}
use Rattle.printing.proofs.Printing.{does_is}
use Rattle.keeping.proofs.Stepping.{listable, entries_asked, entries_told, step_sent, sent_sorted}
use Rattle.keeping.proofs.arranging.arrange_taken.Goals as goal

pub keep_entries-requires : goal.keep_entries-requires
keep_entries-requires c = (c.requires, entries_asked c.arrange-a.result _ (listable c.arrange-a.ensures (omega (arith, c.arrange-a.auto))))

pub invariant_of-lists : goal.invariant_of-lists
invariant_of-lists c = sent_sorted _ _ c.arrange-a.ensures _ (entries_told _ c.arrange-a.result c.keep_entries.ensures) c.lists.invariant

pub returns : goal.returns
returns c =
    rw (← c.lists.view_is) (step_sent _ (words c.args.witnesses.now)
    (does_is (λ i. Arrange (words c.args.witnesses.now) (c.bytes.ensures.entries i) (c.answer_buffer-answer.ensures i)) c.arrange-a.ensures) refl
    (entries_told _ c.arrange-a.result c.keep_entries.ensures))
