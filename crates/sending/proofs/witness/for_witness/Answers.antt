-- `sending::witness::for_witness` meets its contract.
use mathlib.Core.Path.{sym, ◌∙◌}
use borrow.Author.Tests.{not-true, not-false}
use Rattle.words.specs.Words.{words}
use Rattle.claiming.specs.Claiming.{entry_of}
use Rattle.sending.proofs.Witnessed.{looked_up, stays_other, stays_unmarked, stays_unlisted, turns}
use Rattle.sending.proofs.witness.for_witness.Goals.{then-not-is_transaction-via-then-not-is_transaction, then-not-is_transaction-via-else-not-is_transaction+then-not-marked}
use Rattle.sending.proofs.witness.for_witness.Goals as goal

pub returns-then-not-is_transaction : goal.returns-then-not-is_transaction
returns-then-not-is_transaction c =
    let a = c.args in
    elim c.then-not-is_transaction.branch [
      | then-not-is_transaction-via-then-not-is_transaction k ↦ record {
        entry = λ st s w. stays_other (words a.witnesses.now) st.table (entry_of a.e) (sym c.is_transaction.ensures ∙ k.if-not-is_transaction.true);
        known = c.requires.1;
      }
      | then-not-is_transaction-via-else-not-is_transaction+then-not-marked k ↦ record {
        entry = λ st s w. stays_unmarked (words a.witnesses.now) st.table (entry_of a.e) (sym k.if-not-marked.true ∙ k.marked.ensures st s w);
        known = c.requires.1;
      }
    ]

pub returns-then-not-asked : goal.returns-then-not-asked
returns-then-not-asked c =
    let a = c.args in
    let l = c.look_up-asked in
    record {
      entry = λ st s w. stays_unlisted (words a.witnesses.now) st.table (entry_of a.e) (sym (not-true l.result.listed c.if-not-asked.true) ∙ l.ensures.1);
      known = looked_up (words a.witnesses.now) l.ensures.0 l.ensures.1;
    }

pub returns : goal.returns
returns c =
    let a = c.args in
    let k = c.is_transaction in
    let m = c.marked in
    let l = c.look_up-asked in
    record {
      entry = λ st s w.
          turns (words a.witnesses.now) st.table (entry_of a.e) (sym c.if-not-is_transaction.false ∙ k.ensures)
          (sym c.if-not-marked.false ∙ m.ensures st s w) (sym (not-false l.result.listed c.if-not-asked.false) ∙ l.ensures.1);
      known = looked_up (words a.witnesses.now) l.ensures.0 l.ensures.1;
    }
