-- Opening: refused it leaves the kept lists, carried out it empties them.
use Prim.Native.Nat.{ℕ}
use mathlib.Core.Path.{◌≡◌, sym, ap, ◌∙◌}
use mathlib.Core.List.{List, [], ◌∷◌}
use mathlib.Core.Option.{some}
use Rattle.machine.specs.Call.{Open}
use Rattle.machine.specs.Step.{Reply, Refused, Number}
use Rattle.outcome.specs.Outcome.{Effect, Does}
use Rattle.lines.specs.Text.{Wrote}
use Rattle.reading.specs.Line.{Asks}
use Rattle.printing.specs.Replies.{refusal_text}
use Rattle.printing.specs.Given.{Printed}
use Rattle.printing.specs.Kept.{KeptLists, no_lists, kept_after}
use Rattle.printing.specs.Answers.{Answered}
use Rattle.printing.proofs.Printing.{reply-ok, reply-refused}

module _ {k : KeptLists} {b : List ℕ} {e : Effect} (L Q : ℕ) (d : Does (Open L Q) b e) {b' : List ℕ} (s : b' ≡ e.store) {out out' : List ℕ} {r n : ℕ} where
  pub step_refused : e.reply ≡ Refused n → Printed out out' (refusal_text n) r → Answered (some (Asks (Open L Q))) k k b b' out out' r
  step_refused y t = record {
    is = record {
      carried = record { effect = e; does = d; store = s; text = reply-refused (Open L Q) y t };
      kept = sym (ap (λ (z : Reply). kept_after (Asks (Open L Q)) z k) y);
    };
  }

  pub step_opened : {k' : KeptLists} → k' ≡ no_lists → e.reply ≡ Number n → Wrote out out' 0 (111 ∷ 107 ∷ []) r → Answered (some (Asks (Open L Q))) k k' b b' out out' r
  step_opened w y t = record {
    is = record {
      carried = record { effect = e; does = d; store = s; text = reply-ok L Q y t };
      kept = w ∙ sym (ap (λ (z : Reply). kept_after (Asks (Open L Q)) z k) y);
    };
  }
