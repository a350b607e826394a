-- What `?` hands on: the refusal as it is.
use mathlib.Core.Path.{◌≡◌, ap, ◌∙◌}
use Rattle.std.specs.Prelude.{Result, Err}
use Rattle.std.specs.Result.{IsErrAnd}
use Rattle.std.proofs.lemmas.Result.{err_from_is_err_and}
use Rattle.outcome.specs.declared.refusal.Refusal.{Refusal}

pub hands-on : {T : Type 0} {e : Refusal} (r : Result T Refusal) → IsErrAnd r (λ y. y ≡ e) → r ≡ Err e
hands-on r h = let p = err_from_is_err_and r h in p.1 ∙ ap Err p.2
