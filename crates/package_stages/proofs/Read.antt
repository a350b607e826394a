-- A request as it is read: what tests of its stage say.
use mathlib.Core.Path.{◌≡◌, refl, ap, ◌∙◌}
use mathlib.Core.Bool.{Bool, true, false, ◌||◌}
use mathlib.Core.Option.{Option, none, some}
use native.Mathlib.Omega.{arith}
use lib.Dec.{eqb}
use Rattle.std.specs.Option.{option_eq}
use Rattle.std.specs.Prelude as rust
use Rattle.std.specs.Prelude.{Some, None, is_some}
use Prim.Native.Nat.{ℕ}
use Rattle.machine.specs.State as machine
use Rattle.machine.specs.State.{Package}
use Rattle.package_stages.specs.contracts.StagePartialEq.TheImpl.{eq-value}
use Rattle.package_stages.specs.declared.Request.{Request}
use Rattle.package_stages.specs.declared.Stage.{Stage}
use Rattle.package_stages.specs.declared.Stage.TheVariants.{Flagged, Awaiting, Enqueued}
use Rattle.package_stages.specs.Changes.{stage_word, stage_of, has_place, RequestOf}

pub stage-eq : (a : rust.Option Stage) (b : Stage) → option_eq eq-value.it a (Some b) ≡ eqb (stage_word a) (stage_word (Some b))
stage-eq None Flagged = refl
stage-eq None Awaiting = refl
stage-eq None Enqueued = refl
stage-eq (Some Flagged) Flagged = refl
stage-eq (Some Flagged) Awaiting = refl
stage-eq (Some Flagged) Enqueued = refl
stage-eq (Some Awaiting) Flagged = refl
stage-eq (Some Awaiting) Awaiting = refl
stage-eq (Some Awaiting) Enqueued = refl
stage-eq (Some Enqueued) Flagged = refl
stage-eq (Some Enqueued) Awaiting = refl
stage-eq (Some Enqueued) Enqueued = refl

-- whether a request has the stage b
pub stage-is : {q : machine.Request} {r : Request} → RequestOf q r → (b : Stage) → option_eq eq-value.it r.stage (Some b) ≡ eqb (stage_of q.info q.«package») (stage_word (Some b))
stage-is {r = r} x b = stage-eq r.stage b ∙ ap (λ (n : ℕ). eqb n (stage_word (Some b))) x.stage

-- a stage: a place
pub staged : {q : machine.Request} {r : Request} → RequestOf q r → is_some r.stage ≡ has_place q
staged {q} {r} x = go r.stage q.info q.«package» x.stage
  where
    go : (a : rust.Option Stage) (i : Bool) (p : Option Package) → stage_word a ≡ stage_of i p → is_some a ≡ (i || machine.is_some p)
    go None true (some p) e = absurd (omega arith)
    go None true none e = absurd (omega arith)
    go None false (some p) e = absurd (omega arith)
    go None false none e = refl
    go (Some a) true p e = refl
    go (Some a) false (some p) e = refl
    go (Some Flagged) false none e = absurd (omega arith)
    go (Some Awaiting) false none e = absurd (omega arith)
    go (Some Enqueued) false none e = absurd (omega arith)
