-- `listed_counts::fronts::front_in` meets its contract.
use Prim.Native.Nat.{ℕ}
use mathlib.Core.Path.{◌≡◌, refl, sym, ◌∙◌}
use mathlib.Core.Bool.{true, false}
use mathlib.Core.Option.{none}
use Rattle.std.specs.Prelude.{Option, None, Some, MatchOption}
use Rattle.std.proofs.Common.{rules}
use Rattle.lines.specs.Values.{number_in}
use Rattle.listed_counts.specs.declared.fronts.Front.{Front}
use Rattle.listed_counts.specs.declared.fronts.Front.TheVariants.{Nobody, Owner}
use Rattle.listed_counts.specs.Fronts.{number_for}
use Rattle.listed_counts.proofs.FrontFields.{front-owner, front-number}
use Rattle.listed_counts.proofs.fronts.front_in.Goals as goal

-- a request's owner, if it has one
owned : (o : Option ℕ) (r : Front) → MatchOption o (r ≡ Nobody) (λ x. r ≡ Owner x) → (number_for true r ≡ number_in o) × (number_for false r ≡ none)
owned None r e = rw e (refl, refl)
owned (Some x) r e = rw e (refl, refl)

pub returns-then-starts_request : goal.returns-then-starts_request
returns-then-starts_request c =
    let m : MatchOption c.owner_in.result (c.map_or.result ≡ Nobody) (λ x. c.map_or.result ≡ Owner x) = search rules in
    let p = owned _ _ m in
    front-owner (sym c.if-starts_request.true ∙ c.starts_request.ensures) c.owner_in.ensures p.0 p.1

pub returns-in_default : goal.returns-in_default
returns-in_default c = front-number (sym c.if-starts_request.false ∙ c.starts_request.ensures) _ c.in_default.ensures refl refl

pub returns : goal.returns
returns c = front-number (sym c.if-starts_request.false ∙ c.starts_request.ensures) _ c.in-Some.ensures refl refl
