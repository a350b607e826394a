-- `listed_lines::pieces::maybe_at` meets its contract.
use mathlib.Core.Path.{◌≡◌, refl}
use Rattle.std.specs.Prelude.{Some}
use Rattle.std.proofs.Common.{rules}
use Rattle.listed_lines.proofs.pieces.maybe_at.Goals as goal

pub returns : goal.returns
returns g c =
    let v : c.map.result.value ≡ Some c.in_ok-there.field-0.value = search rules in
    record { is = rw (v, c.map.ensures.end) (c.in_default.ensures, (_, c.in_ok-there.ensures, refl)) }
