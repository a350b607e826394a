-- `reading::forms::no_values` meets its contract.
use mathlib.Core.Path.{refl}
use Rattle.words.specs.Words.{number}
use Rattle.regions.specs.Rows.{quad_number}
use Rattle.reading.proofs.forms.no_values.Goals as goal

pub returns : goal.returns
unfolding quad_number number
returns c = refl
