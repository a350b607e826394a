use mathlib.Core.Path.{◌∙◌}
use Rattle.store.proofs.Frame.{sizes}
use Rattle.store.proofs.head.places.Goals as goal

pub returns : goal.returns
returns c = record { word = c.get.ensures; field = λ f h. c.get.ensures ∙ (sizes h).places }
