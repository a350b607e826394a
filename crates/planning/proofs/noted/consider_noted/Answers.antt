-- `planning::noted::consider_noted` meets its contract.
use mathlib.Core.Path.{refl, sym, ◌∙◌}
use Rattle.planning.proofs.Notings.{both_zero, place-clear, place-scanned}
use Rattle.planning.proofs.noted.consider_noted.Goals as goal

pub returns-then-eq : goal.returns-then-eq
returns-then-eq c = let z = both_zero c.note_at-note.result.low c.note_at-note.result.high (sym c.eq.ensures ∙ c.if-eq.true) in place-clear c.note_at-note.ensures z.0 z.1 c.requires.1 c.requires.3

pub returns : goal.returns
returns c = place-scanned c.note_at-note.ensures _ _ _ c.load.ensures c.parents_in-c.ensures c.requires.0.front c.consider_place.auto.s refl c.consider_place.ensures
