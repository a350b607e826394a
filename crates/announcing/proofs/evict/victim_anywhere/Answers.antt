use mathlib.Core.Path.{refl, ◌∙◌}
use Rattle.store.specs.Flat.{flat_of}
use Rattle.announcing.proofs.Victims.{found_anywhere}
use Rattle.announcing.proofs.evict.victim_anywhere.Goals as goal

pub returns : goal.returns
returns c = λ st s w. c.greatest_in.ensures (flat_of st) w ∙ found_anywhere st.table s.bounded.lawful refl
    (c.rows-n.ensures.field (flat_of st) w)
