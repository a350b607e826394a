-- `planning::noted::consider_place` meets its contract.
use mathlib.Core.Path.{refl}
use mathlib.Core.List.{[]}
use native.Mathlib.Omega.{arith}
use Rattle.words.specs.Words.{words}
use Rattle.places.specs.Places.{list_most}
use Rattle.apart.specs.Noting.{hashes_at, picked_in}
use Rattle.apart.proofs.Notes.{both_halves}
use Rattle.selecting.proofs.Walked.{scans_as, scans_for, scans_both}
use Rattle.planning.proofs.noted.consider_place.Goals as goal

pub returns : goal.returns
returns c = let h = c.first_half-e.ensures in scans_as (scans_for (λ st.
    picked_in (hashes_at (words c.args.slot.now) 0 c.args.c) c.args.note.low c.args.note.high) (λ st l u w. both_halves (words c.args.slot.now) h c.args.note.low c.args.note.high)
    (scans_both c.consider_bits-x.ensures c.consider_bits.ensures)) (λ st. []) list_most (omega (
      arith,
      h.within,
      c.requires.3,
    )) (λ st l u w. refl)
