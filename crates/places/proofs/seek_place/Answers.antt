-- `places::seek_place` meets its contract.
use mathlib.Core.Path.{sym, ap, ◌∙◌}
use Prim.Native.Nat.{ℕ}
use lib.Dec.{ltb}
use Rattle.words.specs.Words.{words}
use Rattle.words.proofs.Records.{length-recs}
use Rattle.regions.specs.Rows.{quad_number}
use Rattle.places.specs.Places.{place_size, place_key}
use Rattle.places.proofs.Changes.{place-key_at}
use Rattle.places.proofs.seek_place.Goals as goal

pub returns : goal.returns
returns c =
    let w = words c.args.s.now in
    let n = c.args.n in
    let k = quad_number c.args.h in
    c.lower_bound.ensures.bound _ k (length-recs place_size place_key n w) (λ i b h p. p ∙ ap (λ (x : ℕ). ltb x k) (sym (place-key_at w n i h)))
