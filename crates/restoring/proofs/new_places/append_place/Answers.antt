-- `restoring::new_places::append_place` meets its contract: a place opened behind the others, then its lists and its combined hash.
use mathlib.Core.Path.{refl}
use Rattle.restoring.proofs.Appending.{place_opened, last_shown, last_inside, last_bare, last_orphan, last_wtxids, last_combined, last_parents}
use Rattle.restoring.proofs.new_places.append_place.Goals as goal

pub push_wtxids-requires : goal.push_wtxids-requires
push_wtxids-requires c =
    let e = c.held_places-i.ensures.field in
    let a = place_opened _ e c.open_place.ensures in
    (last_bare c.requires.0 c.requires.1 e a refl, c.requires.2)

pub set_combined-requires : goal.set_combined-requires
set_combined-requires c =
    let e = c.held_places-i.ensures.field in
    let a = place_opened _ e c.open_place.ensures in
    let w = last_wtxids e a _ refl c.push_wtxids.ensures in
    (last_shown c.requires.0 c.requires.1 e w, last_inside c.requires.0 c.requires.1 e w)

pub push_parents-requires : goal.push_parents-requires
push_parents-requires c =
    let e = c.held_places-i.ensures.field in
    let a = place_opened _ e c.open_place.ensures in
    let w = last_wtxids e a _ refl c.push_wtxids.ensures in
    let d = last_combined e w _ c.set_combined.ensures in
    (last_orphan c.requires.0 c.requires.1 e d refl, c.requires.3)

pub returns : goal.returns
returns c =
    let e = c.held_places-i.ensures.field in
    let a = place_opened _ e c.open_place.ensures in
    let w = last_wtxids e a _ refl c.push_wtxids.ensures in
    let d = last_combined e w _ c.set_combined.ensures in
    rw c.from.ensures at (last_parents e d _ refl c.push_parents.ensures)
