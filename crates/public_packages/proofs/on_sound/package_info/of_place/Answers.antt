-- `public_packages::on_sound::package_info::of_place` meets its contract: the header's figures are those of the state.
use mathlib.Core.Path.{sym, ◌∙◌}
use native.Mathlib.Omega.{arith}
use Rattle.store.specs.Flat.{flat_of}
use Rattle.store.proofs.Counts.{places-rows}
use Rattle.store.proofs.Frame.{sizes}
use Rattle.outcome.proofs.Turns.{place_untaken, place-free, place_held}
use Rattle.public_packages.proofs.on_sound.package_info.of_place.Goals as goal

pub returns-then-not-would_solicit : goal.returns-then-not-would_solicit
returns-then-not-would_solicit c hs st g x =
    let e = sym c.if-not-would_solicit.true ∙ c.would_solicit.ensures hs st g x in
    rw (← e) (place_untaken st.places _)

pub held_places-held-requires : goal.held_places-held-requires
held_places-held-requires c = omega (arith, (sizes c.requires.writes).long)

pub places-places-requires : goal.places-places-requires
places-places-requires c = omega (arith, (sizes c.requires.writes).long)

pub returns-then-held-places : goal.returns-then-held-places
returns-then-held-places c hs st g x =
    let e = sym c.if-not-would_solicit.false ∙ c.would_solicit.ensures hs st g x in
    rw (← e) (place-free st.places _ (omega (arith, c.held_places-held.ensures.field (flat_of st) x, c.places-places.ensures.field (flat_of st) x, places-rows st.table)))

pub returns : goal.returns
returns c hs st g x =
    let e = sym c.if-not-would_solicit.false ∙ c.would_solicit.ensures hs st g x in
    rw (← e) (place_held st.places _ (omega (arith, c.held_places-held.ensures.field (flat_of st) x, c.places-places.ensures.field (flat_of st) x, places-rows st.table)))
