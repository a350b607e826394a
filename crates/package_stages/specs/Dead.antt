-- Places taken out in one pass: a place is dead where its stage is 0.
use Rattle.std.specs.Prelude.{Bool, ltb}
use Rattle.places.specs.Places.{Place}
unfoldable pub use Rattle.regions.specs.Staying.{filter}

abbrev pub live : Place → Bool
live p = ltb 0 p.stage
