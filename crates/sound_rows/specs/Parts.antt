-- The rows of a part, as a list.
use Rattle.std.specs.Prelude.{List}
use Rattle.words.specs.Words.{words}
use Rattle.regions.specs.declared.Row.{Row}
use Rattle.sound_rows.specs.declared.part.Part.{Part}
use Rattle.sound_rows.specs.Groups.{rows_in}

abbrev pub rows_of : Part → List Row
rows_of p = rows_in (words p.rows.bytes.now) p.from p.to
