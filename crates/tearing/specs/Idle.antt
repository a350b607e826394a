-- The tally while rows go: an entry whose last row goes stays, with no row, until all such entries are taken out together.
use Rattle.std.specs.Prelude.{ℕ, ◌-◌, Bool, List, [], ◌∷◌, ltb, eqb, if◌then◌else◌}
use Rattle.regions.specs.declared.Conn.{Conn}

-- an entry that has a row
abbrev pub busy : Conn → Bool
busy c = ltb 0 c.held

-- an entry with one row less, whose bit of owning was o
abbrev pub ebb : ℕ → Conn → Conn
ebb o c = record { conn = c.conn; held = c.held - 1; owned = c.owned - o }

-- one row less of the connection n; `unbump` (store/specs/Counting) takes its entry out with the last one
unfoldable pub ebbed : ℕ → ℕ → List Conn → List Conn
ebbed n o [] = []
ebbed n o (c ∷ l) = if eqb n c.conn then ebb o c ∷ l else c ∷ ebbed n o l
