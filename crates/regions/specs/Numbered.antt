-- Where rows begin, by a number for a kind: any may be asked for, and no row has another than 0 or 1.
use Rattle.std.specs.Prelude.{ℕ, ◌+◌, ◌^◌, [], ◌∷◌, ◌++◌}
use Rattle.std.specs.declared.ops.Bound.{Bound}
use Rattle.std.specs.declared.ops.Bound.TheVariants.{Included, Excluded, Unbounded}
use Rattle.words.specs.Words.{number}
use Rattle.regions.specs.declared.Quad.{Quad}
use Rattle.regions.specs.Rows.{quad_words}

-- a number for a kind above a hash, as `key_number` has a kind's
unfoldable pub numbered : ℕ → Quad → ℕ
numbered kind hash = number (2 ^ 64) (quad_words hash ++ (kind ∷ []))

-- the number that rows begin from where a search starts at one, or behind it, or at all rows
abbrev pub start_numbered : Bound (ℕ × Quad) → ℕ
start_numbered (Included p) = numbered p.0 p.1
start_numbered (Excluded p) = numbered p.0 p.1 + 1
start_numbered Unbounded = 0
