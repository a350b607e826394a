-- What a line's first byte tells.
use Rattle.std.specs.Prelude.{ℕ, Bool, true, false, List, [], ◌∷◌, eqb, if◌then◌else◌}

-- it is the letter of a key, `t` or `w`
abbrev pub keyed : List ℕ → Bool
keyed [] = false
keyed (c ∷ l) = if eqb c 116 then true else eqb c 119
