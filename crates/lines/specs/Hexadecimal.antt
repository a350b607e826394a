-- Hexadecimal digits as a number, leading zeros and all.
use Rattle.std.specs.Prelude.{ℕ, ◌+◌, ◌*◌, List, [], ◌∷◌, ltb, if◌then◌else◌}
use Rattle.std.proofs.Math.Option.{Option, none, some}
use Rattle.machine.specs.Fields.{digit_of}

-- the number that the digits write behind those of a; none if a byte is no digit
unfoldable pub hex_from : ℕ → List ℕ → Option ℕ
hex_from a [] = some a
hex_from a (c ∷ cs) = if ltb (digit_of c) 16 then hex_from (a * 16 + digit_of c) cs else none

abbrev pub hex_of : List ℕ → Option ℕ
hex_of f = hex_from 0 f
