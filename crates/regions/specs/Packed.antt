-- The bits of a row from what they say: 1 Wtxid kind, 2 item is v, 4 preferred, 8 owns, 16 mark.
use Rattle.std.specs.Prelude.{ℕ, ◌+◌, ◌*◌, Bool, true, false}
use Rattle.ident.specs.Number.{kind_number}
use Rattle.regions.specs.declared.row_bits.RowBits.{RowBits}

abbrev pub bit : Bool → ℕ
bit true = 1
bit false = 0

abbrev pub bits_number : RowBits → ℕ
bits_number b = kind_number b.kind + 2 * bit b.witness + 4 * bit b.preferred + 8 * bit b.owns + 16 * bit b.mark
