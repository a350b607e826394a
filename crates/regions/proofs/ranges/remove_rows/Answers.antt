use native.Mathlib.Omega.{arith}
use Prim.Native.Nat.{◌-◌, ◌*◌}
use mathlib.Core.Path.{◌≡◌, refl}
use Rattle.words.specs.Words.{words}
use Rattle.words.proofs.Words.{length-words}
use Rattle.words.proofs.Parts.{back_down}
use Rattle.regions.specs.Rows.{row_size, row_words}
use Rattle.regions.proofs.Gap.{shut_by}
use Rattle.regions.proofs.Removing.{range_removed}
use Rattle.regions.proofs.ranges.remove_rows.Goals as goal

pub returns : goal.returns
unfolding row_words
returns c =
    let a = c.args in
    let w = words a.s.now in
    let by = (a.to - a.from) * row_size in
    let end = a.n * row_size - by in
    let down_by = c.rows_down_by in
    let as_by : row_size * (a.to - a.from) ≡ by = omega arith in
    let moved = back_down by a.s.now down_by.new.s (a.from * row_size) end (omega (arith, c.requires)) (omega (arith, c.requires)) down_by.auto.s (rw as_by at down_by.ensures) in
    let cleared = shut_by w by (a.from * row_size) (a.n * row_size) (omega (arith, c.requires)) (omega (arith, length-words a.s.now, c.requires)) moved c.clear.ensures in
    range_removed row_size row_words (λ r. refl) w a.n a.from a.to c.requires.0 c.requires.1 (omega (arith, length-words a.s.now, c.requires)) cleared
