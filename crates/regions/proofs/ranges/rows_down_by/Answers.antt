-- `ranges::rows_down_by` meets its contract where nothing moves: words moved down by none stay.
use Prim.Native.Nat.{◌+◌, ◌*◌}
use mathlib.Core.Path.{◌≡◌, refl, sym}
use native.Mathlib.Omega.{arith}
use lib.ListN.{take-append-drop}
use Rattle.words.specs.Words.{words, down}
use Rattle.regions.specs.Rows.{row_size}
use Rattle.regions.proofs.ranges.rows_down_by.Goals as goal

pub returns-in-0 : goal.returns-in-0
unfolding down
returns-in-0 c =
    let m = c.args.m in
    let by : row_size * c.args.d ≡ 0 = rw c.in-0.is refl in
    let all : m + 0 ≡ m = omega arith in
    rw (by, all) (sym (take-append-drop m (words c.args.s.now)))
