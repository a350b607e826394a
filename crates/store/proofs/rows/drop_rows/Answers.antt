use native.Mathlib.Omega.{arith}
use Prim.Native.Nat.{◌-◌, ◌≤◌}
use mathlib.Core.Path.{◌≡◌, sym}
use lib.ListN.{length}
use Rattle.regions.specs.Regions.{remove_range}
use Rattle.store.specs.PartLaws.{row_laws}
use Rattle.store.proofs.Frame.{sizes, part-lent, part_back, part-counted, length_remove_range}
use borrow.Author.Rules.{rules}
use Rattle.store.proofs.rows.drop_rows.Goals as goal

pub returns : goal.returns
returns c = λ f h.
    let z = sizes h in
    let n = c.rows-n.ensures.field f h in
    let w = c.args.w in
    let to : w.to ≤ length f.rows = omega (arith, c.requires) in
    let held = c.remove_rows.ensures.region f.head.limit f.rows (sym n) (part-lent row_laws h c.rows_part-part.ensures) in
    let m : length (remove_range w.from w.to f.rows) ≡ c.rows-n.result - c.len.result = rw (c.len.ensures, n) (length_remove_range f.rows w.from w.to w.order to) in
    part-counted row_laws h (search rules) _ _ m (part_back row_laws h c.rows_part-part.ensures _ _ c.remove_rows.auto.s held) c.put.ensures.word
