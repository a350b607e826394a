use native.Mathlib.Omega.{arith}
use Prim.Native.Nat.{◌+◌, ◌≤◌}
use mathlib.Core.Path.{◌≡◌, sym, ap, ◌∙◌}
use lib.ListN.{length}
use borrow.Author.Rules.{rules}
use Rattle.regions.specs.Regions.{insert_at}
use Rattle.store.proofs.Frame.{part-counts, part-lent, part_back, part-counted, length-insert}
use Rattle.store.proofs.parts.add.Goals as goal

pub returns : goal.returns
returns g c = λ f h.
    let l = g.met.R.Part.laws in
    let xs = g.R.Part.shape.list f in
    let n = c.count-n.ensures ∙ part-counts l h in
    let i : c.args.i ≤ length xs = omega (arith, n, c.count-n.ensures, c.requires) in
    let held = c.insert.ensures.region _ xs (sym n) (part-lent l h c.bytes-part.ensures) in
    let m : length (insert_at c.args.i c.args.r xs) ≡ c.count-n.result + 1 = length-insert xs c.args.i c.args.r i ∙ ap (λ j. j + 1) (sym n) in
    let put = rw c.COUNT.ensures at c.put.ensures.word in
    part-counted l h (search rules) _ _ m (part_back l h c.bytes-part.ensures _ _ c.insert.auto.s held) put
