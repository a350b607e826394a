use native.Mathlib.Omega.{arith}
use Prim.Native.Nat.{◌-◌, ◌<◌}
use mathlib.Core.Path.{◌≡◌, sym, ap, ◌∙◌}
use lib.ListN.{length}
use borrow.Author.Rules.{rules}
use Rattle.words.specs.Words.{words}
use Rattle.words.proofs.Words.{length-words}
use Rattle.regions.specs.Regions.{remove_at}
use Rattle.regions.proofs.Regions.{removed}
use Rattle.store.proofs.Frame.{lent, part-few, part-counts, part-lent, part_back, part-counted, length_remove, room_for}
use Rattle.store.proofs.parts.drop.Goals as goal

pub remove-requires : goal.remove-requires
remove-requires g c =
    let few = part-few g.met.R.Part.laws c.requires.0 in
    (omega (arith, c.count-n.ensures, c.requires.1), room_for _ _ c.count-n.result c.bytes-part.ensures (omega (arith, few, c.count-n.ensures)))

pub returns : goal.returns
returns g c = λ f h.
    let l = g.met.R.Part.laws in
    let xs = g.R.Part.shape.list f in
    let p = c.bytes-part.ensures in
    let n = c.count-n.ensures ∙ part-counts l h in
    let i : c.args.i < length xs = omega (arith, n, c.count-n.ensures, c.requires) in
    let few = part-few l c.requires.0 in
    let room = room_for g.R.Record.WORDS _ c.count-n.result p (omega (arith, few, c.count-n.ensures)) in
    let w = words (lent c.args.s.now c.bytes-part.result.start c.bytes-part.result.end) in
    let gone = removed g.R.Record.WORDS g.R.WholeRecord.as_words g.met.R.WholeRecord.laws.sized w c.args.i c.count-n.result
    (omega (arith, i, n)) (omega (arith, room, length-words (lent c.args.s.now c.bytes-part.result.start c.bytes-part.result.end))) c.remove.ensures.words_are in
    let m : length (remove_at c.args.i xs) ≡ c.count-n.result - 1 = length_remove xs c.args.i i ∙ ap (λ j. j - 1) (sym n) in
    let put = rw c.COUNT.ensures at c.put.ensures.word in
    part-counted l h (search rules) _ _ m (part_back l h p _ _ c.remove.auto.s (gone.region _ xs (sym n) (part-lent l h p))) put
