use native.Mathlib.Omega.{arith}
use Prim.Native.Nat.{◌<◌}
use mathlib.Core.Path.{ap, ◌∙◌}
use lib.ListN.{length}
use Rattle.lent_lists.specs.Lists.{hashes_in}
use Rattle.regions.specs.Rows.{quad_number}
use Rattle.regions.proofs.Order.{number_quad}
use Rattle.places.specs.Places.{blank, with_wtxids}
use Rattle.package_stages.proofs.Filling.{wtxids-lens, filled_none, listed-shown, listed-inside, filled_more}
use Rattle.package_stages.proofs.flat.push_wtxids.Goals as goal

pub loop-j-init : goal.loop-j-init
loop-j-init c = (filled_none wtxids-lens c.args.i (hashes_in c.args.list.now), c.hashes-n.ensures)

pub push_wtxid-requires : goal.push_wtxid-requires
push_wtxid-requires c = (
  listed-shown with_wtxids c.requires.0 (blank 0 0) c.loop-j.invariant.0.turns,
  listed-inside with_wtxids c.requires.0 (blank 0 0) c.loop-j.invariant.0.turns,
  omega (arith, c.requires.1, c.loop-j.invariant.1, c.loop-j-test.true),
)

pub loop-j-preserved : goal.loop-j-preserved
loop-j-preserved c =
    let inv = c.loop-j.invariant in
    let l : c.loop-j.j
    < length (hashes_in c.args.list.now) =
    omega (arith, inv.1, c.loop-j-test.true) in
    let x = ap quad_number c.from-q.ensures.words_are ∙ number_quad _ ∙ c.hash_in-h.ensures in (
      filled_more wtxids-lens c.requires.0 inv.0 l x c.push_wtxid.auto.s
          c.push_wtxid.ensures,
      inv.1,
    )
