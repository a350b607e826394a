-- `places::clearing::clear_from` meets its contract.
use mathlib.Core.Path.{refl, ◌∙◌}
use native.Mathlib.Omega.{arith}
use Rattle.words.specs.Words.{words}
use Rattle.words.proofs.Words.{length-words}
use Rattle.places.proofs.Cleared.{clearing_none, clearing_more, clearing_end}
use Rattle.places.proofs.clearing.clear_from.Goals as goal

pub loop-i-init : goal.loop-i-init
loop-i-init c = (clearing_none (words c.args.s.now) c.args.n c.args.m c.requires.0, refl)

pub loop-i-preserved : goal.loop-i-preserved
loop-i-preserved c =
    let e = c.clear_place.auto.s in (
      clearing_more c.loop-i.invariant.0 (omega (arith, length-words c.args.s.now, c.requires)) c.loop-i-test.true
          (omega (arith, length-words c.clear_place.new.s, length-words c.loop-i.s, e)) c.clear_place.ensures,
      e ∙ c.loop-i.invariant.1,
    )

pub returns : goal.returns
returns c = clearing_end c.loop-i.invariant.0 (omega (arith, length-words c.args.s.now, c.requires)) (omega (arith, c.loop-i-test.false))
