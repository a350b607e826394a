-- `apart::slots::kill` meets its contract.
use native.Mathlib.Omega.{arith}
use mathlib.Core.List.{[], ◌∷◌}
use lib.Dec.{lit≤}
use Rattle.places.specs.Places.{stage_at}
use Rattle.apart.specs.Apart.{dying}
use Rattle.apart.proofs.SlotWords.{slot-dies}
use Rattle.apart.proofs.Slotted.{altered_first, altered_later}
use Rattle.apart.proofs.slots.kill.Goals as goal

pub returns-then-i-eq0 : goal.returns-then-i-eq0
returns-then-i-eq0 c = altered_first c.args.m c.args.i stage_at (0 ∷ []) dying (lit≤
    tt) slot-dies (omega (
      arith,
      c.if-i-eq0.true,
    )) c.set_stage.ensures.words_are

pub returns-else-i-eq0 : goal.returns-else-i-eq0
returns-else-i-eq0 c = altered_later c.args.m c.args.i stage_at (0 ∷ []) dying (lit≤
    tt) slot-dies _ (omega (
      arith,
      c.if-i-eq0.false,
    )) c.requires.front c.set_stage-else-i-eq0.auto.s c.set_stage-else-i-eq0.ensures.words_are
