use native.Mathlib.Omega.{arith}
use Rattle.sound.proofs.PlaceTests.{refuse_repeat, decide-owned}
use Rattle.sound.proofs.place.place_fits.Goals as goal

pub returns-then-not-distinct : goal.returns-then-not-distinct
returns-then-not-distinct c = λ _. refuse_repeat _ c.args.p.now c.requires c.type_inv.p c.get-parents.ensures c.if-not-distinct.ensures

pub returns : goal.returns
returns c = λ s. decide-owned _ c.args.p.now c.requires c.type_inv.p c.is_owned.result c.get-stage.ensures c.read_quad-combined.ensures c.get-wtxids.ensures c.get-parents.ensures c.read_quad.ensures
    c.if-not-stage_fits.ensures (omega arith) c.if-not-padded.ensures c.if-not-distinct.ensures (c.is_owned.ensures s)
