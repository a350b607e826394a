use native.Mathlib.Omega.{arith}
use Rattle.words.specs.Words.{words}
use Rattle.sound_conns.specs.Conns.{few}
use Rattle.sound_rows.proofs.Decide.{decides_iff}
use Rattle.sound_conns.proofs.Conns.{few_iff, sound-window, walked_turn, walked_end}
use Rattle.sound_conns.proofs.conns_fit.Goals as goal

pub returns-then-conns-le-FEW : goal.returns-then-conns-le-FEW
returns-then-conns-le-FEW c = λ s. decides_iff c.fits_with.result (few_iff _ c.args.conns.count (words c.args.conns.bytes.now) few (omega arith) s.fit c.if-not-entries_fit.ensures.0)
    c.fits_with.ensures

pub returns-then-not-fits_with : goal.returns-then-not-fits_with
returns-then-not-fits_with c = λ s z. c.if-not-fits_with.ensures (sound-window _ c.args.conns.count (words c.args.conns.bytes.now) _ _ _ _ z)

pub loop-lo-preserved : goal.loop-lo-preserved
loop-lo-preserved c = walked_turn _ c.args.conns.count (words c.args.conns.bytes.now) c.loop-lo.invariant c.last_of-last.ensures c.if-not-fits_with.ensures

pub returns-else-not-fits_with : goal.returns-else-not-fits_with
returns-else-not-fits_with c =
    let v = words c.args.conns.bytes.now in
    λ s. walked_end _ c.args.conns.count v (walked_turn _ c.args.conns.count v c.loop-lo.invariant c.last_of-last.ensures c.if-not-fits_with.ensures) (omega arith) s.fit
    c.if-not-entries_fit.ensures.0
