-- `public_packages::on_sound::departures::departure_needs` meets its contract: L and Q of the header are those of the state.
use native.Mathlib.Omega.{arith}
use Rattle.outcome.proofs.Header.{head-inside, limit-word, places-word}
use Rattle.public_packages.proofs.on_sound.departures.departure_needs.Goals as goal

pub limit-l-requires : goal.limit-l-requires
limit-l-requires c = head-inside c.args.s.now c.requires

pub places-q-requires : goal.places-q-requires
places-q-requires c = head-inside c.args.s.now c.requires

pub overflow_mul-result : goal.overflow_mul-result
overflow_mul-result c = let w = c.requires in omega (arith, c.places-q.ensures.word, places-word c.args.s.now w, w.sound.most-places)

pub overflow_add-result : goal.overflow_add-result
overflow_add-result c = let w = c.requires in omega (arith, c.places-q.ensures.word, places-word c.args.s.now w, w.sound.most-places)

pub overflow_mul-result-2 : goal.overflow_mul-result-2
overflow_mul-result-2 c = let w = c.requires in omega (arith, c.places-q.ensures.word, places-word c.args.s.now w, w.sound.most-places)

pub returns : goal.returns
returns c w = omega (arith, c.limit-l.ensures.word, limit-word c.args.s.now w, c.places-q.ensures.word, places-word c.args.s.now w)
