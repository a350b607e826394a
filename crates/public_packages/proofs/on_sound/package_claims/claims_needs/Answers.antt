-- `public_packages::on_sound::package_claims::claims_needs` meets its contract: Q of the header is that of the state.
use native.Mathlib.Omega.{arith}
use Rattle.outcome.proofs.Header.{head-inside, places-word}
use Rattle.public_packages.proofs.on_sound.package_claims.claims_needs.Goals as goal

pub places-q-requires : goal.places-q-requires
places-q-requires c = head-inside c.args.s.now c.requires

pub overflow_mul-result : goal.overflow_mul-result
overflow_mul-result c =
    let w = c.requires in
    omega (arith, c.places-q.ensures.word, places-word c.args.s.now w, w.sound.most-places)

pub returns : goal.returns
returns c w = omega (arith, c.places-q.ensures.word, places-word c.args.s.now w)
