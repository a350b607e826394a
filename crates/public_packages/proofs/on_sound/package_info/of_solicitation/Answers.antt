-- `public_packages::on_sound::package_info::of_solicitation` meets its contract: the tests, each in its place.
use Rattle.outcome.proofs.Exits.{hands-on}
use Rattle.outcome.proofs.Turns.{first-refused, first-passed}
use Rattle.outcome.proofs.Carried.{front_writes}
use Rattle.public_packages.proofs.Solicited.{solicit_turn}
use Rattle.public_packages.proofs.on_sound.package_info.of_solicitation.Goals as goal

pub returns-in_err-named-clause-test : goal.returns-in_err-named-clause-test
returns-in_err-named-clause-test c w hs l =
    rw (hands-on _ c.from_residual.ensures.1, solicit_turn _ _ _ hs w.state, ← l) (first-refused _ _ c.in_err-named.ensures.test)

pub returns-in_err-of_place-clause-test : goal.returns-in_err-of_place-clause-test
returns-in_err-of_place-clause-test c w hs l =
    let e = c.in_err-of_place.ensures hs w.state w.sound (front_writes w c.need_of-n.ensures) in
    rw (hands-on _ c.from_residual-in_err-of_place.ensures.1, solicit_turn _ _ _ hs w.state, ← l) (first-passed c.in_ok-named.ensures.test e)

pub returns-clause-test : goal.returns-clause-test
returns-clause-test c w hs l =
    let e = c.in_ok-of_place.ensures hs w.state w.sound (front_writes w c.need_of-n.ensures) in
    rw (solicit_turn _ _ _ hs w.state, ← l) (first-passed c.in_ok-named.ensures.test e)
