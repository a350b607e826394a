-- `planning::replying::phase_given` meets its contract.
use native.Mathlib.Omega.{arith}
use Rattle.selecting.proofs.Given.{given_typed}
use Rattle.planning.proofs.replying.phase_given.Goals as goal

pub phase_given-requires : goal.phase_given-requires
phase_given-requires c = (c.requires.0, c.requires.1, c.requires.2, omega (arith, c.requires.3))

pub returns : goal.returns
returns c = (c.phase_given.ensures, given_typed c.args.given.now (λ i. omega (arith, c.type_inv.given i)))
