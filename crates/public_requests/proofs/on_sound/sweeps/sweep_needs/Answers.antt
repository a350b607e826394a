-- `public_requests::on_sound::sweeps::sweep_needs` meets its contract: L of the header is that of the state.
use native.Mathlib.Omega.{arith}
use Rattle.outcome.proofs.Header.{head-inside, limit-word}
use Rattle.public_requests.proofs.on_sound.sweeps.sweep_needs.Goals as goal

pub limit-requires : goal.limit-requires
limit-requires c = head-inside c.args.s.now c.requires

pub returns : goal.returns
returns c w = omega (arith, c.limit.ensures.word, limit-word c.args.s.now w)
