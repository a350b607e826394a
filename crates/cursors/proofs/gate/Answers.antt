use Rattle.cursors.proofs.InState.{gated}
use Rattle.cursors.proofs.gate.Goals as goal

pub returns : goal.returns
returns c s w =
    gated c.load-c.result c.poll_gate-due.new.c c.load-c.ensures.state c.save.ensures.state s w c.args.clock.time c.poll_gate-due.result c.poll_gate-due.ensures.0 c.poll_gate-due.ensures.1
