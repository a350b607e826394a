-- `lines::read::stands` meets its contract.
use Rattle.lines.proofs.Finding.{looked_on, looked_all}
use Rattle.lines.proofs.read.stands.Goals as goal

pub loop-c-preserved : goal.loop-c-preserved
loop-c-preserved c = looked_on c.loop-c.invariant c.loop-c-test.true

pub returns : goal.returns
returns c = looked_all c.loop-c.invariant c.loop-c-test.false
