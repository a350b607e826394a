-- `wire::read_payload` meets its contract.
use native.Mathlib.Omega.{arith}
use Rattle.wire.proofs.Answers.{read_short, read_done}
use Rattle.wire.proofs.read_payload.Goals as goal

pub returns-then-answer-n : goal.returns-then-answer-n
returns-then-answer-n c = read_short c.args.answer.now c.in-Some.ensures c.if-answer-n.true

pub returns : goal.returns
returns c = read_done c.args.answer.now (λ i. omega (arith, c.type_inv.p i)) c.in-Some.ensures (omega arith) c.read_items.ensures
