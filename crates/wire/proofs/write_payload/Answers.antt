-- `wire::write_payload` meets its contract.
use native.Mathlib.Omega.{arith}
use Rattle.lent_lists.specs.Items.{items_in}
use Rattle.wire.proofs.Counts.{few_bytes}
use Rattle.wire.proofs.Answers.{write-short, write_done}
use Rattle.wire.proofs.write_payload.Goals as goal

pub overflow_add-need : goal.overflow_add-need
overflow_add-need c = omega (arith, few_bytes c.items-n.result (omega arith), c.count_bytes-at.ensures)

pub returns-then-answer-need : goal.returns-then-answer-need
returns-then-answer-need c =
    write-short (items_in c.args.items.now) c.args.answer.now c.items-n.ensures (omega arith)
    c.all_plain.ensures c.if-not-all_plain.false c.count_bytes-at.ensures c.if-answer-need.true

pub returns : goal.returns
returns c =
    let counted = c.count_bytes-at.ensures in
    let plain = c.all_plain.ensures in
    let passed = c.if-not-all_plain.false in
    let listed = c.items-n.ensures in
    write_done (items_in c.args.items.now) c.args.answer.now listed (omega arith) plain passed counted (omega arith)
    c.put_count.ensures c.write_items.ensures
