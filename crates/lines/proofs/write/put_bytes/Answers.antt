-- `lines::write::put_bytes` meets its contract.
use Rattle.lines.proofs.Writing.{wrote_part}
use Rattle.lines.proofs.write.put_bytes.Goals as goal

pub returns : goal.returns
returns c = wrote_part c.args.s.now c.args.a c.args.t.now c.copy_from_slice.ensures.after
