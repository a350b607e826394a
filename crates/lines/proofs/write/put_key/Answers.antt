-- `lines::write::put_key` meets its contract.
use Rattle.regions.specs.Rows.{quad_number}
use Rattle.lines.proofs.Writing.{wrote-key}
use Rattle.lines.proofs.write.put_key.Goals as goal

pub returns : goal.returns
returns c = wrote-key c.args.s.now c.args.a
    c.args.k (quad_number c.args.q) c.kind_letter.ensures
    c.requires c.put_hash.ensures
