-- `restoring::write_from` meets its contract.
use Rattle.restoring.proofs.Wholes.{lines_there, lines-shown, no-conns}
use Rattle.restoring.proofs.write_from.Goals as goal

pub tally_rows-requires : goal.tally_rows-requires
tally_rows-requires c =
    let z = c.requires in
    let x = lines_there c.args.l.head c.put_head.ensures c.put_lines.ensures z in
    (lines-shown z.state z.sound x, no-conns z.state z.sound x)
