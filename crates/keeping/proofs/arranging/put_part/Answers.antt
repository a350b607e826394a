-- `keeping::arranging::put_part` meets its contract.
use Rattle.keeping.proofs.Stepping.{part_fits, printed_part}
use Rattle.keeping.proofs.arranging.put_part.Goals as goal

pub put_entries-requires : goal.put_entries-requires
put_entries-requires c = let f = part_fits _ c.bytes-entries.ensures.few c.part-p.ensures in (c.requires.1, f.0, f.1)

pub returns : goal.returns
returns c = printed_part c.args.connection _ c.bytes-entries.ensures.entries c.requires.0 c.part-p.ensures c.put_entries.ensures
