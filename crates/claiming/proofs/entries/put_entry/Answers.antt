-- `claiming::entries::put_entry` meets its contract.
use mathlib.Core.Path.{◌∙◌}
use Rattle.claiming.specs.Claiming.{entry_of}
use Rattle.claiming.proofs.Fields.{one_byte}
use Rattle.claiming.proofs.Stored.{entry-put}
use Rattle.claiming.proofs.entries.put_entry.Goals as goal

pub returns : goal.returns
returns c = entry-put _ c.args.n _
    (entry_of c.args.e)
    c.requires (c.from.ensures ∙ one_byte c.args.e.candidate.preferred)
    c.put_key.ensures c.put_item.ensures
    c.put_three.ensures
