-- An `Entry` from a row meets its contract.
use Rattle.announcing.proofs.Scanning.{key-read}
use Rattle.claiming.proofs.Fields.{entry_read}
use Rattle.claiming.proofs.EntryFromRegionsRow.from.Goals as goal

pub returns : goal.returns
returns c = entry_read c.args.r (key-read c.args.r c.from-key.ensures) c.item_kind.ensures c.is_preferred.ensures
