-- `apart::slots::read_note` meets its contract.
use Rattle.apart.proofs.SlotWords.{region-note}
use Rattle.apart.proofs.slots.read_note.Goals as goal

pub returns : goal.returns
returns c = record { region = λ Q xs d few l h. region-note Q xs few h c.args.i d l c.get.ensures c.get-2.ensures }
