-- `calling::missing::answer_missing` meets its contract.
use mathlib.Core.Path.{sym}
use Rattle.asking.specs.Calls.{missing_ask}
use Rattle.reading.specs.Given.{values_of}
use Rattle.calling.proofs.Batch.{items_held}
use Rattle.calling.proofs.Unplanned.{missing_unplanned, keeps-call}
use Rattle.calling.proofs.missing.answer_missing.Goals as goal

pub returns : goal.returns
returns c = let h = items_held c.read_list.ensures
    c.in-Some.is in keeps-call (sym (h.is
    (missing_ask (values_of c.args.v))))
    (missing_unplanned (values_of c.args.v) _)
    c.carry_out.ensures
