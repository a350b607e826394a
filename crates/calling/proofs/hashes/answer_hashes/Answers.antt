-- `calling::hashes::answer_hashes` meets its contract.
use mathlib.Core.Path.{sym}
use Rattle.asking.specs.Calls.{hashes_ask}
use Rattle.reading.specs.Given.{values_of}
use Rattle.calling.proofs.Unplanned.{hashes_unplanned, keeps-call}
use Rattle.calling.proofs.Batch.{hashes_held}
use Rattle.calling.proofs.hashes.answer_hashes.Goals as goal

pub returns : goal.returns
returns c =
    let h = hashes_held c.read_list.ensures
    c.in-Some.is in
    keeps-call (sym (h.1 (hashes_ask c.args.w
    (values_of c.args.v))))
    (hashes_unplanned c.args.w
    (values_of c.args.v) _)
    c.carry_out.ensures
