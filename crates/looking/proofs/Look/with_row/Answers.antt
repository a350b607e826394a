-- `looking::Look::with_row` meets its contract.
use Rattle.regions.proofs.Bits.{is_one, not_one}
use Rattle.looking.proofs.Looked.{row-owns, row-waits}
use Rattle.looking.proofs.Look.with_row.Goals.{then-owns, else-owns}
use Rattle.looking.proofs.Look.with_row.Goals as goal

pub returns : goal.returns
returns c =
    λ o cs t l. elim c.if-owns.branch [
      | then-owns w ↦ rw w.result-is (row-owns c.args.clock c.args.self c.args.r c.earlier.result c.later.ensures c.earlier.ensures o cs t l (is_one _ c.owns-owns.ensures w.if-owns.true))
      | else-owns w ↦ rw w.result-is (row-waits c.args.clock c.args.self c.args.r c.earlier.result c.later.ensures c.earlier.ensures o cs t l (not_one _ c.owns-owns.ensures w.if-owns.false))
    ]
