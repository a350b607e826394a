-- `keeping::arranging::answer_part` meets its contract.
use Rattle.keeping.proofs.arranging.answer_part.Goals as goal

pub put_part-requires : goal.put_part-requires
put_part-requires c = (c.lists.invariant, c.requires)
