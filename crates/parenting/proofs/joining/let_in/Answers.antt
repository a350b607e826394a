-- `parenting::joining::let_in` meets its contract.
use mathlib.Core.Path.{refl}
use Rattle.parenting.proofs.Waiting.{came_markable, let-in}
use Rattle.parenting.proofs.joining.let_in.Goals as goal

pub mark_rows-requires : goal.mark_rows-requires
mark_rows-requires c = rw (c.new-rows.ensures.0, c.new-rows.ensures.1) (came_markable c.requires.beside (rw (c.new-rows.ensures.0, c.new-rows.ensures.1) at c.come_in.ensures))

pub returns : goal.returns
returns c = (
  let-in (rw (c.new-rows.ensures.0, c.new-rows.ensures.1) at c.come_in.ensures) (rw (c.new-rows.ensures.0, c.new-rows.ensures.1) at c.mark_rows.ensures) c.clear.ensures,
  refl,
)
