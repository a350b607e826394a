-- `postponing::settling::arrive` meets its contract.
use mathlib.Core.Path.{refl}
use Rattle.postponing.proofs.Settled.{arrives, came_markable}
use Rattle.postponing.proofs.settling.arrive.Goals as goal

pub mark_rows-requires : goal.mark_rows-requires
mark_rows-requires c = rw (c.new-rows.ensures.0, c.new-rows.ensures.1) (came_markable c.requires.pending (rw (c.new-rows.ensures.0, c.new-rows.ensures.1) at c.come_in_all.ensures))

pub returns : goal.returns
returns c = (
  arrives (rw (c.new-rows.ensures.0, c.new-rows.ensures.1) at c.come_in_all.ensures) (rw (c.new-rows.ensures.0, c.new-rows.ensures.1) at c.mark_rows.ensures) c.clear.ensures,
  refl,
)
