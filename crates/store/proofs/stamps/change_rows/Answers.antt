use Rattle.store.proofs.Stamping.{stamped_none, stamped_more}
use Rattle.store.proofs.stamps.change_rows.Goals as goal

pub loop-i-init : goal.loop-i-init
loop-i-init g c = stamped_none c.requires.room.0 c.args.w.order c.requires.room.1

pub loop-i-preserved : goal.loop-i-preserved
loop-i-preserved g c = stamped_more c.row_at-r.result c.change.result c.loop-i.invariant c.loop-i-test.true
    c.set.auto.s c.row_at-r.ensures (λ h a. a _ _ c.change.ensures) c.set.ensures
