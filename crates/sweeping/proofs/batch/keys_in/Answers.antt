use native.Mathlib.Omega.{arith}
use Rattle.sweeping.proofs.Walking.{walking_done, walking_room, walking_skip, walking_more}
use Rattle.sweeping.proofs.batch.keys_in.Goals.{then-ends_key, else-ends_key}
use Rattle.sweeping.proofs.batch.keys_in.Goals as goal

pub loop-i-preserved : goal.loop-i-preserved
loop-i-preserved c =
    elim c.if-ends_key.branch [
      | then-ends_key k ↦ rw (k.out-is, k.w-is) (walking_more c.loop-i.invariant (omega arith) c.requires.1 c.row_at-r.ensures c.ends_key.ensures k.if-ends_key.true c.if-w-most.false
          (walking_room c.loop-i.invariant (omega arith) c.if-w-most.false c.requires.3 c.requires.4) k.hand-w.ensures)
      | else-ends_key k ↦ rw (k.out-is, k.w-is) (walking_skip c.loop-i.invariant (omega arith) c.requires.1 c.row_at-r.ensures c.ends_key.ensures k.if-ends_key.false)
    ]

pub returns : goal.returns
returns c = walking_done c.loop-i.invariant (omega arith)
