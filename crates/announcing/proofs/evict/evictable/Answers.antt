use Prim.Native.Nat.{◌+◌}
use mathlib.Core.Path.{◌≡◌, refl}
use native.Mathlib.Omega.{arith}
use Rattle.machine.specs.Table.{one}
use Rattle.machine.proofs.Owning.{one_most}
use Rattle.store.specs.Flat.{flat_of}
use Rattle.store.specs.FlatSound.{count_rows}
use Rattle.store.proofs.Frame.{sizes}
use Rattle.announcing.proofs.Counted.{goes, goes_one, stays_none, counted_turn, counted}
use Rattle.announcing.proofs.evict.evictable.Goals as goal
use Rattle.announcing.proofs.evict.evictable.Goals.{then-not-stays, else-not-stays}

pub loop-i-init : goal.loop-i-init
loop-i-init c = (omega arith, omega arith, λ f w. unfold count_rows in refl)

pub loop-i-preserved : goal.loop-i-preserved
loop-i-preserved c =
    let r = c.row_at-r.result in
    let m = c.loop-i.m in
    let e = c.stays.ensures in
    let q : c.if-not-stays.m ≡ m + one (goes r) = elim c.if-not-stays.branch [
      | then-not-stays w ↦ goes_one r e m w.if-not-stays.true w.m-is
      | else-not-stays w ↦ stays_none r e m w.if-not-stays.false w.m-is
    ] in (
      omega arith,
      omega (arith, q, one_most (goes r), c.loop-i.invariant.1),
      λ f w.
          let z = sizes w in
          counted_turn f.rows r (omega (arith, c.rows-n.ensures.field f w, c.loop-i-test.true))
          (c.row_at-r.ensures f r w) (c.loop-i.invariant.2 f w) q,
    )

pub returns : goal.returns
returns c = λ st s w. counted st.table c.loop-i.i (omega (arith, c.rows-n.ensures.field (flat_of st) w)) (c.loop-i.invariant.2 (flat_of st) w)
