-- `choosing::least_in` meets its contract.
use Prim.Native.Nat.{◌-◌}
use mathlib.Core.List.{[]}
use native.Mathlib.Omega.{arith}
use Rattle.machine.specs.Plan as machine
use Rattle.store.specs.Flat.{flat_of, rows_of}
use Rattle.store.proofs.Frame.{sizes}
use Rattle.choosing.proofs.Scanned.{least_none, least_step}
use Rattle.choosing.proofs.least_in.Goals as goal

pub loop-i-init : goal.loop-i-init
loop-i-init c = (
  c.args.x.order,
  omega arith,
  λ st s w. least_none (rows_of st.table) (machine.able c.args.clock st.table []) c.args.x.to c.args.x.to (omega arith),
  λ f w. tt,
)

pub loop-i-preserved : goal.loop-i-preserved
loop-i-preserved c = (
  omega arith,
  omega arith,
  λ st s w.
      let z = sizes w in
      least_step (rows_of st.table) (machine.able c.args.clock st.table []) c.row_at-r.result
      (c.loop-i.i - 1) c.args.x.to (omega arith) (omega arith)
      (omega (arith, c.requires.1)) (c.with_row-v.ensures.is st s w) (c.row_at-r.ensures (flat_of st) c.row_at-r.result w)
      (c.loop-i.invariant.2 st s w),
  λ f w.
      let z = sizes w in
      c.with_row-v.ensures.found f.rows
      (record {
        inside = omega (arith, c.requires.1);
        row_is = λ d. c.row_at-r.ensures f d w;
      }) (c.loop-i.invariant.3 f w),
)
