-- `choosing::later::wait_in` meets its contract.
use Prim.Native.Nat.{◌-◌}
use mathlib.Core.Path.{◌≡◌}
use native.Mathlib.Omega.{arith}
use Rattle.store.proofs.Frame.{sizes}
use Rattle.announcing.specs.Evicts.{part}
use Rattle.choosing.proofs.Waiting.{waits_none, waits-row, waits-told, ready_row, none_in}
use Rattle.choosing.proofs.later.wait_in.Goals as goal

pub loop-i-init : goal.loop-i-init
loop-i-init c = (c.args.x.order, omega arith, λ f w. waits_none c.args.clock f.rows c.args.x.to c.args.x.to (omega arith))

pub returns-then-r-clock : goal.returns-then-r-clock
returns-then-r-clock c = λ f w.
    let z = sizes w in
    none_in c.args.clock (part c.args.x.from c.args.x.to f.rows)
    (ready_row c.args.clock f.rows c.args.x.to c.row_at-r.result (c.loop-i.i - 1) (omega (arith, c.loop-i-test.true)) (omega (arith, c.requires.1, z.rows))
    (c.row_at-r.ensures f c.row_at-r.result w) c.if-r-clock.true (c.loop-i.i - 1 - c.args.x.from) c.args.x.from (omega (arith, c.loop-i-test.true)))

pub loop-i-preserved : goal.loop-i-preserved
loop-i-preserved c = (
  omega arith,
  omega arith,
  λ f w.
      let z = sizes w in
      waits-row c.args.clock f.rows c.args.x.to
      c.row_at-r.result (c.loop-i.i - 1) (omega arith) (omega arith)
      (omega (arith, c.requires.1)) (c.row_at-r.ensures f c.row_at-r.result w) c.if-r-clock.false
      (c.loop-i.invariant.2 f w) c.earlier-w.ensures,
)

pub returns : goal.returns
returns c = λ f w.
    let e : c.loop-i.i ≡ c.args.x.from = omega (arith, c.loop-i-test.false, c.loop-i.invariant.0) in
    waits-told c.args.clock (part c.args.x.from c.args.x.to f.rows) c.loop-i.w (rw e at c.loop-i.invariant.2 f w)
