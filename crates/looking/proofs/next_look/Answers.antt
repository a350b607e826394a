-- `looking::next_look` meets its contract.
use Prim.Native.Nat.{ℕ}
use native.Mathlib.Omega.{arith}
use Rattle.store.specs.Flat.{flat_of, rows_of}
use Rattle.store.specs.Gather.{gather}
use Rattle.announcing.specs.Evicts.{part}
use mathlib.Core.Path.{◌≡◌, refl}
use mathlib.Core.List.{[]}
use mathlib.Core.Option.{none}
use Rattle.machine.specs.Later.{next_look, least_later, times}
use Rattle.looking.proofs.Looked.{looks_start, looked_all}
use Rattle.looking.proofs.next_look.Goals as goal

start : (now : ℕ) → none ≡ next_look now []
unfolding least_later times
start now = refl

pub loop-i-init : goal.loop-i-init
loop-i-init c = (
  omega arith,
  λ f w. looks_start c.args.clock c.rows-n.result f.rows c.rows-n.result c.before_rows-v.result (omega arith)
      (c.before_rows-v.ensures c.args.clock [] (start c.args.clock)),
)

pub returns : goal.returns
returns c = λ st s w.
    let n = c.rows-n.result in
    let i = c.loop-i.i in
    looked_all c.args.clock st s {n = n} {i = i} (c.rows-n.ensures.field (flat_of st) w) (omega arith)
    (c.settled.ensures (gather (part i n (rows_of st.table))) (c.loop-i.invariant.1 (flat_of st) w))
