-- `choosing::sooner` meets its contract.
use Prim.Native.Nat.{◌-◌, ◌/◌, ◌%◌}
use mathlib.Core.Path.{◌∙◌}
use native.Mathlib.Omega.{arith}
use Rattle.regions.proofs.Less.{next, last}
use Rattle.choosing.proofs.Scanned.{sooner-bits, sooner-prio, unpreferred}
use Rattle.choosing.proofs.sooner.Goals as goal

pub returns : goal.returns
returns c =
    let a = c.args.a in
    let b = c.args.b in
    let p = c.rank.ensures in
    let q = c.rank-2.ensures in
    c.lt.ensures ∙ rw (p.0, p.1, q.0, q.1) (next (1 - a.bits / 4 % 2) (1 - b.bits / 4 % 2) _
    (λ n. unpreferred a b ∙ sooner-bits a b (λ e. n (omega (arith, e))))
    (λ e. last a.prio b.prio ∙ sooner-prio a b (omega (arith, e))))
