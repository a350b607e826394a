use native.Mathlib.Omega.{arith}
use Prim.Native.Nat.{◌<◌}
use lib.ListN.{length}
use Rattle.store.proofs.Frame.{sizes}
use Rattle.store.proofs.Tally.{fresh}
use Rattle.store.proofs.Counted.{light_at}
use Rattle.store.proofs.Raising.{raised_found, raised_new}
use Rattle.store.proofs.counting.count_in.Goals as goal

pub overflow_add-e : goal.overflow_add-e
overflow_add-e c = omega (
  arith,
  c.requires,
  light_at c.requires.0 c.in-Ok.i (fresh 0 0) c.in-Ok.ensures.inside (c.at-c.ensures c.requires.0.flat (fresh 0 0) c.requires.0.shows),
)

pub returns-in-Ok : goal.returns-in-Ok
returns-in-Ok c = λ f so h.
    let d = fresh 0 0 in
    let z = sizes h in
    let found = c.in-Ok.ensures in
    let l : c.in-Ok.i < length f.conns = omega (arith, found.inside) in
    raised_found f (found.sought.bound f h so) d l (found.is f d h) _ (c.at-c.ensures f d h) c.args.d (c.set.ensures f h)

pub returns-in-Err : goal.returns-in-Err
returns-in-Err c = λ f so h.
    let d = fresh 0 0 in
    let none = c.in-Err.ensures in
    raised_new f (none.sought.bound f h so) d (λ l z. none.not f d h l z) c.args.d c.requires.2 (c.add.ensures f h)
