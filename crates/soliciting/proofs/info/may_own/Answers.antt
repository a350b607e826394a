-- `soliciting::info::may_own` meets its contract.
use mathlib.Core.Path.{sym}
use lib.Dec.{ltb}
use Rattle.ident.specs.Words.{hash_num}
use Rattle.ident.proofs.Words.{hash-four, hash_below}
use Rattle.machine.specs.Limits.{max_in_flight}
use Rattle.machine.specs.Table.{owned_by}
use Rattle.soliciting.proofs.Free.{read-at, owned_first, owned-second, owned_none}
use Rattle.soliciting.proofs.info.may_own.Goals as goal
use Rattle.soliciting.proofs.info.may_own.Goals.{then-is_some-via-then-is_some, then-is_some-via-else-is_some+then-is_some-2}

pub returns-then-is_some : goal.returns-then-is_some
returns-then-is_some c = λ st s w.
    let h = c.args.h in
    let small = hash_below h (hash-four h c.well_formed.1.1.0) in
    let a = read-at st.table c.from.ensures (c.request_at-a.ensures.is st s w) in
    let b = read-at st.table c.from-2.ensures (c.request_at-b.ensures.is st s w) in
    elim c.then-is_some.branch [
      | then-is_some-via-then-is_some x ↦ owned_first st s c.args.n (hash_num h) small a b (sym x.if-is_some.ensures) (ltb (owned_by c.args.n st.table) max_in_flight)
      | then-is_some-via-else-is_some+then-is_some-2 x ↦ owned-second st s c.args.n (hash_num h) small a b (sym x.if-is_some-2.ensures) (ltb (owned_by c.args.n st.table) max_in_flight)
    ]

pub returns : goal.returns
returns c = λ st s w.
    let h = c.args.h in
    let small = hash_below h (hash-four h c.well_formed.1.1.0) in
    let a = read-at st.table c.from.ensures
    (c.request_at-a.ensures.is st s w) in
    let b = read-at st.table c.from-2.ensures (c.request_at-b.ensures.is st s w) in
    owned_none st s c.args.n (hash_num h) small a b (sym c.if-is_some.ensures) (sym c.if-is_some-2.ensures)
    (c.figures-f.ensures st s w).owned
