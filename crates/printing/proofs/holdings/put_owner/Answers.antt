-- `printing::holdings::put_owner` meets its contract.
use native.Mathlib.Omega.{arith}
use Rattle.regions.specs.Rows.{quad_number}
use Rattle.printing.proofs.EntryLists.{key_end, number_end}
use Rattle.printing.proofs.OwnerLists.{wrote-nobody, wrote-owner}
use Rattle.printing.proofs.holdings.put_owner.Goals as goal

pub returns-in_default : goal.returns-in_default
returns-in_default c = wrote-nobody (c.in_default.ensures (quad_number c.args.h)) c.put_bytes.ensures

pub put_number-e-requires : goal.put_number-e-requires
put_number-e-requires c =
    let k = c.put_key-e in
    let b = c.put_bytes-from in
    let p = c.requires in
    omega (arith, key_end _ k.ensures, k.auto, b.ensures.next, b.auto, p.1)

pub put_number-requires : goal.put_number-requires
put_number-requires c =
    let n = c.put_number-e in
    let k = c.put_key-e in
    let b = c.put_bytes-from in
    let p = c.requires in
    omega (arith, number_end _ n.ensures, n.auto, key_end _ k.ensures, k.auto, b.ensures.next, b.auto, p.1)

pub returns : goal.returns
returns c =
    wrote-owner (c.in-Some.ensures (quad_number c.args.h)) c.requires.1 c.put_bytes-from.ensures
    c.put_key-e.ensures
    c.put_number-e.ensures c.put_number.ensures
