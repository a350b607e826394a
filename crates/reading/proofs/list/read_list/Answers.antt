-- `reading::list::read_list` meets its contract.
use native.Mathlib.Nat.{mul-le-mul_left}
use native.Mathlib.Omega.{arith}
use Rattle.reading.proofs.Stored.{list_lent}
use Rattle.reading.proofs.Elements.{as_front}
use Rattle.reading.proofs.list.read_list.Goals as goal

pub returns-in_err-n : goal.returns-in_err-n
returns-in_err-n g c = rw c.from_residual.ensures (record { is = as_front c.read_front.ensures c.in_err-n.was })

pub returns : goal.returns
returns g c =
    let m = g.E.Element in
    let n = c.in_ok-n.n in
    let front = as_front c.read_front.ensures c.in_ok-n.was in
    list_lent m.SIZE m.held c.read_front.new.buffer front.0
    (omega (arith, c.read_front.auto, c.requires, mul-le-mul_left {m = n} {n = c.args.most} m.SIZE front.0)) (rw c.SIZE.ensures) front.1
