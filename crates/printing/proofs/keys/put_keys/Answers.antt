-- `printing::keys::put_keys` meets its contract.
use native.Mathlib.Nat.{pos_of_ne-zero}
use native.Mathlib.Omega.{arith}
use Rattle.printing.proofs.KeyLists.{key_at, key-length}
use Rattle.printing.proofs.Behind.{none_listed, all_listed}
use Rattle.printing.proofs.keys.put_keys.Goals as goal

pub returns-then-n-eq0 : goal.returns-then-n-eq0
returns-then-n-eq0 c = none_listed c.requires.0 c.args.answer.now c.if-n-eq0.true c.put_bytes.ensures

pub put_behind-requires : goal.put_behind-requires
put_behind-requires c =
    let p = pos_of_ne-zero c.if-n-eq0.false in
    (omega (arith, key-length (key_at c.args.answer.now 0), c.put_key-at.ensures.next, c.put_key-at.auto, c.requires.0, c.requires.1), omega (arith, c.requires.2))

pub returns : goal.returns
returns c = all_listed c.requires.0 c.args.answer.now c.args.n c.if-n-eq0.false c.requires.1 c.put_key-at.ensures c.put_behind.ensures.1 c.put_behind.ensures.0
