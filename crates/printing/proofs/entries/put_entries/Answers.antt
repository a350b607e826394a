-- `printing::entries::put_entries` meets its contract.
use native.Mathlib.Nat.{pos_of_ne-zero}
use native.Mathlib.Omega.{arith}
use Rattle.claiming.specs.Claiming.{entry_from}
use Rattle.printing.proofs.EntryLists.{entry_length, none_listed, all_listed}
use Rattle.printing.proofs.entries.put_entries.Goals as goal

pub returns-then-n-eq0 : goal.returns-then-n-eq0
returns-then-n-eq0 c = none_listed c.requires.0 c.args.answer.now
    c.args.first c.if-n-eq0.true c.put_bytes.ensures

pub put_behind-requires : goal.put_behind-requires
put_behind-requires c =
    let p = pos_of_ne-zero c.if-n-eq0.false in (
      omega (arith, c.requires.2),
      omega (
        arith,
        entry_length (entry_from c.args.answer.now
            c.args.first),
        c.put_entry-at.ensures.next,
        c.put_entry-at.auto,
        c.requires.0,
        c.requires.1,
      ),
    )

pub returns : goal.returns
returns c = all_listed c.requires.0
    c.args.answer.now
    c.args.first
    c.args.n c.if-n-eq0.false
    c.requires.1 c.put_entry-at.ensures
    c.put_behind.ensures.1 c.put_behind.ensures.0
