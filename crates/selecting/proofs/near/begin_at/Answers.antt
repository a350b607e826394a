-- `selecting::near::begin_at` meets its contract.
use Prim.Native.Nat.{◌-◌}
use mathlib.Core.Path.{sym, ◌∙◌}
use native.Mathlib.Omega.{arith}
use borrow.Author.Tests.{ltb-true}
use Rattle.words.specs.Words.{words, recs}
use Rattle.words.proofs.Records.{length-recs}
use Rattle.regions.specs.Rows.{row_size, row_key, key_number, start_number}
use Rattle.regions.proofs.Rows.{row-key_at}
use Rattle.selecting.proofs.Nearing.{behind-guess}
use Rattle.selecting.proofs.near.begin_at.Goals as goal

pub returns-then-falls_short : goal.returns-then-falls_short
returns-then-falls_short c =
    let a = c.args in
    let m = c.key_at in
    let h = rw m.ensures at (ltb-true (key_number m.result) (start_number a.start) (sym c.falls_short.ensures ∙ c.if-falls_short.true)) in
    behind-guess (recs row_size row_key a.n (words a.s.now)) a.n (start_number a.start) a.guess (length-recs row_size row_key a.n (words a.s.now)) (omega arith)
    (omega arith) (rw (row-key_at (words a.s.now) a.n (a.guess - 1) (omega arith)) h)
