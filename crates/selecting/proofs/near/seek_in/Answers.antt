-- `selecting::near::seek_in` meets its contract.
use Prim.Native.Nat.{◌+◌}
use mathlib.Core.Path.{sym, ◌∙◌}
use native.Mathlib.Omega.{arith}
use borrow.Author.Tests.{ltb-true, ltb-false}
use Rattle.words.specs.Words.{words}
use Rattle.words.proofs.Records.{length-recs}
use Rattle.regions.specs.Rows.{row_size, row_key, key_number, start_number}
use Rattle.regions.proofs.Order.{search_up, search_down}
use Rattle.regions.proofs.Rows.{row-key_at}
use Rattle.selecting.proofs.Nearing.{begins}
use Rattle.selecting.proofs.near.seek_in.Goals as goal

pub loop-lo-init : goal.loop-lo-init
loop-lo-init c = begins (length-recs row_size row_key c.args.n (words c.args.s.now)) c.begin_at-lo.ensures

pub loop-lo-preserved-then-falls_short : goal.loop-lo-preserved-then-falls_short
loop-lo-preserved-then-falls_short c =
    let a = c.args in
    let m = c.loop-lo.lo + c.ahead-d.result in
    let met = c.key_at in
    let h = rw met.ensures at (ltb-true (key_number met.result) (start_number a.start) (sym c.falls_short.ensures ∙ c.if-falls_short.true)) in
    search_up c.loop-lo.invariant m (omega arith) (omega arith) (rw (row-key_at (words a.s.now) a.n m (omega arith)) h)

pub loop-lo-preserved : goal.loop-lo-preserved
loop-lo-preserved c =
    let a = c.args in
    let m = c.loop-lo.lo + c.ahead-d.result in
    let met = c.key_at in
    let h = rw met.ensures at (ltb-false (key_number met.result) (start_number a.start) (sym c.falls_short.ensures ∙ c.if-falls_short.false)) in
    search_down c.loop-lo.invariant m (omega arith) (omega arith) (rw (row-key_at (words a.s.now) a.n m (omega arith)) h)
