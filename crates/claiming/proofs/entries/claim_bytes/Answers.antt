-- `claiming::entries::claim_bytes` meets its contract.
use Prim.Native.Nat.{ℕ, ◌+◌, ◌-◌, ◌/◌}
use mathlib.Core.Path.{◌≡◌, sym, ap, subst, ◌∙◌}
use mathlib.Core.List.{◌∷◌}
use native.Mathlib.Omega.{arith}
use lib.ListN.{length}
use Rattle.machine.specs.State.{Entry}
use Rattle.machine.specs.Call.{entry_bytes}
use Rattle.claiming.specs.Claiming.{entry_of, entries_from, entries_in}
use Rattle.claiming.proofs.Going.{Turning, turning_start, turning_more, turning_done}
use Rattle.claiming.proofs.Readings.{entries_next, entries_end}
use Rattle.claiming.proofs.entries.claim_bytes.Goals as goal

pub loop-i-init : goal.loop-i-init
loop-i-init c =
    let b = c.args.checked.now in
    let e : length b / entry_bytes ≡ length b / entry_bytes - 0 = omega arith in (
      omega arith,
      subst (λ (m : ℕ). Turning c.args.clock.time (entries_in b) (entries_from b 0 m) c.args.s.now c.args.s.now c.args.out.now
          c.args.out.now 0 0) e (turning_start c.args.clock.time (entries_in b) c.args.s.now c.args.out.now),
    )

pub loop-i-preserved : goal.loop-i-preserved
loop-i-preserved c =
    let less = c.loop-i-test.true in
    let all = c.entries-count.ensures in
    let e = c.entry_in-e in
    let x = c.claim_next-n in
    let b = c.args.checked.now in
    let m = length b / entry_bytes in
    let i = c.loop-i.i in
    let rest = entries_from b (i + 1) (m - (i + 1)) in (
      omega (arith, less, all),
      turning_more c.loop-i.invariant.1 (entry_of e.result) rest (entries_next b i m (omega (arith, less, all)) ∙ ap (λ (a : Entry). a ∷ rest) (sym e.ensures))
          c.args.clock.early (omega (arith, less, all, c.requires.1)) x.auto.s x.auto.out x.ensures,
    )

pub returns : goal.returns
returns c = turning_done c.loop-i.invariant.1
    (entries_end c.args.checked.now c.loop-i.i
    (length c.args.checked.now / entry_bytes) (omega (arith, c.loop-i-test.false, c.entries-count.ensures)))
