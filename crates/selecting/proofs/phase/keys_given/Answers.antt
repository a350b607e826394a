-- `selecting::phase::keys_given` meets its contract.
use Prim.Native.Nat.{◌+◌, ◌/◌, ◌<◌}
use mathlib.Core.Path.{sym, ap, ◌∙◌}
use mathlib.Core.List.{[], ◌∷◌}
use native.Mathlib.Omega.{arith}
use lib.ListN.{length, drop}
use Rattle.ident.specs.Number.{Key}
use Rattle.machine.specs.Call.{key_bytes}
use Rattle.selecting.specs.Phasing.{given_keys}
use Rattle.selecting.proofs.Walked.{scans_as, scans_more}
use Rattle.selecting.proofs.Given.{given_next, given_end}
use Rattle.selecting.proofs.phase.keys_given.Goals as goal

pub loop-i-preserved : goal.loop-i-preserved
loop-i-preserved c =
    let b = c.args.given.now in
    let i = c.loop-i.i in
    let less : i < length b / key_bytes = omega (
      arith,
      c.loop-i-test.true,
      c.keys-count.ensures,
    ) in
    let next = given_next b i less ∙ ap (λ (k : Key). k ∷ drop (i + 1) (given_keys b)) (sym c.key_at.ensures) in (
      omega (arith, less),
      c.consider-w.auto.s ∙ c.loop-i.invariant.1,
      c.consider-w.auto.picks ∙ c.loop-i.invariant.2,
      scans_more c.loop-i.invariant.3 (λ st. drop (i + 1) (given_keys b)) (i + 1) (omega arith)
          c.if-w.false c.consider-w.ensures (λ st l s m. next),
    )

pub returns : goal.returns
returns c = scans_as c.loop-i.invariant.3 (λ st. []) _ c.loop-i.invariant.0 (λ st l s m. given_end c.args.given.now
    c.loop-i.i (omega (arith, c.loop-i-test.false, c.keys-count.ensures)))
