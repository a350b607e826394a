-- `planning::noted::consider_bits` meets its contract.
use Prim.Native.Nat.{◌+◌, ◌-◌, ◌/◌, ◌≤◌}
use mathlib.Core.Path.{◌∙◌}
use mathlib.Core.List.{[]}
use native.Mathlib.Omega.{arith}
use Rattle.words.specs.Words.{words}
use Rattle.apart.specs.Noting.{hashes_at, picked}
use Rattle.selecting.proofs.Walked.{scans_as, scans_more}
use Rattle.planning.proofs.Notings.{bit-set, bit-clear, bits_done}
use Rattle.planning.proofs.noted.consider_bits.Goals.{then-left-eq1, else-left-eq1}
use Rattle.planning.proofs.noted.consider_bits.Goals as goal

pub loop-j-preserved : goal.loop-j-preserved
loop-j-preserved c =
    let w = words c.args.slot.now in
    let j = c.loop-j.j in
    let to = c.args.to in
    let left = c.loop-j.left in
    let at : (c.args.from ≤ j + 1) × (j + 1 ≤ to) = (omega (arith, c.loop-j.invariant.0), omega (arith, c.loop-j-test.true)) in
    elim c.if-left-eq1.branch [
      | then-left-eq1 k ↦ rw (k.s-is, k.picks-is, k.w-is) (
        at,
        k.consider-w.auto.s ∙ c.loop-j.invariant.1,
        k.consider-w.auto.picks ∙ c.loop-j.invariant.2,
        scans_more c.loop-j.invariant.3 (λ st. picked (hashes_at w (j + 1) (to - (j + 1))) (left / 2)) _ (omega (arith, c.loop-j.invariant.0)) c.if-w.false k.consider-w.ensures
            (λ st l s m. bit-set w j to left c.loop-j-test.true k.from.ensures k.parent_of-h.ensures k.if-left-eq1.true),
      )
      | else-left-eq1 k ↦ rw (k.s-is, k.picks-is, k.w-is) (
        at,
        c.loop-j.invariant.1,
        c.loop-j.invariant.2,
        scans_as c.loop-j.invariant.3 (λ st. picked (hashes_at w (j + 1) (to - (j + 1))) (left / 2)) _ (omega (arith, c.loop-j.invariant.0))
            (λ st l s m. bit-clear w j to left c.loop-j-test.true k.if-left-eq1.false),
      )
    ]

pub returns : goal.returns
returns c = scans_as c.loop-j.invariant.3 (λ st. []) _ (omega (arith, c.loop-j.invariant.0))
    (λ st l s m. bits_done (words c.args.slot.now) c.loop-j.j c.args.to c.loop-j.left (omega (arith, c.loop-j-test.false)))
