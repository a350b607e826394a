-- `regions::keep::sift` meets its contract.
use Prim.Native.Nat.{◌*◌, ◌≤◌}
use mathlib.Core.Path.{refl, ap, ◌∙◌}
use native.Mathlib.Omega.{arith}
use lib.ListN.{length, get_or}
use Rattle.words.specs.Words.{words}
use Rattle.regions.proofs.Retaining.{part-is, retaining_same, retaining_none, retaining_moved, retaining_stays, retaining_goes, retaining_end}
use Rattle.regions.proofs.keep.sift.Goals.{then-stays, then-m-i, else-m-i, else-stays}
use Rattle.regions.proofs.keep.sift.Goals as goal

pub loop-i-init : goal.loop-i-init
loop-i-init g c = (retaining_none _ _, refl)

pub loop-i-preserved : goal.loop-i-preserved
loop-i-preserved g c =
    let r = g.R.Record in
    let room : 8 * (r.WORDS * c.args.n) ≤ length c.loop-i.s = omega (arith, c.loop-i.invariant.1, c.requires.room) in
    let t = c.loop-i.invariant.0 in
    let b = c.stays.result in
    let l = c.loop-i-test.true in
    let i = c.loop-i.i in
    let part = part-is r.laws c.loop-i.s i c.args.n c.WORDS-size.ensures l room in
    elim c.if-stays.branch [
      | then-stays w ↦
          elim w.if-m-i.branch [
            | then-m-i v ↦ (
              retaining_same (ap words (w.s-is ∙ v.s-is)) w.m-is
                  (retaining_moved t l b (λ q a L xs d p h. a (get_or xs i d) _ _ (part L xs d p h) c.stays.ensures) w.if-stays.true v.copy.ensures),
              ap length (w.s-is ∙ v.s-is) ∙ v.copy.auto.s ∙ c.loop-i.invariant.1,
            )
            | else-m-i v ↦ (
              retaining_same (ap words (w.s-is ∙ v.s-is)) w.m-is
                  (retaining_stays t l b (λ q a L xs d p h. a (get_or xs i d) _ _ (part L xs d p h) c.stays.ensures) w.if-stays.true (omega (arith, v.if-m-i.false, t.less))),
              ap length (w.s-is ∙ v.s-is) ∙ c.loop-i.invariant.1,
            )
          ]
      | else-stays w ↦ (
        retaining_same (ap words w.s-is) w.m-is
            (retaining_goes t l b (λ q a L xs d p h. a (get_or xs i d) _ _ (part L xs d p h) c.stays.ensures) w.if-stays.false),
        ap length w.s-is ∙ c.loop-i.invariant.1,
      )
    ]

pub returns : goal.returns
returns g c = retaining_end c.loop-i.invariant.0 (omega (arith, c.loop-i-test.false))
