use native.Mathlib.Omega.{arith}
use Prim.Native.Nat.{ℕ, ◌/◌, ◌%◌, ◌<◌}
use mathlib.Core.Path.{◌≡◌}
use mathlib.Core.Logic.{inl, inr}
use mathlib.Core.Bool.{Bool, false, not, ◌&&◌, ◌||◌}
use lib.Dec.{eqb}
use borrow.Author.Tests.{eqb-true, eqb-false}
use Rattle.words.specs.Words.{Decides}
use Rattle.machine.proofs.Tests.{test}
use Rattle.ident.specs.declared.Kind.{Kind}
use Rattle.regions.specs.declared.Row.{Row}
use Rattle.sound_rows.specs.Rows.{KindPlain, MarkFits, RowAs}
use Rattle.sound_rows.proofs.Decide.{decides_iff}
use Rattle.sound_rows.proofs.Fitting.{both, row_as, as_parts}
use Rattle.sound_rows.proofs.candidate.row_fits.Goals as goal

positive : (n : ℕ) → Decides (not (eqb n 0)) (0 < n)
positive n = elim (test (eqb n 0)) [
  | inl t ↦ rw t (λ z. omega (arith, eqb-true n 0 t))
  | inr t ↦ rw t (omega (arith, eqb-false n 0 t))
]

equal : (m n : ℕ) → Decides (eqb m n) (m ≡ n)
equal m n = elim (test (eqb m n)) [
  | inl t ↦ rw t (eqb-true m n t)
  | inr t ↦ rw t (eqb-false m n t)
]

-- of a bit b: 1, or d is 0
idle : (b d : ℕ) → b < 2 → Decides (eqb b 1 || eqb d 0) (b ≡ 0 → d ≡ 0)
idle b d l = elim (test (eqb b 1)) [
  | inl t ↦ rw t (λ z. absurd (omega (arith, eqb-true b 1 t)))
  | inr t ↦ let n = eqb-false b 1 t in rw t (go n)
]
  where
    go : (b ≡ 1 → ⊥) → Decides (false || eqb d 0) (b ≡ 0 → d ≡ 0)
    go n = elim (test (eqb d 0)) [
      | inl t ↦ rw t (λ z. eqb-true d 0 t)
      | inr t ↦ rw t (λ f. eqb-false d 0 t (f (omega arith)))
    ]

decided : (k : Kind) (m : ℕ) (r : Row) (o f : Bool) → MarkFits k m → Decides (o || eqb r.deadline 0) (r.bits / 8 % 2 ≡ 0 → r.deadline ≡ 0) → Decides f (KindPlain k r.bits)
    → Decides (((not (eqb r.conn 0) && eqb (r.bits / 16) m) && (o || eqb r.deadline 0)) && f) (RowAs k m r)
decided k m r o f g i d =
    let x = both (0 < r.conn) (r.bits / 16 ≡ m) (not (eqb r.conn 0)) (eqb (r.bits / 16) m) (positive r.conn) (equal (r.bits / 16) m) in
    let y = both _ (r.bits / 8 % 2 ≡ 0 → r.deadline ≡ 0) (not (eqb r.conn 0) && eqb (r.bits / 16) m) (o || eqb r.deadline 0) x i in
    let z = both _ (KindPlain k r.bits) ((not (eqb r.conn 0) && eqb (r.bits / 16) m) && (o || eqb r.deadline 0)) f y d in
    decides_iff _ (record { to = λ p. row_as k m r g p.0.0.0 p.0.0.1 p.0.1 p.1; from = λ a. as_parts a }) z

pub returns : goal.returns
returns c =
    let r = c.args.r in
    decided c.args.kind c.args.mark r c.owns.result c.kind_fits.result c.requires (rw c.owns.ensures (idle (r.bits / 8 % 2) r.deadline (omega arith))) c.kind_fits.ensures
