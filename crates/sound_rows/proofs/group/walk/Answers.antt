use native.Mathlib.Omega.{arith}
use Prim.Native.Nat.{ℕ, ◌/◌}
use mathlib.Core.Path.{◌≡◌, refl, sym, ap}
use mathlib.Core.Logic.{inl, inr}
use mathlib.Core.Bool.{true, not}
use lib.Dec.{ltb, eqb}
use borrow.Author.Tests.{ltb-true, ltb-false, eq-eqb}
use Rattle.words.specs.Words.{words}
use Rattle.regions.proofs.Bits.{as_bit}
use Rattle.regions.specs.Rows.{quad_number}
use Rattle.machine.specs.Table.{one}
use Rattle.machine.proofs.Tests.{test, never, and_left, and_right}
use Rattle.store.specs.Flat.{own_bit}
use Rattle.store.specs.FlatSound.{hash_at, owns}
use Rattle.store.proofs.Certify.{own-bit}
use Rattle.sound_rows.specs.Groups.{row_at}
use Rattle.sound_rows.proofs.Groups.{one_more, owners_none}
use Rattle.sound_rows.proofs.Fitting.{alike_turn, fitting_met, fitting_end}
use Rattle.sound_rows.proofs.Ranges.{row-typed}
use Rattle.sound_rows.proofs.ConnMarks.{marks_none, marks_turn}
use Rattle.sound_rows.proofs.group.walk.Goals as goal

unmet : (u v : ℕ) → not (eqb u v) ≡ true → u ≡ v → ⊥
unmet u v e z = never (rw (eq-eqb u v z) at e)

pub loop-i-init : goal.loop-i-init
loop-i-init c =
    let w = words c.args.part.rows.bytes.now in
    record {
      most = omega arith;
      same = λ k a b. absurd (omega arith);
      owners = sym (owners_none w c.args.part.from c.args.part.from (omega arith));
      few = omega arith;
      once = λ _. marks_none w c.args.part.from c.args.mark c.args.slots.now;
      fit = λ k a b. absurd (omega arith);
    }

pub loop-i-preserved : goal.loop-i-preserved
loop-i-preserved c =
    let w = words c.args.part.rows.bytes.now in
    let l = c.loop-i in
    let v = l.invariant in
    let from = c.args.part.from in
    let r = c.get-r.result in
    let e = c.get-r.ensures.words_are in
    let own : c.from-owners.result ≡ own_bit r = as_bit (r.bits / 8) c.from-owners.ensures c.owns.ensures in
    let h : hash_at (row_at w l.i) ≡ quad_number c.args.h = rw e at c.if-not-same_hash.ensures in
    record {
      most = omega arith;
      same = λ k a b. elim (test (ltb k l.i)) [
        | inl t ↦ v.same k a (ltb-true k l.i t)
        | inr t ↦ let z : k ≡ l.i = omega (arith, ltb-false k l.i t) in rw z h
      ];
      owners = omega (arith, v.owners, own, own-bit r, one_more owns w from l.i c.loop-i.auto.i, ap (λ s. one (owns s)) e);
      few = omega (arith, v.few);
      once = λ o. marks_turn w from l.i c.args.mark c.args.slots.now l.slots r c.loop-i.auto.i e refl (omega arith)
          (unmet _ _ (and_right l.once _ o)) (v.once (and_left l.once _ o));
      fit = alike_turn c.args.kind w from l.i c.loop-i.auto.i l.fit c.row_fits-fit.result e (row-typed r c.get-r.type_inv) (c.mark_at-fallback.ensures.1 (omega arith)) v.fit c.row_fits-fit.ensures;
    }

pub returns-then-not-same_hash : goal.returns-then-not-same_hash
returns-then-not-same_hash c =
    let v = c.loop-i.invariant in
    record {
      least = c.loop-i.auto.i;
      most = v.most;
      same = v.same;
      past = λ _ z. c.if-not-same_hash.ensures (rw c.get-r.ensures.words_are z);
      owners = v.owners;
      few = v.few;
      once = λ o others m d. let a = v.once o others m d in (a.0, a.2);
      fit = fitting_met c.args.kind (words c.args.part.rows.bytes.now) c.args.part.from c.loop-i.i c.loop-i.auto.i
          c.args.part.to (quad_number c.args.h) c.loop-i.fit c.quad_less-rises.result (omega arith)
          (rw c.get-r.ensures.words_are at c.quad_less-rises.ensures) v.fit;
    }

pub returns : goal.returns
returns c =
    let v = c.loop-i.invariant in
    let e : c.loop-i.i ≡ c.args.part.to = omega (arith, v.most) in
    record {
      least = omega arith;
      most = omega arith;
      same = λ k a b. v.same k a (omega arith);
      past = λ b z. absurd (omega arith);
      owners = rw e at v.owners;
      few = omega (arith, v.few);
      once = λ o others m d. let a = v.once o others m d in (rw e at a.0, rw e at a.2);
      fit = fitting_end c.args.kind (words c.args.part.rows.bytes.now) c.args.part.from c.args.part.to (omega arith) (quad_number c.args.h) c.loop-i.fit (rw e at v.fit);
    }
