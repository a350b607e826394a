-- Changes at two keys may be made in either order.
use Prim.Native.Nat.{◌≤◌, ◌<◌}
use mathlib.Core.Path.{◌≡◌, refl, sym, ap, ◌∙◌}
use mathlib.Core.Logic.{inl, inr}
use mathlib.Core.List.{List, [], ◌∷◌}
use native.Mathlib.Omega.{arith}
use lib.Dec.{eqb}
use lib.ListN.{length}
use borrow.Author.Tests.{eqb-true, eqb-false}
use Rattle.ident.specs.Number.{top, Key, place}
use Rattle.ident.proofs.Places.{place_same as place-inj}
use Rattle.machine.specs.State.{Candidate, Request, Table}
use Rattle.machine.specs.Table.{at, keep, change}
use Rattle.machine.specs.Sound.{Ordered, All, Filled}
use Rattle.machine.proofs.Tests.{test}
use Rattle.machine.proofs.Table.{ordered-change, filled-change}
use Rattle.machine.proofs.At.{KeepsKey, kept, at_same, at_other}
use Rattle.machine.proofs.Same.{walk, walk_same}

-- ---- a table is told by what stands at each key

put : Request → Table → Table
put r t = keep r r.candidates t

walk_all : (t : Table) → All Filled t → walk put [] t ≡ t
unfolding walk put keep
walk_all [] f = refl
walk_all (r ∷ t) f = ap (put r) (walk_all t f.1) ∙ some r.candidates f.0
  where
    some : (cs : List Candidate) → 1 ≤ length cs → keep r cs t ≡ r ∷ t
    some [] h = absurd (omega arith)
    some (c ∷ cs) h = refl

pub table_same : (t' t : Table) → Ordered 0 t' → Ordered 0 t → All Filled t' → All Filled t → ((j : Key) → j.hash < top → at j t' ≡ at j t) → t' ≡ t
table_same t' t o' o f' f e = sym (walk_all t' f') ∙ walk_same put [] (λ k a. unfold put keep in refl) 0 0 t' t o' o (λ j s a. ap (λ (q : Request). put q a) (e j s)) ∙ walk_all t f

-- ---- two keys

pub change-swap : (j k : Key) (f g : Request → Request) (t : Table) → j.hash < top → k.hash < top → (place j ≡ place k → ⊥) → KeepsKey f → KeepsKey g → Ordered 0 t → All Filled t
    → change j f (change k g t) ≡ change k g (change j f t)
change-swap j k f g t sj sk d ff gg o a =
    let oj = ordered-change j f 0 t ff (omega arith) sj o in
    let ok = ordered-change k g 0 t gg (omega arith) sk o in
    table_same (change j f (change k g t)) (change k g (change j f t)) (ordered-change j f 0 (change k g t) ff (omega arith) sj ok) (ordered-change k g 0 (change j f t) gg (omega arith) sk oj)
    (filled-change j f (change k g t) (filled-change k g t a)) (filled-change k g (change j f t) (filled-change j f t a))
    (λ i s. elim (test (eqb (place i) (place j))) [
      | inl e ↦ rw (place-inj i j s sj (eqb-true (place i) (place j) e)) (at_same j f 0 (change k g t) ff ok ∙ ap (λ (r : Request). kept j (f r) (f r).candidates) (at_other j k g t gg d) ∙
          sym (at_other j k g (change j f t) gg d ∙ at_same j f 0 t ff o))
      | inr e ↦ at_other i j f (change k g t) ff (eqb-false (place i) (place j) e) ∙ elim (test (eqb (place i) (place k))) [
        | inl q ↦ rw (place-inj i k s sk (eqb-true (place i) (place k) q))
            (at_same k g 0 t gg o ∙ sym (at_same k g 0 (change j f t) gg oj ∙ ap (λ (r : Request). kept k (g r) (g r).candidates) (at_other k j f t ff (λ z. d (sym z)))))
        | inr q ↦ at_other i k g t gg (eqb-false (place i) (place k) q) ∙
            sym (at_other i k g (change j f t) gg (eqb-false (place i) (place k) q) ∙ at_other i j f t ff (eqb-false (place i) (place j) e))
      ]
    ])
