-- Tables that agree at every key, in what a walk looks at, give the same walk: what is listed of each request, in key order.
use Prim.Native.Nat.{ℕ, suc, ◌<◌}
use mathlib.Core.Path.{◌≡◌, refl, sym, ap, ◌∙◌}
use mathlib.Core.Logic.{inl, inr}
use mathlib.Core.List.{[], ◌∷◌}
use native.Mathlib.Omega.{arith}
use lib.Dec.{leb, eqb}
use borrow.Author.Tests.{leb-true, leb-false, lt-leb, eqb-true, eqb-false}
use Rattle.std.specs.Prelude.{if◌then◌else◌}
use Rattle.ident.specs.Number.{Key, place, top}
use Rattle.machine.specs.State.{Request, Table, blank}
use Rattle.machine.specs.Table.{at}
use Rattle.machine.specs.Sound.{Ordered}
use Rattle.machine.proofs.Tests.{test}
use Rattle.machine.proofs.Table.{at_absent}
use Rattle.machine.proofs.At.{at_here, at_there}

-- from the last request to the first
unfoldable pub walk : {A : Type 0} → (Request → A → A) → A → Table → A
walk c z [] = z
walk c z (r ∷ t) = c r (walk c z t)

-- the requests after a key
after : Key → Table → Table
after k [] = []
after k (r ∷ t) = if leb (place r.key) (place k) then after k t else r ∷ t

ordered-after : (k : Key) (lo : ℕ) (t : Table) → Ordered lo t → Ordered (suc (place k)) (after k t)
unfolding after
ordered-after k lo [] o = tt
ordered-after k lo (r ∷ t) o = elim (test (leb (place r.key) (place k))) [ inl e ↦ rw e (ordered-after k (suc (place r.key)) t o.2) | inr e ↦ rw e (leb-false _ _ e, o.1, o.2) ]

after_all : (k : Key) (lo : ℕ) (t : Table) → place k < lo → Ordered lo t → after k t ≡ t
unfolding after
after_all k lo [] h o = refl
after_all k lo (r ∷ t) h o = rw (lt-leb (place r.key) (place k) (omega (arith, o.0)))

at_after : (j k : Key) (lo : ℕ) (t : Table) → Ordered lo t → place k < place j → at j (after k t) ≡ at j t
unfolding after
at_after j k lo [] o h = refl
at_after j k lo (r ∷ t) o h =
    elim (test (leb (place r.key) (place k))) [
      | inl e ↦ rw e (at_after j k (suc (place r.key)) t o.2 h ∙ sym (at_there j r t (λ d. omega (arith, leb-true (place r.key) (place k) e))))
      | inr e ↦ rw e
    ]

module _ {A : Type 0} (c : Request → A → A) (z : A) (nought : (k : Key) (a : A) → c (blank k) a ≡ a) where
  -- c passes over the requests of t whose places are below n
  abbrev Passes : ℕ → Table → Type 0
  Passes n t = (j : Key) → j.hash < top → place j < n → (a : A) → c (at j t) a ≡ a

  passes_tail : (n lo : ℕ) (r : Request) (t : Table) → Ordered lo (r ∷ t) → Passes n (r ∷ t) → Passes n t
  passes_tail n lo r t o p j s h a =
      elim (test (leb (place j) (place r.key))) [
        | inl e ↦ ap (λ (q : Request). c q a) (at_absent j _ t (omega (arith, leb-true (place j) (place r.key) e)) o.2) ∙ nought j a
        | inr e ↦ ap (λ (q : Request). c q a) (sym (at_there j r t (λ d. omega (arith, leb-false (place j) (place r.key) e)))) ∙ p j s h a
      ]

  passes-head : (n lo : ℕ) (r : Request) (t : Table) → Ordered lo (r ∷ t) → place r.key < n → Passes n (r ∷ t) → (a : A) → c r a ≡ a
  passes-head n lo r t o h p a = ap (λ (q : Request). c q a) (sym (at_here r.key r t refl)) ∙ p r.key o.1 h a

  -- a walk that passes over all before k starts at k
  walk_from : (k : Key) (lo : ℕ) (t : Table) → Ordered lo t → Passes (place k) t → walk c z t ≡ c (at k t) (walk c z (after k t))
  unfolding walk after
  walk_from k lo [] o p = sym (ap (λ (q : Request). c q z) (at_absent k (suc (place k)) [] (omega arith) tt) ∙ nought k z)
  walk_from k lo (r ∷ t) o p =
      elim (test (leb (place r.key) (place k))) [
        | inl e ↦ rw e (elim (test (eqb (place k) (place r.key))) [
          | inl d ↦ sym (ap (λ (q : Request). c q (walk c z (after k t))) (at_here k r t (eqb-true _ _ d)) ∙
              ap (λ (x : Table). c r (walk c z x)) (after_all k _ t (omega (arith, eqb-true (place k) (place r.key) d)) o.2))
          | inr d ↦ passes-head (place k) lo r t o (omega (arith, leb-true (place r.key) (place k) e, eqb-false (place k) (place r.key) d)) p (walk c z t)
              ∙ (walk_from k (suc (place r.key)) t o.2 (passes_tail (place k) lo r t o p) ∙ ap (λ (q : Request). c q (walk c z (after k t))) (sym (at_there k r t (eqb-false _ _ d))))
        ])
        | inr e ↦ rw e (sym (ap (λ (q : Request). c q (c r (walk c z t))) (at_absent k (place r.key) (r ∷ t) (leb-false _ _ e) (omega arith, o.1, o.2)) ∙ nought k (c r (walk c z t))))
      ]

  walk-nothing : (lo : ℕ) (t : Table) → Ordered lo t → ((j : Key) → j.hash < top → (a : A) → c (at j t) a ≡ a) → walk c z t ≡ z
  unfolding walk
  walk-nothing lo [] o p = refl
  walk-nothing lo (r ∷ t) o p =
      passes-head (suc (place r.key)) lo r t o (omega arith) (λ j s h. p j s) (walk c z t)
      ∙ walk-nothing (suc (place r.key)) t o.2 (λ j s. passes_tail (suc (place j)) lo r t o (λ i u h. p i u) j s (omega arith))

  pub walk_same : (lo' lo : ℕ) (t' t : Table) → Ordered lo' t' → Ordered lo t → ((j : Key) → j.hash < top → (a : A) → c (at j t') a ≡ c (at j t) a) → walk c z t' ≡ walk c z t
  unfolding walk
  walk_same lo' lo [] t o' o e = sym (walk-nothing lo t o (λ j s a. sym (e j s a) ∙ (ap (λ (q : Request). c q a) (at_absent j (suc (place j)) [] (omega arith) tt) ∙ nought j a)))
  walk_same lo' lo (r ∷ t') t o' o e =
      let k = r.key in
      let o'' = ordered-after k lo t o in
      let rest : walk c z t' ≡ walk c z (after k t) = walk_same (suc (place k)) (suc (place k)) t' (after k t) o'.2 o'' (λ j s a. elim (test (leb (place j) (place k))) [
        | inl d ↦ let h : place j < suc (place k) = omega (arith, leb-true (place j) (place k) d) in ap (λ (q : Request). c q a) (at_absent j _ t' h o'.2 ∙ sym (at_absent j _ (after k t) h o''))
        | inr d ↦ let h : place k < place j = leb-false _ _ d in ap (λ (q : Request). c q a) (sym (at_there j r t' (λ x. omega arith))) ∙
            (e j s a ∙ ap (λ (q : Request). c q a) (sym (at_after j k lo t o h)))
      ]) in
      let first : c r (walk c z (after k t)) ≡ c (at k t) (walk c z (after k t)) = ap (λ (q : Request). c q (walk c z (after k t))) (sym (at_here k r t' refl)) ∙ e k o'.1 (walk c z (after k t)) in
      ap (c r) rest ∙ (first ∙ sym (walk_from k lo t o (λ j s h a. sym (e j s a) ∙ (ap (λ (q : Request). c q a) (at_absent j (place k) (r ∷ t') h (omega arith, o'.1, o'.2)) ∙ nought j a))))
