-- A table without the owners whose time is over: what stands at a key of it, and how it follows a change.
use Prim.Native.Nat.{ℕ, suc, ◌≤◌, ◌<◌}
use mathlib.Core.Path.{◌≡◌, refl, sym, ap, subst, ◌∙◌}
use mathlib.Core.Logic.{inl, inr}
use mathlib.Core.Bool.{true, false}
use mathlib.Core.List.{List, [], ◌∷◌}
use mathlib.Core.Option.{none}
use native.Mathlib.Omega.{arith}
use lib.Dec.{eqb}
use lib.ListN.{length}
use borrow.Author.Tests.{lt-ltb, eqb-true, eqb-false}
use Rattle.ident.specs.Number.{Key, top, place}
use Rattle.machine.specs.State.{Candidate, Request, Table, blank}
use Rattle.machine.specs.Table.{at, keep, change}
use Rattle.machine.specs.Sound.{Ordered, All, Filled}
use Rattle.machine.proofs.At.{at_here, at_there}
use Rattle.machine.proofs.First.{keep_some, change_first, change-later}
use Rattle.machine.proofs.Table.{at_absent}
use Rattle.machine.proofs.Tests.{test, by_test, order}
use Rattle.failing.proofs.Fusing.{GivesNone, keep_none, change-before}
use Rattle.postponing.specs.Silent.{late, dropped_in, dropped_all}

-- ---- a request that is kept if it has a candidate

weaken : (lo hi : ℕ) (t : Table) → lo ≤ hi → Ordered hi t → Ordered lo t
weaken lo hi [] h o = tt
weaken lo hi (r ∷ t) h o = (omega arith, o.1, o.2)

ordered_keep : (lo : ℕ) (r : Request) (cs : List Candidate) (t : Table) → lo ≤ place r.key → r.key.hash < top → Ordered (suc (place r.key)) t → Ordered lo (keep r cs t)
unfolding keep
ordered_keep lo r [] t h s o = weaken lo _ t (omega arith) o
ordered_keep lo r (c ∷ cs) t h s o = (h, s, o)

pub all_keep : (P : Request → Type 0) (r : Request) (cs : List Candidate) (t : Table) → r.candidates ≡ cs → (1 ≤ length r.candidates → P r) → All P t → All P (keep r cs t)
unfolding keep
all_keep P r [] t e p a = a
all_keep P r (c ∷ cs) t e p a = (p (omega (arith, ap length e)), a)

at_keep : (k : Key) (r : Request) (cs : List Candidate) (t : Table) → (place k ≡ place r.key → ⊥) → at k (keep r cs t) ≡ at k t
unfolding keep
at_keep k r [] t d = refl
at_keep k r (c ∷ cs) t d = at_there k r t d

module _ (v : ℕ) where
  dropped_key : (r : Request) → (dropped_in v r).key ≡ r.key
  dropped_key r = by_test (λ (q : Request). q.key ≡ r.key) (late v r.owner) (λ e. refl) (λ e. refl)

  pub ordered_dropped : (lo : ℕ) (t : Table) → Ordered lo t → Ordered lo (dropped_all v t)
  unfolding dropped_all
  ordered_dropped lo [] o = tt
  ordered_dropped lo (r ∷ t) o =
      let e = dropped_key r in
      ordered_keep lo (dropped_in v r) (dropped_in v r).candidates (dropped_all v t) (rw e o.0) (rw e o.1) (rw e (ordered_dropped (suc (place r.key)) t o.2))

  pub filled_dropped : (t : Table) → All Filled (dropped_all v t)
  unfolding dropped_all
  filled_dropped [] = tt
  filled_dropped (r ∷ t) = all_keep Filled (dropped_in v r) (dropped_in v r).candidates (dropped_all v t) refl (λ h. h) (filled_dropped t)

  -- ---- who is left

  pub dropped_timely : (t : Table) → All Filled t → All (λ (r : Request). late v r.owner ≡ false) t → dropped_all v t ≡ t
  unfolding dropped_all
  dropped_timely [] f a = refl
  dropped_timely (r ∷ t) f a = rw (a.0, dropped_timely t f.1 a.1) (keep_some r r.candidates t f.0)

  pub at_stays : (k : Key) (t : Table) → All Filled t → late v (at k t).owner ≡ false → at k (dropped_all v t) ≡ at k t
  unfolding at dropped_all
  at_stays k [] f l = refl
  at_stays k (r ∷ t) f l =
      elim (test (eqb (place k) (place r.key))) [
        | inl e ↦ rw e (rw (rw e at l) (ap (at k) (keep_some r r.candidates (dropped_all v t) f.0) ∙ at_here k r (dropped_all v t) (eqb-true _ _ e)))
        | inr e ↦ rw e (at_keep k (dropped_in v r) (dropped_in v r).candidates (dropped_all v t) (λ q. eqb-false _ _ e (q ∙ ap place (dropped_key r))) ∙ at_stays k t f.1 (rw e at l))
      ]

  free_kept : (k : Key) (lo : ℕ) (r : Request) (cs : List Candidate) (t : Table) → r.owner ≡ none → place k ≡ place r.key → place k < lo → Ordered lo t → (at k (keep r cs t)).owner ≡ none
  unfolding keep
  free_kept k lo r [] t q e h o = ap (λ (x : Request). x.owner) (at_absent k lo t h o)
  free_kept k lo r (c ∷ cs) t q e h o = ap (λ (x : Request). x.owner) (at_here k r t e) ∙ q

  pub at_goes : (k : Key) (lo : ℕ) (t : Table) → Ordered lo t → late v (at k t).owner ≡ true → (at k (dropped_all v t)).owner ≡ none
  unfolding at dropped_all
  at_goes k lo [] o l = refl
  at_goes k lo (r ∷ t) o l =
      elim (test (eqb (place k) (place r.key))) [
        | inl e ↦ let d = eqb-true (place k) (place r.key) e in
            rw (rw e at l) (free_kept k (suc (place r.key)) _ _ (dropped_all v t) refl d (omega arith) (ordered_dropped (suc (place r.key)) t o.2))
        | inr e ↦ ap (λ (x : Request). x.owner) (at_keep k (dropped_in v r) (dropped_in v r).candidates (dropped_all v t) (λ q. eqb-false _ _ e (q ∙ ap place (dropped_key r))))
            ∙ at_goes k (suc (place r.key)) t o.2 (rw e at l)
      ]

  -- ---- a change before they go is a change behind them

  module _ (k : Key) (f g : Request → Request) (some : (r : Request) → 1 ≤ length r.candidates → 1 ≤ length (f r).candidates) (fn : GivesNone f) (gn : GivesNone g) where
    kept_first : (x : Request) (cs : List Candidate) (lo : ℕ) (u : Table) → x.candidates ≡ cs → place k ≡ place x.key → place k < lo → Ordered lo u
        → keep (g x) (g x).candidates u ≡ change k g (keep x cs u)
    kept_first x [] lo u q e h o = unfold keep in (keep_none (g x) (g x).candidates u (gn x q) ∙ sym (change-before k g lo u gn h o))
    kept_first x (c ∷ cs) lo u q e h o = unfold keep in (sym (change_first k g x u e))

    kept_later : (x : Request) (cs : List Candidate) (u : Table) → place x.key < place k → keep x cs (change k g u) ≡ change k g (keep x cs u)
    kept_later x [] u h = unfold keep in refl
    kept_later x (c ∷ cs) u h = unfold keep in (sym (change-later k g x u h))

    dropped_before : (r : Request) (t : Table) → place k < place r.key → r.key.hash < top → Ordered (suc (place r.key)) t
        → dropped_all v (change k f (r ∷ t)) ≡ change k g (dropped_all v (r ∷ t))
    dropped_before r t h s o =
        let same : change k f (r ∷ t) ≡ r ∷ t = unfold change in
        rw (lt-ltb (place k) (place r.key) h) (keep_none (f (blank k)) ((f (blank k)).candidates) (r ∷ t) (fn (blank k) refl)) in
        ap (dropped_all v) same ∙ sym (change-before k g (place r.key) (dropped_all v (r ∷ t)) gn h (ordered_dropped (place r.key) (r ∷ t) (omega arith, s, o)))

    dropped_first : (r : Request) (t : Table) → place k ≡ place r.key → Filled r → Ordered (suc (place r.key)) t → dropped_in v (f r) ≡ g (dropped_in v r)
        → dropped_all v (change k f (r ∷ t)) ≡ change k g (dropped_all v (r ∷ t))
    dropped_first r t e h o q =
        ap (dropped_all v) (change_first k f r t e ∙ keep_some (f r) (f r).candidates t (some r h))
        ∙ (unfold dropped_all in
        (ap (λ (x : Request). keep x x.candidates (dropped_all v t)) q
        ∙ kept_first (dropped_in v r) (dropped_in v r).candidates (suc (place r.key)) (dropped_all v t) refl (e ∙ ap place (sym (dropped_key r))) (omega arith)
        (ordered_dropped (suc (place r.key)) t o)))

    dropped_later : (r : Request) (t : Table) → place r.key < place k → dropped_all v (change k f t) ≡ change k g (dropped_all v t)
        → dropped_all v (change k f (r ∷ t)) ≡ change k g (dropped_all v (r ∷ t))
    dropped_later r t h rest =
        ap (dropped_all v) (change-later k f r t h)
        ∙ (unfold dropped_all in
        (ap (keep (dropped_in v r) (dropped_in v r).candidates) rest
        ∙ kept_later (dropped_in v r) (dropped_in v r).candidates (dropped_all v t) (rw (dropped_key r) h)))

    dropped_nothing : dropped_all v (change k f []) ≡ change k g (dropped_all v [])
    unfolding change dropped_all
    dropped_nothing =
        ap (dropped_all v) (keep_none (f (blank k)) ((f (blank k)).candidates) [] (fn (blank k) refl)) ∙ sym (keep_none (g (blank k)) ((g (blank k)).candidates) [] (gn (blank k) refl))

    pub dropped_change : (lo : ℕ) (t : Table) → Ordered lo t → All Filled t → dropped_in v (f (at k t)) ≡ g (dropped_in v (at k t)) → dropped_all v (change k f t) ≡ change k g (dropped_all v t)
    dropped_change lo [] o a q = dropped_nothing
    dropped_change lo (r ∷ t) o a q =
        elim (order (place k) (place r.key)) [
          | inl h ↦ dropped_before r t h o.1 o.2
          | inr (inl e) ↦ dropped_first r t e a.0 o.2 (subst (λ (x : Request). dropped_in v (f x) ≡ g (dropped_in v x)) (at_here k r t e) q)
          | inr (inr h) ↦ dropped_later r t h
              (dropped_change (suc (place r.key)) t o.2 a.1 (subst (λ (x : Request). dropped_in v (f x) ≡ g (dropped_in v x)) (at_there k r t (λ e. omega arith)) q))
        ]
