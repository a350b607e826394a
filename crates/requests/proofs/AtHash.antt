-- The candidates of a hash are those of its two keys.
use Prim.Native.Nat.{ℕ, ◌+◌, ◌-◌, ◌<◌, suc}
use mathlib.Core.Path.{◌≡◌, refl, sym, ap, ◌∙◌}
use mathlib.Core.Logic.{inl, inr}
use mathlib.Core.Bool.{Bool, true, false, ◌&&◌, and-true}
use mathlib.Core.List.{[], ◌∷◌, ◌++◌, map}
use native.Mathlib.Omega.{arith}
use lib.Dec.{eqb}
use lib.ListN.{length, length-append, length-map}
use borrow.Author.Tests.{eqb-true, eqb-false, eq-eqb, ne_eqb}
use Rattle.ident.specs.declared.Kind.{Kind}
use Rattle.ident.specs.declared.Kind.TheVariants.{Txid, Wtxid}
use Rattle.ident.specs.Number.{top, Key, place, base, txid, wtxid}
use Rattle.machine.specs.State.{Request, Table}
use Rattle.machine.specs.Table.{at, count, count_in, total, under, held_at}
use Rattle.machine.specs.Sound.{Ordered}
use Rattle.machine.proofs.Table.{at_absent}
use Rattle.machine.proofs.Tests.{test}
use Rattle.machine.proofs.AnswerLengths.{length-count_in as all_in}
use Rattle.store.proofs.Counts.{in_same, in_none as none_in}
use Rattle.store.specs.Flat.{row_of, rows_for}
use Rattle.store.proofs.Split.{rows_below}

-- a test of the hash, and of the connection
abbrev pub hashed : ℕ → (ℕ → Bool) → Key → ℕ → Bool
hashed h p k m = eqb k.hash h && p m

-- the candidates at a key that pass the test
abbrev pub keyed : (ℕ → Bool) → Key → Table → ℕ
keyed p k t = count_in p (at k t).candidates

module _ (p : ℕ → Bool) (k : Key) (r : Request) (t : Table) where
  keyed_here : place k ≡ place r.key → keyed p k (r ∷ t) ≡ count_in p r.candidates
  unfolding at
  keyed_here e = rw (eq-eqb (place k) (place r.key) e)

  keyed_past : (place k ≡ place r.key → ⊥) → keyed p k (r ∷ t) ≡ keyed p k t
  unfolding at
  keyed_past n = rw (ne_eqb (place k) (place r.key) n)

keyed-absent : (p : ℕ → Bool) (k : Key) (lo : ℕ) (t : Table) → place k < lo → Ordered lo t → keyed p k t ≡ 0
unfolding count_in
keyed-absent p k lo t l o = ap (λ (r : Request). count_in p r.candidates) (at_absent k lo t l o)

module _ (h : ℕ) (small : h < top) (p : ℕ → Bool) where
  -- what a request counts for: all of its candidates, or none
  weighs : (r : Request) → eqb r.key.hash h ≡ true → count_in (hashed h p r.key) r.candidates ≡ count_in p r.candidates
  weighs r e = in_same _ _ r.candidates (λ m. rw e)

  weightless : (r : Request) → eqb r.key.hash h ≡ false → count_in (hashed h p r.key) r.candidates ≡ 0
  weightless r e = in_same _ (λ m. false) r.candidates (λ m. rw e) ∙ none_in r.candidates

  pub apart : (r : Request) (a b : Kind) → (r.key.hash ≡ h → ⊥) → r.key.hash < top → base a + h ≡ base b + r.key.hash → ⊥
  apart r Txid Txid n l z = n (omega arith)
  apart r Txid Wtxid n l z = omega arith
  apart r Wtxid Txid n l z = omega arith
  apart r Wtxid Wtxid n l z = n (omega arith)

  count_step : (r : Request) (t : Table) → count (hashed h p) (r ∷ t) ≡ count_in (hashed h p r.key) r.candidates + count (hashed h p) t
  unfolding total
  count_step r t = refl

  pub at-hash : (lo : ℕ) (t : Table) → Ordered lo t → count (hashed h p) t ≡ keyed p (txid h) t + keyed p (wtxid h) t
  unfolding total at count_in
  at-hash lo [] o = refl
  at-hash lo (r ∷ t) o = elim (test (eqb r.key.hash h)) [
    | inl e ↦ here r.key.kind refl (eqb-true r.key.hash h e) e (at-hash (suc (place r.key)) t o.2)
    | inr e ↦ let n = eqb-false r.key.hash h e in
        let a = keyed_past p (txid h) r t (apart r Txid r.key.kind n o.1) in
        let b = keyed_past p (wtxid h) r t (apart r Wtxid r.key.kind n o.1) in
        omega (arith, count_step r t, weightless r e, a, b, at-hash _ t o.2)
  ]
    where
      here : (k : Kind) → r.key.kind ≡ k → r.key.hash ≡ h → eqb r.key.hash h ≡ true → count (hashed h p) t ≡ keyed p (txid h) t + keyed p (wtxid h) t
          → count (hashed h p) (r ∷ t) ≡ keyed p (txid h) (r ∷ t) + keyed p (wtxid h) (r ∷ t)
      here Txid e q z i =
          let w : place r.key ≡ h = ap (λ (x : Kind). base x + r.key.hash) e ∙ omega arith in
          let a = keyed_here p (txid h) r t (omega arith) in
          let b = keyed_past p (wtxid h) r t (λ y. omega arith) in
          let g = keyed-absent p (txid h) _ t (omega arith) o.2 in
          omega (arith, count_step r t, weighs r z, a, b, g, i)
      here Wtxid e q z i =
          let w : place r.key ≡ top + h = ap (λ (x : Kind). base x + r.key.hash) e ∙ omega arith in
          let a = keyed_past p (txid h) r t (λ y. omega arith) in
          let b = keyed_here p (wtxid h) r t (omega arith) in
          let f = keyed-absent p (txid h) _ t (omega arith) o.2 in
          let g = keyed-absent p (wtxid h) _ t (omega arith) o.2 in
          omega (arith, count_step r t, weighs r z, a, b, f, g, i)

-- ---- all of them

under_hashed : (h : ℕ) (t : Table) → count (under h) t ≡ count (hashed h (λ m. true)) t
unfolding total
under_hashed h [] = refl
under_hashed h (r ∷ t) =
    let e = in_same (under h r.key) (hashed h (λ m. true) r.key) r.candidates (λ m. sym (and-true (eqb r.key.hash h))) in
    omega (arith, e, under_hashed h t)

pub held-at : (h : ℕ) → h < top → (t : Table) → Ordered 0 t → held_at h t ≡ length (at (txid h) t).candidates + length (at (wtxid h) t).candidates
held-at h s t o = under_hashed h t ∙ at-hash h s (λ m. true) 0 t o ∙ rw (all_in (at (txid h) t).candidates, all_in (at (wtxid h) t).candidates)

-- ---- the size of a key's window

pub window-size : (k : Key) (t : Table) {from to : ℕ} → from ≡ length (rows_below k t) → to ≡ length (rows_below k t ++ rows_for (at k t)) → to - from ≡ length (at k t).candidates
unfolding rows_for
window-size k t e f =
    let l = length-append (rows_below k t) (map (row_of (at k t)) (at k t).candidates) in
    let m = length-map (at k t).candidates (row_of (at k t)) in
    omega arith
