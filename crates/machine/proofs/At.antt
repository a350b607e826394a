-- What stands at a key after a change at that key or at another, and the keys that a change leaves.
use Prim.Native.Nat.{ℕ, suc, ◌+◌, ◌≤◌, ◌<◌}
use mathlib.Core.Path.{◌≡◌, refl, sym, ap, ◌∙◌}
use mathlib.Core.Logic.{inl, inr}
use mathlib.Core.Bool.{Bool, not}
use mathlib.Core.List.{List, [], ◌∷◌}
use native.Mathlib.Omega.{arith}
use lib.Dec.{ltb, eqb}
use lib.ListN.{length}
use borrow.Author.Tests.{ltb-true, eqb-true, eqb-false, eq-eqb, ne_eqb}
use Rattle.ident.specs.declared.Kind.{Kind}
use Rattle.ident.specs.declared.Kind.TheVariants.{Txid, Wtxid}
use Rattle.ident.specs.Number.{base, swap, top, Key, place, other}
use Rattle.machine.specs.State.{Candidate, Request, Table, blank}
use Rattle.machine.specs.Table.{at, keep, change, keys}
use Rattle.machine.specs.Sound.{Ordered}
use Rattle.machine.proofs.Tests.{test, by_test}
use Rattle.machine.proofs.Table.{ordered-change, at_absent}

-- a change of a request that keeps its key
abbrev pub KeepsKey : (Request → Request) → Type 0
KeepsKey f = (r : Request) → (f r).key ≡ r.key

-- the request r, with the candidates cs, as `keep` leaves it: a blank one, if it has none
abbrev pub kept : Key → Request → List Candidate → Request
kept k r [] = blank k
kept k r (c ∷ cs) = r

pub kept_some : (k : Key) (r : Request) (cs : List Candidate) → 1 ≤ length cs → kept k r cs ≡ r
kept_some k r [] h = absurd (omega arith)
kept_some k r (c ∷ cs) h = refl

-- ---- the key that is changed

pub at_here : (k : Key) (r : Request) (t : Table) → place k ≡ place r.key → at k (r ∷ t) ≡ r
unfolding at
at_here k r t e = rw (eq-eqb (place k) (place r.key) e)

pub at_there : (k : Key) (r : Request) (t : Table) → (place k ≡ place r.key → ⊥) → at k (r ∷ t) ≡ at k t
unfolding at
at_there k r t e = rw (ne_eqb (place k) (place r.key) e)

at_keep : (k : Key) (r : Request) (cs : List Candidate) (lo : ℕ) (t : Table) → place k ≡ place r.key → place k < lo → Ordered lo t → at k (keep r cs t) ≡ kept k r cs
unfolding keep
at_keep k r [] lo t e h o = at_absent k lo t h o
at_keep k r (c ∷ cs) lo t e h o = at_here k r t e

-- what f leaves of the request at k: a blank one, if no candidate
pub at_same : (k : Key) (f : Request → Request) (lo : ℕ) (t : Table) → KeepsKey f → Ordered lo t → at k (change k f t) ≡ kept k (f (at k t)) (f (at k t)).candidates
unfolding change at
at_same k f lo [] ff o = at_keep k (f (blank k)) (f (blank k)).candidates (suc (place k)) [] (ap place (sym (ff (blank k)))) (omega arith) tt
at_same k f lo (r ∷ t) ff o =
    elim (test (ltb (place k) (place r.key))) [
      | inl e ↦ rw (e, at_absent k (place r.key) (r ∷ t) (ltb-true _ _ e) (omega arith, o.1, o.2))
          (at_keep k (f (blank k)) _ (place r.key) (r ∷ t) (ap place (sym (ff (blank k)))) (ltb-true _ _ e) (omega arith, o.1, o.2))
      | inr e ↦ rw e (elim (test (eqb (place k) (place r.key))) [
        | inl d ↦ rw d (at_keep k (f r) _ (suc (place r.key)) t (eqb-true _ _ d ∙ ap place (sym (ff r))) (omega (arith, eqb-true (place k) (place r.key) d)) o.2)
        | inr d ↦ rw d (at_there k r (change k f t) (eqb-false _ _ d) ∙ at_same k f (suc (place r.key)) t ff o.2)
      ])
    ]

-- ---- any other key

at_other_keep : (j : Key) (r : Request) (cs : List Candidate) (t : Table) → (place j ≡ place r.key → ⊥) → at j (keep r cs t) ≡ at j t
unfolding keep
at_other_keep j r [] t e = refl
at_other_keep j r (c ∷ cs) t e = at_there j r t e

pub at_other : (j k : Key) (f : Request → Request) (t : Table) → KeepsKey f → (place j ≡ place k → ⊥) → at j (change k f t) ≡ at j t
unfolding change at
at_other j k f [] ff n = at_other_keep j (f (blank k)) (f (blank k)).candidates [] (λ e. n (e ∙ ap place (ff (blank k))))
at_other j k f (r ∷ t) ff n =
    elim (test (ltb (place k) (place r.key))) [
      | inl e ↦ rw e (at_other_keep j (f (blank k)) _ (r ∷ t) (λ d. n (d ∙ ap place (ff (blank k)))))
      | inr e ↦ rw e (elim (test (eqb (place k) (place r.key))) [
        | inl d ↦ rw d (at_other_keep j (f r) _ t (λ q. n (q ∙ ap place (ff r) ∙ sym (eqb-true _ _ d))) ∙ sym (at_there j r t (λ q. n (q ∙ sym (eqb-true _ _ d)))))
        | inr d ↦ rw d (by_test (λ (q : Request). at j (r ∷ change k f t) ≡ q) (eqb (place j) (place r.key)) (λ q. at_here j r (change k f t) (eqb-true _ _ q))
            (λ q. at_there j r (change k f t) (eqb-false _ _ q) ∙ at_other j k f t ff n))
      ])
    ]

-- the two kinds of a hash stand at two places
other_place' : (x : Kind) (h : ℕ) → h < top → base (swap x) + h ≡ base x + h → ⊥
other_place' Txid h s e = omega arith
other_place' Wtxid h s e = omega arith

pub other_place : (k : Key) → k.hash < top → place (other k) ≡ place k → ⊥
other_place k s e = other_place' k.kind k.hash s e

-- ---- a change at both kinds of a hash

-- f at k, then at the other kind
abbrev pub change_both : Key → (Request → Request) → Table → Table
change_both k f t = change (other k) f (change k f t)

module _ (k : Key) (f : Request → Request) (t : Table) (ff : KeepsKey f) (s : k.hash < top) (o : Ordered 0 t) where
  pub at_both : at k (change_both k f t) ≡ kept k (f (at k t)) (f (at k t)).candidates
  at_both = at_other k (other k) f (change k f t) ff (λ e. other_place k s (sym e)) ∙ at_same k f 0 t ff o

  pub at_both_other : at (other k) (change_both k f t) ≡ kept (other k) (f (at (other k) t)) (f (at (other k) t)).candidates
  at_both_other =
      at_same (other k) f 0 (change k f t) ff (ordered-change k f 0 t ff (omega arith) s o)
      ∙ ap (λ (r : Request). kept (other k) (f r) (f r).candidates) (at_other (other k) k f t ff (other_place k s))

pub at_both_else : (j k : Key) (f : Request → Request) (t : Table) → KeepsKey f → (place j ≡ place k → ⊥) → (place j ≡ place (other k) → ⊥) → at j (change_both k f t) ≡ at j t
at_both_else j k f t ff a b = at_other j (other k) f (change k f t) ff b ∙ at_other j k f t ff a

-- ---- keys

keys-keep : (r : Request) (cs : List Candidate) (t : Table) → 1 ≤ length cs → keys (keep r cs t) ≡ r.key ∷ keys t
unfolding keep keys
keys-keep r [] t h = absurd (omega arith)
keys-keep r (c ∷ cs) t h = refl

-- a place is another one than k's
abbrev pub apart : Key → ℕ → Bool
apart k p = not (eqb p (place k))

-- a request that is there stays there, as long as f leaves it a candidate
pub keys-stay : (k : Key) (f : Request → Request) (lo : ℕ) (t : Table) → KeepsKey f → Ordered lo t → 1 ≤ length (at k t).candidates → 1 ≤ length (f (at k t)).candidates
    → keys (change k f t) ≡ keys t
unfolding change at keys
keys-stay k f lo [] ff o p q = absurd (omega arith)
keys-stay k f lo (r ∷ t) ff o p q =
    elim (test (ltb (place k) (place r.key))) [
      | inl e ↦ absurd (omega (arith, rw (at_absent k (place r.key) (r ∷ t) (ltb-true _ _ e) (omega arith, o.1, o.2)) at p))
      | inr e ↦ rw e (elim (test (eqb (place k) (place r.key))) [
        | inl d ↦ rw d (keys-keep (f r) _ t (rw d at q) ∙ ap (λ (j : Key). j ∷ keys t) (ff r))
        | inr d ↦ rw d (ap (λ (l : List Key). r.key ∷ l) (keys-stay k f (suc (place r.key)) t ff o.2 (rw d at p) (rw d at q)))
      ])
    ]
