-- One change after another at the same key is one change; a change matters only by what it makes of the request that is there.
use Prim.Native.Nat.{ℕ, suc, ◌<◌}
use mathlib.Core.Path.{◌≡◌, refl, sym, ap, ◌∙◌}
use mathlib.Core.Logic.{inl, inr}
use mathlib.Core.List.{List, [], ◌∷◌}
use native.Mathlib.Omega.{arith}
use lib.Dec.{ltb, eqb}
use lib.ListN.{length}
use borrow.Author.Tests.{ltb-true, lt-ltb, eqb-true}
use Rattle.ident.specs.Number.{Key, place}
use Rattle.machine.specs.State.{Candidate, Request, Table, blank}
use Rattle.machine.specs.Table.{at, keep, change}
use Rattle.machine.specs.Sound.{Ordered, All, Filled}
use Rattle.machine.proofs.Tests.{test}
use Rattle.machine.proofs.Table.{at_absent}
use Rattle.machine.proofs.At.{KeepsKey}
use Rattle.machine.proofs.First.{change_first, keep_some}

-- a change that gives no candidate to a request without one
abbrev pub GivesNone : (Request → Request) → Type 0
GivesNone g = (r : Request) → r.candidates ≡ [] → (g r).candidates ≡ []

pub keep_none : (r : Request) (cs : List Candidate) (t : Table) → cs ≡ [] → keep r cs t ≡ t
unfolding keep
keep_none r [] t e = refl
keep_none r (c ∷ cs) t e = absurd (omega (arith, ap length e))

-- before the first key
pub change-before : (k : Key) (g : Request → Request) (lo : ℕ) (t : Table) → GivesNone g → place k < lo → Ordered lo t → change k g t ≡ t
unfolding change
change-before k g lo [] z h o = keep_none (g (blank k)) (g (blank k)).candidates [] (z (blank k) refl)
change-before k g lo (r ∷ t) z h o = rw (lt-ltb (place k) (place r.key) (omega (arith, o.0))) (keep_none (g (blank k)) (g (blank k)).candidates (r ∷ t) (z (blank k) refl))

fuse_keep : (k : Key) (g : Request → Request) (r : Request) (cs : List Candidate) (lo : ℕ) (t : Table) → GivesNone g → r.candidates ≡ cs → place k ≡ place r.key → place k < lo → Ordered lo t
    → change k g (keep r cs t) ≡ keep (g r) (g r).candidates t
unfolding keep
fuse_keep k g r [] lo t z q e h o = change-before k g lo t z h o ∙ sym (keep_none (g r) (g r).candidates t (z r q))
fuse_keep k g r (c ∷ cs) lo t z q e h o = change_first k g r t e

pub change_fuse : (k : Key) (f g : Request → Request) (lo : ℕ) (t : Table) → KeepsKey f → GivesNone g → Ordered lo t → change k g (change k f t) ≡ change k (λ r. g (f r)) t
unfolding change
change_fuse k f g lo [] ff z o = fuse_keep k g (f (blank k)) (f (blank k)).candidates (suc (place k)) [] z refl (ap place (sym (ff (blank k)))) (omega arith) tt
change_fuse k f g lo (r ∷ t) ff z o =
    elim (test (ltb (place k) (place r.key))) [
      | inl e ↦ rw e (fuse_keep k g (f (blank k)) (f (blank k)).candidates (place r.key) (r ∷ t) z refl (ap place (sym (ff (blank k)))) (ltb-true _ _ e) (omega arith, o.1, o.2))
      | inr e ↦ rw e (elim (test (eqb (place k) (place r.key))) [
        | inl d ↦ rw d (fuse_keep k g (f r) (f r).candidates (suc (place r.key)) t z refl (eqb-true _ _ d ∙ ap place (sym (ff r))) (omega (arith, eqb-true (place k) (place r.key) d)) o.2)
        | inr d ↦ rw d (rw (e, d) (ap (λ (l : Table). r ∷ l) (change_fuse k f g (suc (place r.key)) t ff z o.2)))
      ])
    ]

pub change_same : (k : Key) (f g : Request → Request) (lo : ℕ) (t : Table) → Ordered lo t → f (at k t) ≡ g (at k t) → change k f t ≡ change k g t
unfolding change at
change_same k f g lo [] o q = ap (λ (x : Request). keep x x.candidates []) q
change_same k f g lo (r ∷ t) o q =
    elim (test (ltb (place k) (place r.key))) [
      | inl e ↦ rw e (ap (λ (x : Request). keep x x.candidates (r ∷ t)) (rw (at_absent k (place r.key) (r ∷ t) (ltb-true _ _ e) (omega arith, o.1, o.2)) at q))
      | inr e ↦ rw e (elim (test (eqb (place k) (place r.key))) [
        | inl d ↦ rw d (ap (λ (x : Request). keep x x.candidates t) (rw d at q))
        | inr d ↦ rw d (ap (λ (l : Table). r ∷ l) (change_same k f g (suc (place r.key)) t o.2 (rw d at q)))
      ])
    ]

-- a change that leaves the request as it is
pub change_none : (k : Key) (f : Request → Request) (lo : ℕ) (t : Table) → Ordered lo t → All Filled t → f (at k t) ≡ at k t → change k f t ≡ t
unfolding change at
change_none k f lo [] o a q = keep_none (f (blank k)) (f (blank k)).candidates [] (ap (λ (x : Request). x.candidates) q)
change_none k f lo (r ∷ t) o a q =
    elim (test (ltb (place k) (place r.key))) [
      | inl e ↦ let z : f (blank k) ≡ blank k = rw (at_absent k (place r.key) (r ∷ t) (ltb-true _ _ e) (omega arith, o.1, o.2)) at q in
          rw e (keep_none (f (blank k)) (f (blank k)).candidates (r ∷ t) (ap (λ (x : Request). x.candidates) z))
      | inr e ↦ rw e (elim (test (eqb (place k) (place r.key))) [
        | inl d ↦ let z : f r ≡ r = rw d at q in
            rw d (ap (λ (x : Request). keep x x.candidates t) z ∙ keep_some r r.candidates t a.0)
        | inr d ↦ rw d (ap (λ (l : Table). r ∷ l) (change_none k f (suc (place r.key)) t o.2 a.1 (rw d at q)))
      ])
    ]
