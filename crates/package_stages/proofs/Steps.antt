-- Changes of one request, one after the other, are one change; so a solicitation is an owner, the flag, and each parent.
use Prim.Native.Nat.{ℕ, ◌≤◌, suc}
use mathlib.Core.Path.{◌≡◌, refl, sym, ap, subst, ◌∙◌}
use mathlib.Core.Logic.{inl, inr}
use mathlib.Core.List.{[], ◌∷◌}
use native.Mathlib.Omega.{arith}
use lib.Dec.{ltb, eqb}
use lib.ListN.{length}
use borrow.Author.Tests.{ltb-true, le-ltb, eqb-true, eq-eqb}
use Rattle.ident.specs.Number.{Key, place}
use Rattle.machine.specs.State.{Request, Table, blank, owned_until}
use Rattle.machine.specs.Table.{at, keep, change}
use Rattle.machine.specs.Package.{solicited}
use Rattle.machine.specs.Sound.{Ordered}
use Rattle.machine.proofs.At.{KeepsKey}
use Rattle.machine.proofs.Table.{at_absent}
use Rattle.machine.proofs.Tests.{test}
use Rattle.machine.proofs.First.{keep_some}
use Rattle.package_stages.specs.Changes.{flagged}

module _ (k : Key) (f g : Request → Request) (key : KeepsKey f) where
  -- at a request that stands first
  change_first : (x : Request) (t : Table) → place k ≡ place x.key → change k g (x ∷ t) ≡ keep (g x) (g x).candidates t
  unfolding change
  change_first x t e = rw (le-ltb (place k) (place x.key) (omega arith), eq-eqb (place k) (place x.key) e)

  -- put in at the front
  put_first : (x : Request) (t : Table) → 1 ≤ length (f x).candidates → place k ≡ place x.key → change k g (keep (f x) (f x).candidates t) ≡ keep (g (f x)) (g (f x)).candidates t
  put_first x t h e = ap (change k g) (keep_some (f x) (f x).candidates t h) ∙ change_first (f x) t (e ∙ ap place (sym (key x)))

  pub change-twice : (lo : ℕ) (t : Table) → Ordered lo t → 1 ≤ length (f (at k t)).candidates → change k g (change k f t) ≡ change k (λ r. g (f r)) t
  unfolding change at
  change-twice lo [] o h = put_first (blank k) [] h refl
  change-twice lo (r ∷ t) o h = elim (test (ltb (place k) (place r.key))) [
    | inl e ↦ let z = at_absent k (place r.key) (r ∷ t) (ltb-true (place k) (place r.key) e) (omega arith, o.1, o.2) in
        rw e (put_first (blank k) (r ∷ t) (subst (λ (x : Request). 1 ≤ length (f x).candidates) z h) refl)
    | inr e ↦ rw e (elim (test (eqb (place k) (place r.key))) [
      | inl d ↦ rw d (put_first r t (rw d at h) (eqb-true (place k) (place r.key) d))
      | inr d ↦ rw (d, e, d) (ap (λ (x : Table). r ∷ x) (change-twice (suc (place r.key)) t o.2 (rw d at h)))
    ])
  ]

-- ---- a solicitation: "owner with deadline now + 60,000, flag, parents with repeats dropped"

module _ (k : Key) (t : Table) (o : Ordered 0 t) (h : 1 ≤ length (at k t).candidates) (n d : ℕ) where
  pub solicit-flag : change k flagged (change k (owned_until n d) t) ≡ change k (solicited n d []) t
  solicit-flag = change-twice k (owned_until n d) flagged (λ r. refl) 0 t o h
