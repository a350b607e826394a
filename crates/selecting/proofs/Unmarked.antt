-- The end of a plan's scan: a selection that is disowned again leaves the table as it was.
use Prim.Native.Nat.{ℕ, suc, ◌≤◌}
use mathlib.Core.Path.{◌≡◌, refl, sym, ap, subst}
use mathlib.Core.Logic.{inl, inr}
use mathlib.Core.Bool.{Bool, true, false}
use mathlib.Core.List.{List, [], ◌∷◌}
use mathlib.Core.Option.{Option, none, some}
use native.Mathlib.Omega.{arith}
use lib.Dec.{ltb, eqb}
use lib.ListN.{length}
use borrow.Author.Tests.{ltb-true}
use Rattle.ident.specs.declared.Kind.{Kind}
use Rattle.ident.specs.Number.{Key, place}
use Rattle.machine.specs.State.{Owner, Package, Request, Table, Entry, blank, owned_until, unowned}
use Rattle.machine.specs.Table.{at, change}
use Rattle.machine.specs.Sound.{Packed, Lawful, Ordered}
use Rattle.machine.proofs.Table.{at_absent}
use Rattle.machine.proofs.Tests.{test, never}
use Rattle.machine.proofs.First.{keep_some as keep_one}
use Rattle.selecting.specs.Selecting.{marking, Free}

-- a request without owner has neither flag, package nor parents
pub record Bare (q : Request) : Type 0 where
  pub owner : q.owner ≡ none
  pub info : q.info ≡ false
  pub packless : q.«package» ≡ none
  pub parents : q.parents ≡ []

bare-packed : (k : Kind) (i : Bool) (p : Option Package) (hs : List ℕ) → Packed k none i p hs → (i ≡ false) × (p ≡ none) × (hs ≡ [])
bare-packed k true (some p) hs f = absurd f
bare-packed k true none hs f = never f.0
bare-packed k false (some p) hs f = never f.0
bare-packed k false none hs f = (refl, refl, f)

pub bare : (q : Request) → Lawful q → q.owner ≡ none → Bare q
bare q l e =
    let z = bare-packed q.key.kind q.info q.«package» q.parents (subst (λ (o : Option Owner). Packed q.key.kind o q.info q.«package» q.parents) e l.packed) in
    record { owner = e; info = z.0; packless = z.1; parents = z.2 }

again : (n d : ℕ) (q : Request) → Bare q → unowned (owned_until n d q) ≡ q
again n d q b = λ i. record {
  key = q.key;
  candidates = q.candidates;
  owner = sym b.owner i;
  info = sym b.info i;
  «package» = sym b.packless i;
  parents = sym b.parents i;
  fallback = q.fallback;
}

unmark : (k : Key) (n d lo : ℕ) (t : Table) → Ordered lo t → Bare (at k t) → 1 ≤ length (at k t).candidates → change k unowned (change k (owned_until n d) t) ≡ t
unfolding change at
unmark k n d lo [] o b h = absurd (omega arith)
unmark k n d lo (r ∷ t) o b h = elim (test (ltb (place k) (place r.key))) [
  | inl e ↦ absurd (none_here (subst (λ (x : Request). 1 ≤ length x.candidates) (at_absent k (place r.key) (r ∷ t) (ltb-true (place k) (place r.key) e) (omega arith, o.1, o.2)) h))
  | inr e ↦ elim (test (eqb (place k) (place r.key))) [
    | inl x ↦ let f = keep_one (owned_until n d r) r.candidates t (rw x at h) in
        let g = keep_one (unowned (owned_until n d r)) r.candidates t (rw x at h) in
        rw (e, x, f, e, x, g) (ap (λ (q : Request). q ∷ t) (again n d r (rw x at b)))
    | inr x ↦ rw (e, x, e, x) (ap (λ (u : Table). r ∷ u) (unmark k n d (suc (place r.key)) t o.2 (rw x at b) (rw x at h)))
  ]
]
  where
    none_here : 1 ≤ length (blank k).candidates → ⊥
    none_here l = omega arith

-- a selection, disowned
pub unmarked : (d : ℕ) (a : Entry) (t : Table) → Ordered 0 t → Free t a → Lawful (at a.key t) → change a.key unowned (marking d a t) ≡ t
unmarked d a t o f l = unmark a.key a.candidate.connection d 0 t o (bare (at a.key t) l f.unowned) f.some_candidate
