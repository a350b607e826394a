-- A hash that nobody owns.
use Prim.Native.Nat.{ℕ, suc}
use mathlib.Core.Path.{◌≡◌, refl, ap}
use mathlib.Core.Logic.{inl, inr}
use mathlib.Core.Bool.{Bool, false}
use mathlib.Core.List.{[], ◌∷◌}
use mathlib.Core.Option.{Option, none, some}
use native.Mathlib.Omega.{arith}
use lib.Dec.{eqb}
use borrow.Author.Tests.{eqb-true, eq-eqb}
use Rattle.ident.specs.Number.{Key, place}
use Rattle.machine.specs.State.{Owner, Request, Table}
use Rattle.machine.specs.Table.{at, one, total, under, owners, owner_in}
use Rattle.machine.specs.Sound.{Ordered}
use Rattle.machine.proofs.Table.{at_absent}
use Rattle.machine.proofs.Tests.{test}

pub no-weight : (b : Bool) (o : Option Owner) → b ≡ false → owner_in (λ n. b) o ≡ 0
no-weight b none e = refl
no-weight b (some o) e = ap one e

-- nobody owns the hash, if nobody does at a key with that hash
pub owners_none : (h lo : ℕ) (t : Table) → Ordered lo t → ((k : Key) → k.hash ≡ h → (at k t).owner ≡ none) → owners (under h) t ≡ 0
unfolding total at
owners_none h lo [] o f = refl
owners_none h lo (r ∷ t) o f = omega (arith, first, owners_none h (suc (place r.key)) t o.2 rest)
  where
    first : owner_in (under h r.key) r.owner ≡ 0
    first = elim (test (eqb r.key.hash h)) [
      | inl e ↦ let z : r.owner ≡ none = rw (eq-eqb (place r.key) (place r.key) refl) at (f r.key (eqb-true r.key.hash h e)) in ap (owner_in (under h r.key)) z
      | inr e ↦ no-weight (eqb r.key.hash h) r.owner e
    ]

    rest : (k : Key) → k.hash ≡ h → (at k t).owner ≡ none
    rest k e = elim (test (eqb (place k) (place r.key))) [
      | inl d ↦ ap (λ (q : Request). q.owner) (at_absent k _ t (omega (arith, eqb-true (place k) (place r.key) d)) o.2)
      | inr d ↦ rw d at (f k e)
    ]
