-- A table without packages: what stands at a key, its keys, counts, victims and rows are those of the table; it holds no place, and is sound.
use Prim.Native.Nat.{ℕ, suc}
use mathlib.Core.Path.{◌≡◌, refl, ap, ◌∙◌}
use mathlib.Core.Logic.{inl, inr}
use mathlib.Core.Bool.{Bool}
use mathlib.Core.List.{List, [], ◌∷◌, ◌++◌}
use native.Mathlib.Omega.{arith}
use lib.Dec.{eqb}
use Rattle.ident.specs.Number.{Key, place}
use Rattle.regions.specs.Regions.{each}
use Rattle.machine.specs.Limits.{Limits}
use Rattle.machine.specs.State.{Entry, Request, Table, State}
use Rattle.machine.specs.Table.{at, keys, total, count, owners, places_held, any, by, under, by_under}
use Rattle.machine.specs.Announce.{victims_in, victims, anywhere}
use Rattle.machine.specs.Sound.{Ordered, All, Filled, Lawful, Bounded, Sound}
use Rattle.machine.proofs.Fail.{parents_none}
use Rattle.machine.proofs.Tests.{test}
use Rattle.store.specs.Flat.{rows_for, rows_of, places_for, places_of}
use Rattle.store.proofs.RowBack.{rows_like}
use Rattle.parenting.proofs.Spent.{in_same}
use Rattle.apart.specs.Bare.{bare_request, bare, bare_state}

-- ---- keys and counts

pub at_bare : (k : Key) (t : Table) → at k (bare t) ≡ bare_request (at k t)
unfolding at bare
at_bare k [] = refl
at_bare k (r ∷ t) = elim (test (eqb (place k) (place r.key))) [ inl e ↦ rw e | inr e ↦ rw e (at_bare k t) ]

pub keys-bare : (t : Table) → keys (bare t) ≡ keys t
unfolding keys bare
keys-bare [] = refl
keys-bare (r ∷ t) = ap (λ (l : List Key). r.key ∷ l) (keys-bare t)

-- a weight that looks at key, candidates, owner and mark alone
pub total-bare : (w : Request → ℕ) (t : Table) → ((r : Request) → w (bare_request r) ≡ w r) → total w (bare t) ≡ total w t
unfolding total bare
total-bare w [] e = refl
total-bare w (r ∷ t) e = omega (arith, e r, total-bare w t e)

pub count-bare : (q : Key → ℕ → Bool) (t : Table) → count q (bare t) ≡ count q t
count-bare q t = total-bare _ t (λ r. refl)

pub owners-bare : (q : Key → ℕ → Bool) (t : Table) → owners q (bare t) ≡ owners q t
owners-bare q t = total-bare _ t (λ r. refl)

-- ---- victims

pub victims-bare : (t : Table) → victims anywhere (bare t) ≡ victims anywhere t
unfolding bare victims
victims-bare [] = refl
victims-bare (r ∷ t) =
    ap (λ (l : List Entry). l ++ victims anywhere (bare t)) (in_same (bare_request r) r refl refl r.candidates) ∙ ap (λ (l : List Entry). victims_in r r.candidates ++ l) (victims-bare t)

-- ---- places, rows

pub no-place_held : (t : Table) → places_held (bare t) ≡ 0
unfolding total bare
no-place_held [] = refl
no-place_held (r ∷ t) = omega (arith, no-place_held t)

pub places-bare : (t : Table) → places_of (bare t) ≡ []
unfolding each places_for bare
places-bare [] = refl
places-bare (r ∷ t) = places-bare t

rows_one : (r : Request) → rows_for (bare_request r) ≡ rows_for r
unfolding rows_for
rows_one r = rows_like (bare_request r) r r.candidates refl refl refl

pub rows-bare : (t : Table) → rows_of (bare t) ≡ rows_of t
unfolding each bare
rows-bare [] = refl
rows-bare (r ∷ t) = rw (rows_one r, rows-bare t)

-- ---- soundness

pub ordered-bare : (lo : ℕ) (t : Table) → Ordered lo t → Ordered lo (bare t)
unfolding bare
ordered-bare lo [] o = tt
ordered-bare lo (r ∷ t) o = (o.0, o.1, ordered-bare (suc (place r.key)) t o.2)

filled-bare : (t : Table) → All Filled t → All Filled (bare t)
unfolding bare
filled-bare [] a = tt
filled-bare (r ∷ t) a = (a.0, filled-bare t a.1)

lawful-bare : (t : Table) → All Lawful t → All Lawful (bare t)
unfolding bare
lawful-bare [] a = tt
lawful-bare (r ∷ t) a =
    (record { candidates = a.0.candidates; owner = a.0.owner; packed = refl; parents = parents_none; mark = a.0.mark }, lawful-bare t a.1)

pub bounded-bare : {m : Limits} {Q : ℕ} {t : Table} (P : ℕ) → Bounded m Q t → Bounded m P (bare t)
bounded-bare {m} {Q} {t} P b = record {
  ordered = ordered-bare 0 t b.ordered;
  filled = filled-bare t b.filled;
  lawful = lawful-bare t b.lawful;
  fits = omega (arith, count-bare any t, b.fits);
  each = λ n. omega (arith, count-bare (by n) t, b.each n);
  alternates = λ h. omega (arith, count-bare (under h) t, b.alternates h);
  once = λ n h. omega (arith, count-bare (by_under n h) t, b.once n h);
  owned = λ n. omega (arith, owners-bare (by n) t, b.owned n);
  single = λ h. omega (arith, owners-bare (under h) t, b.single h);
  room = omega (arith, no-place_held t);
}

pub sound-bare : {st : State} → Sound st → Sound (bare_state st)
sound-bare s = record {
  some_limit = s.some_limit;
  most-limit = s.most-limit;
  some_place = omega arith;
  most-places = omega arith;
  bounded = bounded-bare 1 s.bounded;
  poll = s.poll;
  known = s.known;
  ready = s.ready;
}
