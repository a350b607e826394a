-- A change that takes nothing new keeps the bounds, and so does one that makes an owner.
use Prim.Native.Nat.{ℕ, ◌+◌, ◌≤◌, ◌<◌}
use mathlib.Core.Path.{◌≡◌, refl, sym, ap, ◌∙◌}
use mathlib.Core.Logic.{inl, inr}
use mathlib.Core.Bool.{Bool, true, false, ◌&&◌}
use mathlib.Core.List.{List, [], ◌∷◌}
use mathlib.Core.Option.{Option, none, some}
use native.Mathlib.Omega.{arith}
use lib.Dec.{eqb}
use borrow.Author.Tests.{eqb-true, eqb-false, eq-eqb, ne_eqb}
use Rattle.ident.specs.Number.{top, Key, place}
use Rattle.machine.specs.Limits.{Limits, max_in_flight}
use Rattle.machine.specs.State.{Candidate, Owner, Request, Table, blank, owner_is}
use Rattle.machine.specs.Table.{at, change, one, count_in, total, count, owner_in, owners, place_in, places_held, has, owned_by, owned_at, any, by, under, by_under}
use Rattle.machine.specs.Announce.{without, cut}
use Rattle.machine.specs.Sound.{AllFit, OwnerFits, Ordered, Lawful, Bounded}
use Rattle.machine.proofs.Tests.{test}
use Rattle.machine.proofs.Table.{ordered-change, at_key, count-change, owners-change, places-change, all_change, lawful_at, filled-change}

-- f, at the request r, takes no candidate and no owner that was not there
pub record ShrinksAt (f : Request → Request) (r : Request) : Type 0 where
  pub fewer : (p : ℕ → Bool) → count_in p (f r).candidates ≤ count_in p r.candidates
  pub less : (p : ℕ → Bool) → owner_in p (f r).owner ≤ owner_in p r.owner
  pub place : place_in (f r).info (f r).«package» ≤ place_in r.info r.«package»
  pub lawful : Lawful r → Lawful (f r)

pub bounded_at : {m : Limits} {Q : ℕ} {t : Table} (k : Key) (f : Request → Request) → k.hash < top → ((r : Request) → (f r).key ≡ r.key) → ShrinksAt f (at k t) → Bounded m Q t
    → Bounded m Q (change k f t)
bounded_at {m} {Q} {t} k f s key sh b = record {
  ordered = ordered-change k f 0 t key (omega arith) s o;
  filled = filled-change k f t b.filled;
  lawful = all_change Lawful k f 0 t o (sh.lawful (lawful_at k t b.lawful)) b.lawful;
  fits = omega (arith, fewer any, b.fits);
  each = λ n. omega (arith, fewer (by n), b.each n);
  alternates = λ h. omega (arith, fewer (under h), b.alternates h);
  once = λ n h. omega (arith, fewer (by_under n h), b.once n h);
  owned = λ n. omega (arith, less (by n), b.owned n);
  single = λ h. omega (arith, less (under h), b.single h);
  room = omega (arith, places-change k f t o, sh.place, b.room);
}
  where
    o : Ordered 0 t
    o = b.ordered

    fewer : (q : Key → ℕ → Bool) → count q (change k f t) ≤ count q t
    fewer q =
        let h : count_in (q (f (at k t)).key) (f (at k t)).candidates ≤ count_in (q (at k t).key) (at k t).candidates = rw (key (at k t)) (sh.fewer (q (at k t).key)) in
        omega (arith, count-change q k f t o)

    less : (q : Key → ℕ → Bool) → owners q (change k f t) ≤ owners q t
    less q =
        let h : owner_in (q (f (at k t)).key) (f (at k t)).owner ≤ owner_in (q (at k t).key) (at k t).owner = rw (key (at k t)) (sh.less (q (at k t).key)) in
        omega (arith, owners-change q k f t o)

-- the same at every request
pub record Shrinks (f : Request → Request) : Type 0 where
  pub key : (r : Request) → (f r).key ≡ r.key
  pub at_each : (r : Request) → ShrinksAt f r

pub bounded-change : {m : Limits} {Q : ℕ} {t : Table} (k : Key) (f : Request → Request) → k.hash < top → Shrinks f → Bounded m Q t → Bounded m Q (change k f t)
bounded-change {m} {Q} {t} k f s sh b = bounded_at k f s sh.key (sh.at_each (at k t)) b

-- ---- one candidate less

pub has-without : (m n : ℕ) (cs : List Candidate) → eqb m n ≡ false → has m cs ≡ true → has m (without n cs) ≡ true
unfolding has without
has-without m n [] d h = h
has-without m n (c ∷ cs) d h =
    elim (test (eqb c.connection n)) [
      | inl e ↦ rw e (rw (ne_eqb c.connection m (λ q. eqb-false m n d (sym q ∙ eqb-true _ _ e))) at h)
      | inr e ↦ rw e (elim (test (eqb c.connection m)) [ inl f ↦ rw f | inr f ↦ rw f (has-without m n cs d (rw f at h)) ])
    ]

pub owner-without : (n : ℕ) (o : Option Owner) (cs : List Candidate) → owner_is n o ≡ false → OwnerFits o cs → OwnerFits o (without n cs)
owner-without n none cs e h = tt
owner-without n (some o) cs e h = (has-without o.connection n cs e h.0, h.1)

pub without_fewer : (p : ℕ → Bool) (n : ℕ) (cs : List Candidate) → count_in p (without n cs) ≤ count_in p cs
unfolding count_in without
without_fewer p n [] = omega arith
without_fewer p n (c ∷ cs) = elim (test (eqb c.connection n)) [ inl e ↦ rw e (omega arith) | inr e ↦ rw e (omega (arith, without_fewer p n cs)) ]

pub fit-without : (n : ℕ) (k : Key) (cs : List Candidate) → AllFit k cs → AllFit k (without n cs)
unfolding without
fit-without n k [] h = tt
fit-without n k (c ∷ cs) h = elim (test (eqb c.connection n)) [ inl e ↦ rw e h.1 | inr e ↦ rw e (h.0, fit-without n k cs h.1) ]

pub bounded-cut : {m : Limits} {Q : ℕ} {t : Table} (k : Key) (n : ℕ) → k.hash < top → owner_is n (at k t).owner ≡ false → Bounded m Q t → Bounded m Q (cut k n t)
bounded-cut {m} {Q} {t} k n s w b = bounded_at k _ s (λ r. refl) (record {
  fewer = λ p. without_fewer p n (at k t).candidates;
  less = λ p. omega arith;
  place = omega arith;
  lawful = λ l. record {
    candidates = fit-without n (at k t).key (at k t).candidates l.candidates;
    owner = owner-without n (at k t).owner (at k t).candidates w l.owner;
    packed = l.packed;
    parents = l.parents;
    mark = l.mark;
  };
}) b

-- ---- one more under a bound

pub bump : (F : ℕ → ℕ) (a B : ℕ) → ((h : ℕ) → F h ≤ B) → F a < B → (h : ℕ) → F h + one (eqb a h) ≤ B
bump F a B all lt h =
    elim (test (eqb a h)) [
      | inl e ↦ rw e (rw (sym (eqb-true a h e)) (omega arith))
      | inr e ↦ rw e (omega (arith, all h))
    ]

pub bump₂ : (F : ℕ → ℕ → ℕ) (a b B : ℕ) → ((n h : ℕ) → F n h ≤ B) → F a b < B → (n h : ℕ) → F n h + one (eqb b h && eqb a n) ≤ B
bump₂ F a b B all lt n h =
    elim (test (eqb b h)) [
      | inl e ↦ rw e (bump (λ m. F m h) a B (λ m. all m h) (rw (sym (eqb-true b h e)) lt) n)
      | inr e ↦ rw e (omega (arith, all n h))
    ]

-- ---- a new owner

-- no owner at a hash: none of its requests has one
owner_none : (q : ℕ → Bool) (o : Option Owner) → ((n : ℕ) → q n ≡ true) → owner_in q o < 1 → o ≡ none
owner_none q none t h = refl
owner_none q (some o) t h = absurd (omega (arith, ap one (t o.connection)))

total_at : (w : Request → ℕ) (k : Key) (t : Table) → w (blank k) ≡ 0 → w (at k t) ≤ total w t
unfolding at total
total_at w k [] z = omega arith
total_at w k (r ∷ t) z = elim (test (eqb (place k) (place r.key))) [ inl e ↦ rw e (omega arith) | inr e ↦ rw e (omega (arith, total_at w k t z)) ]

pub unowned_at : (k : Key) (t : Table) → k.hash < top → Ordered 0 t → owned_at k.hash t < 1 → (at k t).owner ≡ none
unowned_at k t s o h =
    owner_none (λ n. eqb (at k t).key.hash k.hash) (at k t).owner (λ n. eq-eqb _ _ (ap (λ (j : Key). j.hash) (at_key k 0 t s o)))
    (omega (arith, total_at (λ r. owner_in (under k.hash r.key) r.owner) k t refl))

-- f makes n the owner, under the key k, and takes so many places, and keeps the key and the candidates
pub record Owns (k : Key) (n more : ℕ) (f : Request → Request) : Type 0 where
  pub key : (r : Request) → (f r).key ≡ r.key
  pub same : (r : Request) → (f r).candidates ≡ r.candidates
  pub owner : (p : ℕ → Bool) (r : Request) → owner_in p (f r).owner ≤ one (p n)
  pub place : (r : Request) → place_in (f r).info (f r).«package» ≤ place_in r.info r.«package» + more
  pub lawful : (r : Request) → r.key ≡ k → r.owner ≡ none → has n r.candidates ≡ true → Lawful r → Lawful (f r)

pub bounded-own : {m : Limits} {Q : ℕ} {t : Table} {k : Key} {n extra : ℕ} {f : Request → Request} → Owns k n extra f → k.hash < top → places_held t + extra ≤ Q → Bounded m Q t
    → has n (at k t).candidates ≡ true → owned_at k.hash t < 1 → owned_by n t < max_in_flight → Bounded m Q (change k f t)
bounded-own {m} {Q} {t} {k} {n} {extra} {f} w s r b h l₁ l₂ = record {
  ordered = ordered-change k f 0 t w.key (omega arith) s o;
  filled = filled-change k f t b.filled;
  lawful = all_change Lawful k f 0 t o (w.lawful (at k t) (at_key k 0 t s o) (unowned_at k t s o l₁) h (lawful_at k t b.lawful)) b.lawful;
  fits = omega (arith, same any, b.fits);
  each = λ i. omega (arith, same (by i), b.each i);
  alternates = λ g. omega (arith, same (under g), b.alternates g);
  once = λ i g. omega (arith, same (by_under i g), b.once i g);
  owned = λ i. omega (arith, more (by i), bump (λ i. owners (by i) t) n max_in_flight b.owned l₂ i);
  single = λ g. omega (arith, more (under g), bump (λ i. owners (under i) t) k.hash 1 b.single l₁ g);
  room = omega (arith, places-change k f t o, w.place (at k t));
}
  where
    o : Ordered 0 t
    o = b.ordered

    same : (q : Key → ℕ → Bool) → count q (change k f t) ≤ count q t
    same q =
        let e : count_in (q (f (at k t)).key) (f (at k t)).candidates ≡ count_in (q (at k t).key) (at k t).candidates = rw (w.key (at k t), w.same (at k t)) in
        omega (arith, count-change q k f t o)

    more : (q : Key → ℕ → Bool) → owners q (change k f t) ≤ owners q t + one (q k n)
    more q =
        let e : (f (at k t)).key ≡ k = w.key (at k t) ∙ at_key k 0 t s o in
        let d : owner_in (q (f (at k t)).key) (f (at k t)).owner ≤ one (q k n) = rw e (w.owner (q k) (at k t)) in
        omega (arith, owners-change q k f t o)
