-- A plan's selections, marked by owning them: what a plan would choose beside its selections is what it would choose with none in
-- the table in which the selected candidates own their requests.
use Prim.Native.Nat.{ℕ, suc, ◌+◌, ◌≤◌, ◌<◌}
use mathlib.Core.Path.{◌≡◌, refl, sym, ap, ◌∙◌}
use mathlib.Core.Logic.{inl, inr}
use mathlib.Core.Bool.{Bool, ◌&&◌}
use mathlib.Core.List.{List, [], ◌∷◌}
use native.Mathlib.Omega.{arith}
use lib.Dec.{ltb, leb, eqb}
use lib.ListN.{length}
use borrow.Author.Tests.{ltb-true, eq-eqb}
use Rattle.ident.specs.Number.{Key, place, top, txid, wtxid}
use Rattle.ident.proofs.Places.{place_same as place-inj}
use Rattle.machine.specs.Limits.{max_in_flight}
use Rattle.machine.specs.State.{Candidate, Request, Table, Entry, blank, owned_until}
use Rattle.machine.specs.Table.{at, keep, change, one, total, owner_in, owners, by, under, owned_by, owned_at}
use Rattle.machine.specs.Plan.{chosen_by, chosen_at, able, least_in, least_at, choice}
use Rattle.machine.specs.Sound.{Ordered}
use Rattle.machine.proofs.Tests.{test}
use Rattle.machine.proofs.Table.{at_absent, at_key, ordered-change}
use Rattle.machine.proofs.At.{at_other}
use Rattle.selecting.specs.Selecting.{marking, mark_all, Free, AllFree}

-- ---- a change that leaves a candidate changes a weight by exactly what it does at the key

total_stays : (w : Request → ℕ) (r : Request) (cs : List Candidate) (t : Table) → 1 ≤ length cs → total w (keep r cs t) ≡ w r + total w t
unfolding keep total
total_stays w r [] t h = absurd (omega arith)
total_stays w r (c ∷ cs) t h = refl

pub total_exact : (w : Request → ℕ) (k : Key) (f : Request → Request) (lo : ℕ) (t : Table) → w (blank k) ≡ 0 → Ordered lo t → 1 ≤ length (f (at k t)).candidates → total w (change k f t) + w
    (at k t) ≡ total w t + w (f (at k t))
unfolding change at total
total_exact w k f lo [] z o h = omega (arith, total_stays w (f (blank k)) (f (blank k)).candidates [] h, z)
total_exact w k f lo (r ∷ t) z o h =
    elim (test (ltb (place k) (place r.key))) [
      | inl e ↦ let a = at_absent k (place r.key) (r ∷ t) (ltb-true _ _ e) (omega arith, o.1, o.2) in
          rw (e, a) (omega (arith, z, total_stays w (f (blank k)) (f (blank k)).candidates (r ∷ t) (rw a at h)))
      | inr e ↦ rw e (elim (test (eqb (place k) (place r.key))) [
        | inl d ↦ rw d (omega (arith, total_stays w (f r) (f r).candidates t (rw d at h)))
        | inr d ↦ rw d (omega (arith, total_exact w k f (suc (place r.key)) t z o.2 (rw d at h)))
      ])
    ]

-- ---- one selection marked

module _ (d : ℕ) (a : Entry) (t : Table) (o : Ordered 0 t) (f : Free t a) where
  owners-marked : (q : Key → ℕ → Bool) → owners q (marking d a t) ≡ owners q t + one (q a.key a.candidate.connection)
  owners-marked q =
      let e = at_key a.key 0 t f.small o in
      let x : owner_in (q (at a.key t).key) (at a.key t).owner ≡ 0 = ap (owner_in (q (at a.key t).key)) f.unowned in
      let y : one (q (at a.key t).key a.candidate.connection) ≡ one (q a.key a.candidate.connection) = ap (λ (k : Key). one (q k a.candidate.connection)) e in
      omega (arith, total_exact (λ r. owner_in (q r.key) r.owner) a.key (owned_until a.candidate.connection d) 0 t refl o f.some_candidate, x, y)

  pub owned-marked : (n : ℕ) → owned_by n (marking d a t) ≡ owned_by n t + one (eqb a.candidate.connection n)
  owned-marked n = owners-marked (by n)

  pub hash-marked : (h : ℕ) → owned_at h (marking d a t) ≡ owned_at h t + one (eqb a.key.hash h)
  hash-marked h = owners-marked (under h)

  -- ---- what a plan would choose at another hash

  able-marked : (now : ℕ) (l : List Entry) (c : Candidate) → able now t (a ∷ l) c ≡ able now (marking d a t) l c
  unfolding able chosen_by
  able-marked now l c =
      let e : owned_by c.connection t + chosen_by c.connection (a ∷ l) ≡ owned_by c.connection (marking d a t) + chosen_by c.connection l = omega (arith, owned-marked c.connection) in
      ap (λ (x : ℕ). leb c.ready now && ltb x max_in_flight) e

  least_same : (p q : Candidate → Bool) (k : Key) (cs : List Candidate) → ((c : Candidate) → p c ≡ q c) → least_in p k cs ≡ least_in q k cs
  unfolding least_in
  least_same p q k [] e = refl
  least_same p q k (c ∷ cs) e = rw (e c, least_same p q k cs e)

  least_marked : (now : ℕ) (l : List Entry) (k : Key) → k.hash < top → (place k ≡ place a.key → ⊥) → least_at (able now t (a ∷ l)) k t ≡ least_at (able now (marking d a t) l) k (marking d a t)
  unfolding least_at
  least_marked now l k s n =
      let e = at_other k a.key (owned_until a.candidate.connection d) t (λ r. refl) n in
      rw (e, least_same (able now t (a ∷ l)) (able now (marking d a t) l) k (at k t).candidates (able-marked now l))

  pub choice-marked : (now : ℕ) (l : List Entry) (k : Key) → k.hash < top → (k.hash ≡ a.key.hash → ⊥) → choice now t (a ∷ l) k ≡ choice now (marking d a t) l k
  unfolding choice
  choice-marked now l k s n =
      let x = least_marked now l (txid k.hash) s (λ e. n (ap (λ (j : Key). j.hash) (place-inj (txid k.hash) a.key s f.small e))) in
      let y = least_marked now l (wtxid k.hash) s (λ e. n (ap (λ (j : Key). j.hash) (place-inj (wtxid k.hash) a.key s f.small e))) in
      rw (x, y)

-- ---- all selections marked, in order

pub ordered-marking : (d : ℕ) (a : Entry) (t : Table) → Ordered 0 t → Free t a → Ordered 0 (marking d a t)
ordered-marking d a t o f = ordered-change a.key (owned_until a.candidate.connection d) 0 t (λ r. refl) (omega arith) f.small o

-- "counting this plan's": what a plan would choose at a hash that it has not selected
pub choice_all : (now d : ℕ) (l : List Entry) (t : Table) (k : Key) → Ordered 0 t → AllFree d l t → k.hash < top → chosen_at k.hash l ≡ 0 → choice now t l k ≡ choice now (mark_all d l t) [] k
unfolding mark_all chosen_at
choice_all now d [] t k o f s z = refl
choice_all now d (a ∷ l) t k o f s z =
    choice-marked d a t o f.0 now l k s (λ e. absurd (omega (arith, z, ap one (eq-eqb a.key.hash k.hash (sym e)))))
    ∙ choice_all now d l (marking d a t) k (ordered-marking d a t o f.0) f.1 s (omega (arith, z))

-- "whose hash is unowned and not yet selected by this plan" is one question
pub owned_all : (d : ℕ) (l : List Entry) (t : Table) (h : ℕ) → Ordered 0 t → AllFree d l t → owned_at h (mark_all d l t) ≡ owned_at h t + chosen_at h l
unfolding mark_all chosen_at
owned_all d [] t h o f = omega arith
owned_all d (a ∷ l) t h o f = omega (arith, owned_all d l (marking d a t) h (ordered-marking d a t o f.0) f.1, hash-marked d a t o f.0 h)
