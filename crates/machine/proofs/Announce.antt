-- Announcing keeps the bounds.
use Prim.Native.Nat.{ℕ, suc, ◌+◌, ◌≤◌, ◌<◌}
use mathlib.Core.Path.{◌≡◌, refl, ap}
use mathlib.Core.Logic.{inl, inr}
use mathlib.Core.Bool.{Bool, true, false, ◌||◌}
use mathlib.Core.List.{List, [], ◌∷◌, ◌++◌}
use mathlib.Core.Option.{Option, none, some}
use native.Mathlib.Omega.{arith}
use lib.Dec.{leb, eqb}
use borrow.Author.Tests.{ltb-false, leb-false, eqb-true, eq-eqb, ne_eqb}
use Rattle.std.specs.Prelude.{if◌then◌else◌}
use Rattle.ident.specs.declared.Kind.{Kind}
use Rattle.ident.specs.Number.{top, Key, place, Item, kind_of, key_as, key_of}
use Rattle.machine.specs.Limits.{Limits, max_peer_announcements}
use Rattle.machine.specs.State.{Candidate, Owner, Request, Table, Entry, Answer, with_candidates, owner_is}
use Rattle.machine.specs.Table.{at, one, count_in, count, owners, places_held, has, is_candidate, held, held_at, any, by, under, by_under}
use Rattle.machine.specs.Announce.{announce, announce_at, announce_keyed, evicting, greatest, greatest_from, after, victims, victims_in, without, push, cut, at_hash, anywhere}
use Rattle.machine.specs.Sound.{CursorFits, Fits, AllFit, OwnerFits, Ordered, Lawful, Bounded}
use Rattle.machine.specs.Typed.{CandidateTyped, Each}
use Rattle.machine.proofs.Tests.{test, by_test, never, or_right, or_true}
use Rattle.machine.proofs.Table.{ordered-change, at_key, count-change, owners-change, places-change, all_change, lawful_at, filled-change}
use Rattle.machine.proofs.Change.{bounded-cut, bump, bump₂}

-- ---- candidates: one more, one less

count_in-push : (p : ℕ → Bool) (cs : List Candidate) (c : Candidate) → count_in p (cs ++ (c ∷ [])) ≡ count_in p cs + one (p c.connection)
unfolding count_in
count_in-push p [] c = omega arith
count_in-push p (d ∷ cs) c = omega (arith, count_in-push p cs c)

pub count_in-without : (p : ℕ → Bool) (n : ℕ) (cs : List Candidate) → has n cs ≡ true → count_in p (without n cs) + one (p n) ≡ count_in p cs
unfolding count_in without has
count_in-without p n [] h = never h
count_in-without p n (c ∷ cs) h =
    elim (test (eqb c.connection n)) [
      | inl e ↦ rw e (rw (eqb-true c.connection n e) (omega arith))
      | inr e ↦ rw e (omega (arith, count_in-without p n cs (rw e at h)))
    ]

pub has_push : (n : ℕ) (cs : List Candidate) (c : Candidate) → has n cs ≡ true → has n (cs ++ (c ∷ [])) ≡ true
unfolding has
has_push n [] c h = never h
has_push n (d ∷ cs) c h = elim (test (eqb d.connection n)) [ inl e ↦ rw e | inr e ↦ rw e (has_push n cs c (rw e at h)) ]

-- ---- the table: one more, one less

pub count-push : (q : Key → ℕ → Bool) (k : Key) (c : Candidate) (t : Table) → k.hash < top → Ordered 0 t → count q (push k c t) ≤ count q t + one (q k c.connection)
count-push q k c t s o =
    omega (
      arith,
      count-change q k (λ r. with_candidates (r.candidates ++ (c ∷ [])) r) t o,
      count_in-push (q (at k t).key) (at k t).candidates c,
      ap (λ (j : Key). one (q j c.connection)) (at_key k 0 t s o),
    )

pub count_cut : (q : Key → ℕ → Bool) (k : Key) (n : ℕ) (t : Table) → k.hash < top → Ordered 0 t → has n (at k t).candidates ≡ true → count q (cut k n t) + one (q k n) ≤ count q t
count_cut q k n t s o h =
    omega (
      arith,
      count-change q k (λ r. with_candidates (without n r.candidates) r) t o,
      count_in-without (q (at k t).key) n (at k t).candidates h,
      ap (λ (j : Key). one (q j n)) (at_key k 0 t s o),
    )

pub owners-push : (q : Key → ℕ → Bool) (k : Key) (c : Candidate) (t : Table) → Ordered 0 t → owners q (push k c t) ≤ owners q t
owners-push q k c t o = omega (arith, owners-change q k (λ r. with_candidates (r.candidates ++ (c ∷ [])) r) t o)

pub owners-cut : (q : Key → ℕ → Bool) (k : Key) (n : ℕ) (t : Table) → Ordered 0 t → owners q (cut k n t) ≤ owners q t
owners-cut q k n t o = omega (arith, owners-change q k (λ r. with_candidates (without n r.candidates) r) t o)

pub places-push : (k : Key) (c : Candidate) (t : Table) → Ordered 0 t → places_held (push k c t) ≤ places_held t
places-push k c t o = omega (arith, places-change k (λ r. with_candidates (r.candidates ++ (c ∷ [])) r) t o)

pub places-cut : (k : Key) (n : ℕ) (t : Table) → Ordered 0 t → places_held (cut k n t) ≤ places_held t
places-cut k n t o = omega (arith, places-change k (λ r. with_candidates (without n r.candidates) r) t o)

-- ---- the bounds, after one more

owner-push : (o : Option Owner) (cs : List Candidate) (c : Candidate) → OwnerFits o cs → OwnerFits o (cs ++ (c ∷ []))
owner-push none cs c h = tt
owner-push (some o) cs c h = (has_push o.connection cs c h.0, h.1)

fit-push : (k : Key) (cs : List Candidate) (c : Candidate) → Fits k c → AllFit k cs → AllFit k (cs ++ (c ∷ []))
fit-push k [] c a h = (a, tt)
fit-push k (d ∷ cs) c a h = (h.0, fit-push k cs c a h.1)

pub bounded-push : {m : Limits} {Q : ℕ} {t : Table} {k : Key} {c : Candidate} → k.hash < top → Fits k c → Bounded m Q t
    → count any t < m.announcements → count (by c.connection) t < max_peer_announcements → count (under k.hash) t < m.alternates → count (by_under c.connection k.hash) t < 1
    → Bounded m Q (push k c t)
bounded-push {m} {Q} {t} {k} {c} s a b l₁ l₂ l₃ l₄ = record {
  ordered = ordered-change k _ 0 t (λ r. refl) (omega arith) s o;
  filled = filled-change k f t b.filled;
  lawful = all_change Lawful k f 0 t o (record {
    candidates = rw (at_key k 0 t s o) (fit-push k (at k t).candidates c a (rw (at_key k 0 t s o) at l.candidates));
    owner = owner-push (at k t).owner (at k t).candidates c l.owner;
    packed = l.packed;
    parents = l.parents;
    mark = l.mark;
  }) b.lawful;
  fits = omega (arith, count-push any k c t s o);
  each = λ n. omega (arith, count-push (by n) k c t s o, bump (λ i. count (by i) t) c.connection max_peer_announcements b.each l₂ n);
  alternates = λ h. omega (arith, count-push (under h) k c t s o, bump (λ i. count (under i) t) k.hash m.alternates b.alternates l₃ h);
  once = λ n h. omega (arith, count-push (by_under n h) k c t s o, bump₂ (λ i g. count (by_under i g) t) c.connection k.hash 1 b.once l₄ n h);
  owned = λ n. omega (arith, b.owned n, owners-push (by n) k c t o);
  single = λ h. omega (arith, b.single h, owners-push (under h) k c t o);
  room = omega (arith, places-push k c t o, b.room);
}
  where
    o : Ordered 0 t
    o = b.ordered

    l : Lawful (at k t)
    l = lawful_at k t b.lawful

    f : Request → Request
    f r = with_candidates (r.candidates ++ (c ∷ [])) r

-- ---- a law of each element of a list

pub each_append : {A : Type 0} (P : A → Type 0) (l m : List A) → Each P l → Each P m → Each P (l ++ m)
each_append P [] m a b = b
each_append P (v ∷ l) m a b = (a.0, each_append P l m a.1 b)

pub each_map : {A : Type 0} (P R : A → Type 0) (l : List A) → ((v : A) → P v → R v) → Each P l → Each R l
each_map P R [] f a = tt
each_map P R (v ∷ l) f a = (f v a.0, each_map P R l f a.1)

-- ---- the victims

pub greatest_of : (P : Entry → Type 0) (a : Entry) (l : List Entry) → P a → Each P l → P (greatest_from a l)
unfolding greatest_from
greatest_of P a [] p all = p
greatest_of P a (b ∷ l) p all = elim (test (after b a)) [ inl e ↦ rw e (greatest_of P b l all.0 all.1) | inr e ↦ rw e (greatest_of P a l p all.1) ]

record InRequest (r : Request) (cs : List Candidate) (v : Entry) : Type 0 where
  same : v.key ≡ r.key
  held : has v.candidate.connection cs ≡ true
  free : owner_is v.candidate.connection r.owner ≡ false

in_victims : (r : Request) (cs : List Candidate) → Each (InRequest r cs) (victims_in r cs)
unfolding victims_in has
in_victims r [] = tt
in_victims r (c ∷ cs) =
    elim (test (c.preferred || owner_is c.connection r.owner)) [
      | inl e ↦ rw e (more (in_victims r cs))
      | inr e ↦ rw e (record { same = refl; held = rw (eq-eqb c.connection c.connection refl); free = or_right c.preferred _ e }, more (in_victims r cs))
    ]
  where
    more : Each (InRequest r cs) (victims_in r cs) → Each (InRequest r (c ∷ cs)) (victims_in r cs)
    more = each_map (InRequest r cs) _ (victims_in r cs) (λ v x. record { same = x.same; held = or_true (eqb c.connection v.candidate.connection) _ x.held; free = x.free })

pub record Victim (p : Key → Bool) (lo : ℕ) (t : Table) (v : Entry) : Type 0 where
  pub from : lo ≤ place v.key
  pub small : v.key.hash < top
  pub passes : p v.key ≡ true
  pub held : has v.candidate.connection (at v.key t).candidates ≡ true
  pub free : owner_is v.candidate.connection (at v.key t).owner ≡ false

at_here : (k : Key) (r : Request) (t : Table) → k ≡ r.key → at k (r ∷ t) ≡ r
unfolding at
at_here k r t e = rw (eq-eqb (place k) (place r.key) (ap place e))

at_there : (k : Key) (r : Request) (t : Table) → place r.key < place k → at k (r ∷ t) ≡ at k t
unfolding at
at_there k r t h = rw (ne_eqb (place k) (place r.key) (λ e. omega arith))

pub victims_all : (p : Key → Bool) (lo : ℕ) (t : Table) → Ordered lo t → Each (Victim p lo t) (victims p t)
unfolding victims
victims_all p lo [] o = tt
victims_all p lo (r ∷ t) o =
    each_append _ (if p r.key then victims_in r r.candidates else []) (victims p t) (here (p r.key) refl) (each_map _ _ (victims p t) there (victims_all p (suc (place r.key)) t o.2))
  where
    here' : p r.key ≡ true → (v : Entry) → InRequest r r.candidates v → Victim p lo (r ∷ t) v
    here' e v x = record {
      from = rw x.same o.0;
      small = rw x.same o.1;
      passes = rw x.same e;
      held = rw (at_here v.key r t x.same) x.held;
      free = rw (at_here v.key r t x.same) x.free;
    }

    here : (b : Bool) → p r.key ≡ b → Each (Victim p lo (r ∷ t)) (if b then victims_in r r.candidates else [])
    here true e = each_map _ _ (victims_in r r.candidates) (here' e) (in_victims r r.candidates)
    here false e = tt

    there : (v : Entry) → Victim p (suc (place r.key)) t v → Victim p lo (r ∷ t) v
    there v x = record {
      from = omega (arith, o.0, x.from);
      small = x.small;
      passes = x.passes;
      held = rw (at_there v.key r t x.from) x.held;
      free = rw (at_there v.key r t x.from) x.free;
    }

-- ---- announce

-- the bounds hold, no owner is new, and no place is taken
pub record Follows (m : Limits) (Q : ℕ) (t t' : Table) : Type 0 where
  pub bounded : Bounded m Q t'
  pub no-owner : (q : Key → ℕ → Bool) → owners q t' ≤ owners q t
  pub no_place : places_held t' ≤ places_held t

follows_same : {m : Limits} {Q : ℕ} {t : Table} → Bounded m Q t → Follows m Q t t
follows_same b = record { bounded = b; no-owner = λ q. omega arith; no_place = omega arith }

-- evicting makes room where the victim passes a test that counts at the new announcement's key
follows-evicting : {m : Limits} {Q : ℕ} {t : Table} {k : Key} {c : Candidate} (p : Key → Bool) → k.hash < top → Fits k c → Bounded m Q t
    → count (by c.connection) t < max_peer_announcements → count (by_under c.connection k.hash) t < 1
    → ((j : Key) → p j ≡ true → count (under k.hash) t < m.alternates + one (eqb j.hash k.hash))
    → Follows m Q t (evicting (greatest (victims p t)) k c t).table
unfolding evicting greatest
follows-evicting {m} {Q} {t} {k} {c} p s a b l₂ l₄ room = go (victims p t) (victims_all p 0 t b.ordered)
  where
    with_victim : (v : Entry) → Victim p 0 t v → Follows m Q t (push k c (cut v.key v.candidate.connection t))
    with_victim v x = record {
      bounded = bounded-push s a b' (omega (arith, less any, b.fits)) (omega (arith, less (by c.connection))) (omega (arith, less (under k.hash), room v.key x.passes))
          (omega (arith, less (by_under c.connection k.hash)));
      no-owner = λ q. omega (arith, owners-push q k c (cut v.key v.candidate.connection t) b'.ordered, owners-cut q v.key v.candidate.connection t b.ordered);
      no_place = omega (arith, places-push k c (cut v.key v.candidate.connection t) b'.ordered, places-cut v.key v.candidate.connection t b.ordered);
    }
      where
        b' : Bounded m Q (cut v.key v.candidate.connection t)
        b' = bounded-cut v.key v.candidate.connection x.small x.free b

        less : (q : Key → ℕ → Bool) → count q (cut v.key v.candidate.connection t) + one (q v.key v.candidate.connection) ≤ count q t
        less q = count_cut q v.key v.candidate.connection t x.small b.ordered x.held

    go : (l : List Entry) → Each (Victim p 0 t) l → Follows m Q t (evicting (greatest l) k c t).table
    go [] a = follows_same b
    go (v ∷ l) a = with_victim (greatest_from v l) (greatest_of (Victim p 0 t) v l a.0 a.1)

pub follows-announce_at : {m : Limits} {Q : ℕ} {t : Table} (k : Key) (c : Candidate) → k.hash < top → Fits k c → Bounded m Q t → Follows m Q t (announce_at m k c t).table
unfolding announce_at
follows-announce_at {m} {Q} {t} k c s a b =
    by_test P (is_candidate c.connection k.hash t) (λ e. follows_same b) λ e₁.
    by_test P _ (λ e. follows_same b) λ e₂.
    by_test P (leb m.alternates (held_at k.hash t))
    (λ e₃. by_test P c.preferred (λ e. follows-evicting (at_hash k.hash) s a b (leb-false _ _ e₂) (omega (arith, ltb-false)) (λ j e. rw e (omega (arith, b.alternates k.hash))))
    (λ e. follows_same b)) λ e₃.
    by_test P (leb m.announcements (held t))
    (λ e₄. by_test P c.preferred (λ e. follows-evicting anywhere s a b (leb-false _ _ e₂) (omega (arith, ltb-false)) (λ j e. omega (arith, leb-false))) (λ e. follows_same b)) λ e₄.
    record {
      bounded = bounded-push s a b (leb-false _ _ e₄) (leb-false _ _ e₂) (leb-false _ _ e₃) (omega (arith, ltb-false));
      no-owner = λ q. owners-push q k c t b.ordered;
      no_place = places-push k c t b.ordered;
    }
  where
    P : Answer → Type 0
    P x = Follows m Q t x.table

pub bounded-announce_at : {m : Limits} {Q : ℕ} {t : Table} (k : Key) (c : Candidate) → k.hash < top → Fits k c → Bounded m Q t → Bounded m Q (announce_at m k c t).table
bounded-announce_at k c s a b = (follows-announce_at k c s a b).bounded

-- ---- a candidate whose item may have a key

key_fits : (x : Option Kind) (h : ℕ) → h < top → CursorFits (key_as x h)
key_fits none h p = tt
key_fits (some k) h p = p

pub item-fits : (i : Item) → i.hash < top → CursorFits (key_of i)
item-fits i p = key_fits (kind_of i.kind) i.hash p

pub fits-typed : {k : Key} {c : Candidate} → key_of c.item ≡ some k → 0 < c.connection → CandidateTyped c → Fits k c
fits-typed e p w = record { item = e; positive = p; connection = w.connection; ready = w.ready; priority = w.priority }

bounded-announce_keyed : {m : Limits} {Q : ℕ} {t : Table} (o : Option Key) (c : Candidate) → key_of c.item ≡ o → CursorFits o → 0 < c.connection → CandidateTyped c → Bounded m Q t
    → Bounded m Q (announce_keyed m o c t).table
unfolding announce_keyed
bounded-announce_keyed none c e s p w b = b
bounded-announce_keyed (some k) c e s p w b = bounded-announce_at k c s (fits-typed e p w) b

pub bounded-announce : {m : Limits} {Q : ℕ} {t : Table} (c : Candidate) → 0 < c.connection → CandidateTyped c → Bounded m Q t → Bounded m Q (announce m c t).table
bounded-announce c p w b = bounded-announce_keyed (key_of c.item) c refl (item-fits c.item w.hash) p w b
