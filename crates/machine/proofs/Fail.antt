-- request_parent, failed, unclaim, forget and announce_parents keep the bounds.
use Rattle.std.specs.Prelude.{if◌then◌else◌}
use Prim.Native.Nat.{ℕ, suc, ◌+◌, ◌≤◌, ◌<◌}
use mathlib.Core.Path.{◌≡◌, refl, sym, ap, ◌∙◌}
use mathlib.Core.Logic.{inl, inr}
use mathlib.Core.Bool.{Bool, true, false, ◌&&◌, ◌||◌}
use mathlib.Core.List.{List, [], ◌∷◌, map}
use mathlib.Core.Option.{Option, none, some}
use native.Mathlib.Omega.{arith}
use native.Mathlib.Nat.{min-le_left}
use lib.Dec.{eqb}
use lib.ListN.{length}
use borrow.Author.Tests.{eqb-true}
use Rattle.ident.specs.declared.Kind.TheVariants.{Txid}
use Rattle.ident.specs.Number.{top, Key, other, txid, key_of}
use Rattle.machine.specs.Limits.{Limits, max_parents, word}
use Rattle.machine.specs.State.{Candidate, Owner, Request, Table, Answer, blank, with_candidates, unowned, marked, ready_at, adopting, owner_is, is_some}
use Rattle.machine.specs.Table.{at, count_in, has}
use Rattle.machine.specs.Announce.{without, adopt, adopted, request_parent_at, request_parent_keyed, request_parent}
use Rattle.machine.specs.Fail.{releasable, left, leaves, failed, unclaim, forget, but, dedup, parent_of, mark, parents_from, announce_parents, parents_for}
use Rattle.machine.specs.Claim.{elem}
use Rattle.machine.specs.Sound.{Hashes, NoRepeat, CursorFits, Fits, AllFit, OwnerFits, ParentsFit, Lawful, Bounded}
use Rattle.machine.specs.Typed.{CandidateTyped}
use Rattle.machine.proofs.Tests.{test, by_test, never}
use Rattle.machine.proofs.Table.{at_key}
use Rattle.machine.proofs.Change.{ShrinksAt, bounded_at, Shrinks, bounded-change, owner-without, without_fewer, fit-without}
use Rattle.machine.proofs.Announce.{item-fits, fits-typed, bounded-announce_at}

-- ---- the changes that shrink

pub count_in-map : (p : ℕ → Bool) (now : ℕ) (cs : List Candidate) → count_in p (map (ready_at now) cs) ≡ count_in p cs
unfolding count_in
count_in-map p now [] = refl
count_in-map p now (c ∷ cs) = rw (count_in-map p now cs)

pub has-map : (n now : ℕ) (cs : List Candidate) → has n (map (ready_at now) cs) ≡ has n cs
unfolding has
has-map n now [] = refl
has-map n now (c ∷ cs) = rw (has-map n now cs)

count_in-adopt : (p : ℕ → Bool) (b : Bool) (c : Candidate) (cs : List Candidate) → count_in p (adopt b c cs) ≡ count_in p cs
unfolding count_in adopt
count_in-adopt p b c [] = refl
count_in-adopt p b c (d ∷ cs) = elim (test (eqb d.connection c.connection)) [ inl e ↦ rw e | inr e ↦ rw (e, count_in-adopt p b c cs) ]

pub has-adopt : (n : ℕ) (b : Bool) (c : Candidate) (cs : List Candidate) → has n (adopt b c cs) ≡ has n cs
unfolding has adopt
has-adopt n b c [] = refl
has-adopt n b c (d ∷ cs) = elim (test (eqb d.connection c.connection)) [ inl e ↦ rw e | inr e ↦ rw (e, has-adopt n b c cs) ]

-- candidates with the same connections hold the same owners
owner_same : (o : Option Owner) (cs ds : List Candidate) → ((n : ℕ) → has n ds ≡ has n cs) → OwnerFits o cs → OwnerFits o ds
owner_same none cs ds e h = tt
owner_same (some o) cs ds e h = (e o.connection ∙ h.0, h.1)

fits-adopting : (b : Bool) (c d : Candidate) (k : Key) → (b ≡ true → key_of c.item ≡ some k) → Fits k d → Fits k (adopting b c d)
fits-adopting b c d k f h = record {
  item = by_test (λ i. key_of i ≡ some k) b f (λ q. h.item);
  positive = h.positive;
  connection = h.connection;
  ready = omega (arith, min-le_left d.ready c.ready, h.ready);
  priority = omega (arith, min-le_left d.priority c.priority, h.priority);
}

fit-adopt : (b : Bool) (c : Candidate) (k : Key) (cs : List Candidate) → (b ≡ true → key_of c.item ≡ some k) → AllFit k cs → AllFit k (adopt b c cs)
unfolding adopt
fit-adopt b c k [] f h = tt
fit-adopt b c k (d ∷ cs) f h =
    elim (test (eqb d.connection c.connection)) [
      | inl e ↦ rw e (fits-adopting b c d k f h.0, h.1)
      | inr e ↦ rw e (h.0, fit-adopt b c k cs f h.1)
    ]

pub fit-map : (now : ℕ) (k : Key) (cs : List Candidate) → now < word → AllFit k cs → AllFit k (map (ready_at now) cs)
fit-map now k [] w h = tt
fit-map now k (c ∷ cs) w h = (record { item = h.0.item; positive = h.0.positive; connection = h.0.connection; ready = w; priority = h.0.priority }, fit-map now k cs w h.1)

pub parents_none : ParentsFit []
parents_none = record { hashes = tt; distinct = tt; few = omega arith }

shrinks_adopt : (b : Bool) (c : Candidate) (r : Request) → (b ≡ true → key_of c.item ≡ some r.key) → ShrinksAt (λ r. with_candidates (adopt b c r.candidates) r) r
shrinks_adopt b c r f = record {
  fewer = λ p. omega (arith, count_in-adopt p b c r.candidates);
  less = λ p. omega arith;
  place = omega arith;
  lawful = λ h. record {
    candidates = fit-adopt b c r.key r.candidates f h.candidates;
    owner = owner_same r.owner r.candidates _ (λ n. has-adopt n b c r.candidates) h.owner;
    packed = h.packed;
    parents = h.parents;
    mark = h.mark;
  };
}

pub shrinks_unowned : Shrinks unowned
shrinks_unowned = record {
  key = λ r. refl;
  at_each = λ r. record {
    fewer = λ p. omega arith;
    less = λ p. omega arith;
    place = omega arith;
    lawful = λ h. record { candidates = h.candidates; owner = tt; packed = refl; parents = parents_none; mark = h.mark };
  };
}

shrinks_marked : (r : Request) → r.key.kind ≡ Txid → ShrinksAt marked r
shrinks_marked r e = record {
  fewer = λ p. omega arith;
  less = λ p. omega arith;
  place = omega arith;
  lawful = λ h. record { candidates = h.candidates; owner = h.owner; packed = h.packed; parents = h.parents; mark = e };
}

shrinks_blank : Shrinks (λ r. blank r.key)
unfolding count_in
shrinks_blank = record {
  key = λ r. refl;
  at_each = λ r. record {
    fewer = λ p. omega arith;
    less = λ p. omega arith;
    place = omega arith;
    lawful = λ h. record { candidates = tt; owner = tt; packed = refl; parents = parents_none; mark = tt };
  };
}

left_at : (n now : ℕ) (r : Request) → now < word → ShrinksAt (left n now) r
unfolding left
left_at n now r w = record {
  fewer = λ p. omega (arith, count_in-map p now (without n r.candidates), without_fewer p n r.candidates);
  less = λ p. elim (test (owner_is n r.owner)) [ inl e ↦ rw e (omega arith) | inr e ↦ rw e (omega arith) ];
  place = elim (test (owner_is n r.owner)) [ inl e ↦ rw e (omega arith) | inr e ↦ rw e (omega arith) ];
  lawful = λ h. elim (test (owner_is n r.owner)) [
    | inl e ↦ rw e (record { candidates = fit h; owner = tt; packed = refl; parents = parents_none; mark = h.mark })
    | inr e ↦ rw e (record {
      candidates = fit h;
      owner = owner_same r.owner (without n r.candidates) _ (λ i. has-map i now (without n r.candidates)) (owner-without n r.owner
          r.candidates e h.owner);
      packed = h.packed;
      parents = h.parents;
      mark = h.mark;
    })
  ];
}
  where
    fit : Lawful r → AllFit r.key (map (ready_at now) (without n r.candidates))
    fit h = fit-map now r.key (without n r.candidates) w (fit-without n r.key r.candidates h.candidates)

pub shrinks_left : (n now : ℕ) → now < word → Shrinks (left n now)
unfolding left
shrinks_left n now w = record {
  key = λ r. by_test (λ (q : Request). q.key ≡ r.key) (owner_is n r.owner) (λ e. refl) (λ e. refl);
  at_each = λ r. left_at n now r w;
}

-- ---- the calls

pub bounded-leaves : {m : Limits} {Q : ℕ} {t : Table} (k : Key) (n now : ℕ) → k.hash < top → now < word → Bounded m Q t → Bounded m Q (leaves k n now t)
bounded-leaves k n now s w b = bounded-change (other k) (left n now) s (shrinks_left n now w) (bounded-change k (left n now) s (shrinks_left n now w) b)

pub bounded-failed : {m : Limits} {Q : ℕ} {t : Table} (k : Key) (n now : ℕ) → k.hash < top → now < word → Bounded m Q t → Bounded m Q (failed k n now t).table
unfolding failed
bounded-failed {m} {Q} {t} k n now s w b = by_test (λ (a : Answer). Bounded m Q a.table) (releasable n (at k t)) (λ e. bounded-leaves k n now s w b) (λ e. b)

pub bounded-unclaim : {m : Limits} {Q : ℕ} {t : Table} (k : Key) (n : ℕ) → k.hash < top → Bounded m Q t → Bounded m Q (unclaim k n t)
unfolding unclaim
bounded-unclaim {m} {Q} {t} k n s b = by_test (Bounded m Q) (releasable n (at k t)) (λ e. bounded-change k unowned s shrinks_unowned b) (λ e. b)

pub bounded-forget : {m : Limits} {Q : ℕ} {t : Table} (k : Key) → k.hash < top → Bounded m Q t → Bounded m Q (forget k t)
unfolding forget
bounded-forget k s b = bounded-change k _ s shrinks_blank b

pub bounded-adopted : {m : Limits} {Q : ℕ} {t : Table} (b : Bool) (k : Key) (c : Candidate) → k.hash < top → (b ≡ true → key_of c.item ≡ some k) → Bounded m Q t → Bounded m Q (adopted b k c t)
bounded-adopted {m} {Q} {t} b k c s f g = bounded_at k _ s (λ r. refl) (shrinks_adopt b c (at k t) (λ q. rw (at_key k 0 t s g.ordered) (f q))) g

pub bounded-parent_at : {m : Limits} {Q : ℕ} {t : Table} (k : Key) (c : Candidate) → k.hash < top → Fits k c → Bounded m Q t → Bounded m Q (request_parent_at m k c t).table
unfolding request_parent_at
bounded-parent_at {m} {Q} {t} k c s a b =
    by_test P (has c.connection (at k t).candidates) (λ e. bounded-adopted _ k c s (λ q. a.item) b) λ e.
    by_test P (has c.connection (at (other k) t).candidates) (λ e. bounded-adopted _ (other k) c s (λ q. never q) b) λ e.
    bounded-announce_at k c s a b
  where
    P : Answer → Type 0
    P x = Bounded m Q x.table

bounded_parent_keyed : {m : Limits} {Q : ℕ} {t : Table} (o : Option Key) (c : Candidate) → key_of c.item ≡ o → CursorFits o → 0 < c.connection → CandidateTyped c → Bounded m Q t
    → Bounded m Q (request_parent_keyed m o c t).table
unfolding request_parent_keyed
bounded_parent_keyed none c e s p w b = b
bounded_parent_keyed (some k) c e s p w b = bounded-parent_at k c s (fits-typed e p w) b

pub bounded-request_parent : {m : Limits} {Q : ℕ} {t : Table} (c : Candidate) → 0 < c.connection → CandidateTyped c → Bounded m Q t → Bounded m Q (request_parent m c t).table
bounded-request_parent c p w b = bounded_parent_keyed (key_of c.item) c refl (item-fits c.item w.hash) p w b

-- ---- announce_parents

-- what parents are announced for: a connection that is not 0, of 64 bits
pub record Peer (n : ℕ) : Type 0 where
  pub positive : 0 < n
  pub small : n < word

-- parents that may be announced: hashes, at most 100
pub record FewHashes (hs : List ℕ) : Type 0 where
  pub hashes : Hashes hs
  pub few : length hs ≤ max_parents

hashes-but : (h : ℕ) (hs : List ℕ) → Hashes hs → Hashes (but h hs)
unfolding but
hashes-but h [] a = tt
hashes-but h (x ∷ hs) a = elim (test (eqb x h)) [ inl e ↦ rw e (hashes-but h hs a.1) | inr e ↦ rw e (a.0, hashes-but h hs a.1) ]

hashes-dedup : (hs : List ℕ) → Hashes hs → Hashes (dedup hs)
unfolding dedup
hashes-dedup [] a = tt
hashes-dedup (h ∷ hs) a = (a.0, hashes-but h (dedup hs) (hashes-dedup hs a.1))

length-but : (h : ℕ) (hs : List ℕ) → length (but h hs) ≤ length hs
unfolding but
length-but h [] = omega arith
length-but h (x ∷ hs) = elim (test (eqb x h)) [ inl e ↦ rw e (omega (arith, length-but h hs)) | inr e ↦ rw e (omega (arith, length-but h hs)) ]

pub length-dedup : (hs : List ℕ) → length (dedup hs) ≤ length hs
unfolding dedup
length-dedup [] = omega arith
length-dedup (h ∷ hs) = omega (arith, length-but h (dedup hs), length-dedup hs)

-- what but leaves: not h itself, and nothing that was not there
but-gone : (h : ℕ) (hs : List ℕ) → elem h (but h hs) ≡ false
unfolding but elem
but-gone h [] = refl
but-gone h (x ∷ hs) = elim (test (eqb x h)) [ inl e ↦ rw e (but-gone h hs) | inr e ↦ rw (e, e) (but-gone h hs) ]

but_none : (g h : ℕ) (hs : List ℕ) → elem g hs ≡ false → elem g (but h hs) ≡ false
unfolding but elem
but_none g h [] a = refl
but_none g h (x ∷ hs) a =
    elim (test (eqb x g)) [
      | inl d ↦ never (sym (rw d at a))
      | inr d ↦ elim (test (eqb x h)) [ inl e ↦ rw e (but_none g h hs (rw d at a)) | inr e ↦ rw (e, d) (but_none g h hs (rw d at a)) ]
    ]

pub distinct-but : (h : ℕ) (hs : List ℕ) → NoRepeat hs → NoRepeat (but h hs)
unfolding but
distinct-but h [] a = tt
distinct-but h (x ∷ hs) a = elim (test (eqb x h)) [ inl e ↦ rw e (distinct-but h hs a.1) | inr e ↦ rw e (but_none x h hs a.0, distinct-but h hs a.1) ]

distinct-dedup : (hs : List ℕ) → NoRepeat (dedup hs)
unfolding dedup
distinct-dedup [] = tt
distinct-dedup (h ∷ hs) = (but-gone h (dedup hs), distinct-but h (dedup hs) (distinct-dedup hs))

pub parents-dedup : (hs : List ℕ) → FewHashes hs → ParentsFit (dedup hs)
parents-dedup hs a = record { hashes = hashes-dedup hs a.hashes; distinct = distinct-dedup hs; few = omega (arith, length-dedup hs, a.few) }

fits-parent : (n now h i : ℕ) → Peer n → now < word → i < word → Fits (txid h) (parent_of n now h i)
fits-parent n now h i p w v = record { item = refl; positive = p.positive; connection = p.small; ready = w; priority = v }

pub bounded-mark : {m : Limits} {Q : ℕ} {t : Table} (h : ℕ) → h < top → Bounded m Q t → Bounded m Q (mark (txid h) t)
bounded-mark {m} {Q} {t} h s b = bounded_at (txid h) marked s (λ r. refl) (shrinks_marked (at (txid h) t) (ap (λ (k : Key). k.kind) (at_key (txid h) 0 t s b.ordered))) b

bounded-parents_from : {m : Limits} {Q : ℕ} {t : Table} (n now i : ℕ) (hs : List ℕ) → Peer n → now < word → Hashes hs → i + length hs ≤ word → Bounded m Q t
    → Bounded m Q (parents_from m n now i hs t).table
unfolding parents_from
bounded-parents_from n now i [] p w a l b = b
bounded-parents_from {m} {Q} {t} n now i (h ∷ hs) p w a l b =
    let x = request_parent_at m (txid h) (parent_of n now h i) t in
    let b' = bounded-parent_at (txid h) (parent_of n now h i) a.0 (fits-parent n now h i p w (omega arith)) b in
    bounded-parents_from {t = if x.reply then mark (txid h) x.table else x.table} n now (suc i) hs p w a.1 (omega arith) (by_test (Bounded m Q) x.reply (λ e. bounded-mark h a.0 b') (λ e. b'))

pub bounded-parents : {m : Limits} {Q : ℕ} {t : Table} (n now : ℕ) (hs : List ℕ) → Peer n → now < word → FewHashes hs → Bounded m Q t → Bounded m Q (announce_parents m n now hs t).table
unfolding announce_parents
bounded-parents n now hs p w a b = let f = parents-dedup hs a in bounded-parents_from n now 0 (dedup hs) p w f.hashes (omega (arith, f.few)) b

-- ---- the parents of a request

pub few_for : (n : ℕ) (r : Request) → Lawful r → FewHashes (parents_for n r)
few_for n r h = by_test FewHashes (owner_is n r.owner && (r.info || is_some r.«package»)) (λ e. record { hashes = h.parents.hashes; few = h.parents.few })
    (λ e. record { hashes = tt; few = omega arith })

-- a candidate's connection is not 0, and of 64 bits: and so an owner's
peer_in : (n : ℕ) (k : Key) (cs : List Candidate) → AllFit k cs → has n cs ≡ true → Peer n
unfolding has
peer_in n k [] f h = never h
peer_in n k (c ∷ cs) f h =
    elim (test (eqb c.connection n)) [
      | inl e ↦ let d = eqb-true c.connection n e in record { positive = omega (arith, f.0.positive); small = omega (arith, f.0.connection) }
      | inr e ↦ peer_in n k cs f.1 (rw e at h)
    ]

peer-owner : (n : ℕ) (k : Key) (o : Option Owner) (cs : List Candidate) → AllFit k cs → OwnerFits o cs → owner_is n o ≡ true → Peer n
peer-owner n k none cs f h e = never e
peer-owner n k (some o) cs f h e = rw (eqb-true o.connection n e) at (peer_in o.connection k cs f h.0)

pub owner-peer : (n : ℕ) (r : Request) → Lawful r → owner_is n r.owner ≡ true → Peer n
owner-peer n r l e = peer-owner n r.key r.owner r.candidates l.candidates l.owner e
