-- A connection that leaves comes to no key behind the one it is dropped at: parents are announced under Txid keys, which stand before
-- every key that has parents. (It may come to a Txid key: the parents of an Enqueued package are announced for its owner too.)
use Prim.Native.Nat.{ℕ, suc, ◌+◌, ◌≤◌, ◌<◌}
use mathlib.Core.Path.{◌≡◌, refl, sym, ap, subst, ◌∙◌}
use mathlib.Core.Logic.{inl, inr}
use mathlib.Core.Bool.{Bool, true, false, ◌&&◌, ◌||◌, and-false as and_none}
use mathlib.Core.List.{List, [], ◌∷◌}
use mathlib.Core.Option.{Option, none, some}
use native.Mathlib.Omega.{arith}
use lib.Dec.{leb, eqb}
use lib.ListN.{length}
use Rattle.ident.specs.declared.Kind.{Kind}
use Rattle.ident.specs.declared.Kind.TheVariants.{Txid, Wtxid}
use Rattle.std.specs.Prelude.{if◌then◌else◌}
use Rattle.ident.specs.Number.{Key, place, other, top, txid, wtxid}
use Rattle.machine.specs.Limits.{Limits, max_peer_announcements, word}
use Rattle.machine.specs.State.{Candidate, Owner, Package, Request, Table, Entry, Answer, marked, unowned, owner_is, is_some}
use Rattle.machine.specs.Table.{at, change, has, held, held_by, held_at, is_candidate}
use Rattle.machine.specs.Announce.{without, cut, victims, greatest, greatest_from, evicting, at_hash, anywhere, announce_at, request_parent_at}
use Rattle.machine.specs.Fail.{Listed, mark, left, releasable, failed, dedup, parent_of, parents_from, announce_parents, parents_for}
use Rattle.machine.specs.Leave.{is_empty, announce_each, drop_at_key}
use Rattle.machine.specs.Sound.{Hashes, AllFit, Packed, Ordered, All, Lawful, Bounded}
use Rattle.machine.specs.Typed.{Each}
use Rattle.machine.proofs.Tests.{test, by_test, never}
use Rattle.machine.proofs.Table.{ordered-change, at_key, lawful_at}
use Rattle.machine.proofs.Announce.{Victim, victims_all, greatest_of}
use Rattle.machine.proofs.Fail.{Peer, FewHashes, parents-dedup, bounded-parent_at, bounded-mark, bounded-parents, bounded-failed, few_for, has-map as has-ready, has-adopt}
use Rattle.machine.proofs.At.{KeepsKey, kept, at_other}
use Rattle.machine.proofs.Alone.{at_either}
use Rattle.failing.specs.Changes.{readied}
use Rattle.handing.specs.Hands.{eased}

-- from the place lo on, n is a candidate under no key where it was none
pub record Fewer (n lo : ℕ) (t t' : Table) : Type 0 where
  pub had : (j : Key) → j.hash < top → lo ≤ place j → has n (at j t').candidates ≡ true → has n (at j t).candidates ≡ true

module _ {n lo : ℕ} where
  fewer_same : {t : Table} → Fewer n lo t t
  fewer_same = record { had = λ j s l h. h }

  fewer_then : {t t' t'' : Table} → Fewer n lo t t' → Fewer n lo t' t'' → Fewer n lo t t''
  fewer_then a b = record { had = λ j s l h. a.had j s l (b.had j s l h) }

nobody : (n : ℕ) {X : Type 0} → has n [] ≡ true → X
unfolding has
nobody n h = never h

has_kept : (n : ℕ) (k : Key) (r : Request) (cs : List Candidate) → r.candidates ≡ cs → has n (kept k r cs).candidates ≡ true → has n r.candidates ≡ true
has_kept n k r [] e h = nobody n h
has_kept n k r (c ∷ cs) e h = h

module _ (n lo : ℕ) where
  fewer-change : (k : Key) (f : Request → Request) (t : Table) → k.hash < top → KeepsKey f → Ordered 0 t → (has n (f (at k t)).candidates ≡ true → has n (at k t).candidates ≡ true)
      → Fewer n lo t (change k f t)
  fewer-change k f t s ff o e = record {
    had = λ j z l. at_either (λ i r. has n r.candidates ≡ true → has n (at i t).candidates ≡ true) k f t s ff o (λ h. e (has_kept n k (f (at k t)) (f (at k t)).candidates refl h))
        (λ i u h. h) j z;
  }

  -- what happens under a Txid key
  fewer-txid : (h : ℕ) (f : Request → Request) (t : Table) → top ≤ lo → h < top → KeepsKey f → Fewer n lo t (change (txid h) f t)
  fewer-txid h f t b s ff = record { had = λ j z l q. ap (λ (r : Request). has n r.candidates) (sym (at_other j (txid h) f t ff (λ e. omega arith))) ∙ q }

-- ---- candidates that go, adopt, get a ready time

has_less : (n x : ℕ) (cs : List Candidate) → has n (without x cs) ≡ true → has n cs ≡ true
unfolding has without
has_less n x [] h = h
has_less n x (c ∷ cs) h =
    elim (test (eqb c.connection n)) [
      | inl e ↦ rw e
      | inr e ↦ rw e (elim (test (eqb c.connection x)) [ inl d ↦ rw d at h | inr d ↦ has_less n x cs (rw e at (rw d at h)) ])
    ]

module _ (n lo : ℕ) where
  pub fewer-cut : (k : Key) (x : ℕ) (t : Table) → k.hash < top → Ordered 0 t → Fewer n lo t (cut k x t)
  fewer-cut k x t s o = fewer-change n lo k _ t s (λ r. refl) o (has_less n x (at k t).candidates)

  fewer_left : (k : Key) (x now : ℕ) (t : Table) → k.hash < top → Ordered 0 t → Fewer n lo t (change k (left x now) t)
  unfolding left
  fewer_left k x now t s o =
      fewer-change n lo k (left x now) t s (λ r. by_test (λ (q : Request). q.key ≡ r.key) (owner_is x r.owner) (λ e. refl) (λ e. refl)) o
      (λ h. has_less n x (at k t).candidates (sym (has-ready n now (without x (at k t).candidates)) ∙ h))

-- ---- announce under a Txid key

module _ (n lo : ℕ) (b : top ≤ lo) where
  fewer-evicting : (p : Key → Bool) (h : ℕ) (c : Candidate) (t : Table) → h < top → Ordered 0 t → Fewer n lo t (evicting (greatest (victims p t)) (txid h) c t).table
  unfolding evicting greatest
  fewer-evicting p h c t s o = go (victims p t) (victims_all p 0 t o)
    where
      go : (l : List Entry) → Each (Victim p 0 t) l → Fewer n lo t (evicting (greatest l) (txid h) c t).table
      go [] a = fewer_same
      go (v ∷ l) a =
          let x = greatest_of (Victim p 0 t) v l a.0 a.1 in
          let w = greatest_from v l in
          fewer_then (fewer-cut n lo w.key w.candidate.connection t x.small o) (fewer-txid n lo h _ _ b s (λ r. refl))

  fewer-announce_at : (m : Limits) (h : ℕ) (c : Candidate) (t : Table) → h < top → Ordered 0 t → Fewer n lo t (announce_at m (txid h) c t).table
  unfolding announce_at
  fewer-announce_at m h c t s o =
      by_test P (is_candidate c.connection h t) (λ e. fewer_same) λ e₁.
      by_test P (leb max_peer_announcements (held_by c.connection t)) (λ e. fewer_same) λ e₂.
      by_test P (leb m.alternates (held_at h t)) (λ e₃. by_test P c.preferred (λ e. fewer-evicting (at_hash h) h c t s o) (λ e. fewer_same)) λ e₃.
      by_test P (leb m.announcements (held t)) (λ e₄. by_test P c.preferred (λ e. fewer-evicting anywhere h c t s o) (λ e. fewer_same)) λ e₄.
      fewer-txid n lo h _ t b s (λ r. refl)
    where
      P : Answer → Type 0
      P x = Fewer n lo t x.table

  fewer-parent_at : (m : Limits) (h : ℕ) (c : Candidate) (t : Table) → h < top → Ordered 0 t → Fewer n lo t (request_parent_at m (txid h) c t).table
  unfolding request_parent_at
  fewer-parent_at m h c t s o =
      by_test P (has c.connection (at (txid h) t).candidates) (λ e. fewer-txid n lo h _ t b s (λ r. refl)) λ e.
      by_test P (has c.connection (at (wtxid h) t).candidates) (λ e. fewer-change n lo (wtxid h) _ t s (λ r. refl) o (λ q. sym (has-adopt n false c (at (wtxid h) t).candidates) ∙ q)) λ e.
      fewer-announce_at m h c t s o
    where
      P : Answer → Type 0
      P x = Fewer n lo t x.table

  fewer-parents_from : {m : Limits} {Q : ℕ} {t : Table} (x now i : ℕ) (hs : List ℕ) → Peer x → now < word → Hashes hs → i + length hs ≤ word → Bounded m Q t
      → Fewer n lo t (parents_from m x now i hs t).table
  unfolding parents_from
  fewer-parents_from x now i [] p w a l d = fewer_same
  fewer-parents_from {m} {Q} {t} x now i (h ∷ hs) p w a l d =
      let c = parent_of x now h i in
      let r = request_parent_at m (txid h) c t in
      let d' = bounded-parent_at (txid h) c a.0 (record { item = refl; positive = p.positive; connection = p.small; ready = w; priority = omega arith }) d in
      let f = fewer-parent_at m h c t a.0 d.ordered in
      fewer_then (by_test (Fewer n lo t) r.reply (λ e. fewer_then f (fewer-txid n lo h marked r.table b a.0 (λ q. refl))) (λ e. f))
      (fewer-parents_from {t = if r.reply then mark (txid h) r.table else r.table} x now (suc i) hs p w a.1 (omega arith) (by_test (Bounded m Q) r.reply (λ e. bounded-mark h a.0 d') (λ e. d')))

  fewer-parents : {m : Limits} {Q : ℕ} {t : Table} (x now : ℕ) (hs : List ℕ) → Peer x → now < word → FewHashes hs → Bounded m Q t → Fewer n lo t (announce_parents m x now hs t).table
  unfolding announce_parents
  fewer-parents x now hs p w a d = let f = parents-dedup hs a in fewer-parents_from x now 0 (dedup hs) p w f.hashes (omega (arith, f.few)) d

  fewer-announce_each : {m : Limits} {Q : ℕ} {t : Table} (now : ℕ) (k : Key) (hs : List ℕ) (cs : List Candidate) → now < word → AllFit k cs → FewHashes hs → Bounded m Q t
      → Fewer n lo t (announce_each m now hs cs t).table
  unfolding announce_each
  fewer-announce_each now k hs [] w f a d = fewer_same
  fewer-announce_each {m} {Q} {t} now k hs (c ∷ cs) w f a d =
      let p : Peer c.connection = record { positive = f.0.positive; small = f.0.connection } in
      fewer_then (fewer-parents c.connection now hs p w a d) (fewer-announce_each {t = (announce_parents m c.connection now hs t).table} now k hs cs w f.1 a
      (bounded-parents c.connection now hs p w a d))

-- ---- the key that it is dropped at

fewer-failed : (n lo : ℕ) (k : Key) (x now : ℕ) (t : Table) → k.hash < top → Ordered 0 t → Fewer n lo t (failed k x now t).table
unfolding failed
fewer-failed n lo k x now t s o =
    by_test (λ (a : Answer). Fewer n lo t a.table) (releasable x (at k t))
    (λ e. fewer_then (fewer_left n lo k x now t s o) (fewer_left n lo (other k) x now (change k (left x now) t) s (unfold left in
    ordered-change k (left x now) 0 t (λ r. by_test (λ (q : Request). q.key ≡ r.key) (owner_is x r.owner) (λ e. refl) (λ e. refl)) (omega arith) s o)))
    (λ e. fewer_same)

-- a request under a Txid key has no parents
no-parents : (n h : ℕ) (t : Table) → h < top → Ordered 0 t → All Lawful t → parents_for n (at (txid h) t) ≡ []
no-parents n h t s o l =
    let r = lawful_at (txid h) t l in
    let k : (at (txid h) t).key.kind ≡ Txid = ap (λ (x : Key). x.kind) (at_key (txid h) 0 t s o) in
    go (at (txid h) t).key.kind (at (txid h) t).owner (at (txid h) t).info (at (txid h) t).«package» (at (txid h) t).parents k r.packed
  where
    differ : {X : Type 0} → Txid ≡ Wtxid → X
    differ e = never (ap (λ (k : Kind). elim k [ Txid ↦ false | Wtxid ↦ true ]) e)

    go : (k : Kind) (w : Option Owner) (i : Bool) (p : Option Package) (hs : List ℕ) → k ≡ Txid → Packed k w i p hs → (if owner_is n w && (i || is_some p) then hs else []) ≡ []
    go k w true (some p) hs e f = absurd f
    go k w true none hs e f = differ (sym e ∙ f.1)
    go k w false (some p) hs e f = differ (sym e ∙ f.1)
    go k w false none hs e f = rw (and_none (owner_is n w))

pub fewer-drop : {m : Limits} {Q : ℕ} {t : Table} (n now : ℕ) (k : Key) → k.hash < top → now < word → Bounded m Q t → Fewer n (suc (place k)) t (drop_at_key m n now k t).table
unfolding drop_at_key
fewer-drop {m} {Q} {t} n now k s w b =
    by_test (λ (x : Listed). Fewer n (suc (place k)) t x.table) (owner_is n (at k t).owner)
    (λ e. fewer_then (fewer-failed n (suc (place k)) k n now t s b.ordered) (go k.kind refl))
    (λ e. fewer-cut n (suc (place k)) k n t s b.ordered)
  where
    t' : Table
    t' = (failed k n now t).table

    go : (x : Kind) → k.kind ≡ x → Fewer n (suc (place k)) t' (announce_each m now (parents_for n (at k t)) (if is_empty (parents_for n (at k t)) then [] else (at k t').candidates) t').table
    go Wtxid e =
        let b' = bounded-failed k n now s w b in
        let far : top ≤ suc (place k) = rw e (omega arith) in
        fewer-announce_each n (suc (place k)) far now (at k t').key _ _ w
        (by_test (AllFit (at k t').key) (is_empty (parents_for n (at k t))) (λ d. tt) (λ d. (lawful_at k t' b'.lawful).candidates)) (few_for n (at k t) (lawful_at k t b.lawful)) b'
    go Txid e =
        let q : k ≡ txid k.hash = λ i. record { kind = e i; hash = k.hash } in
        let none : parents_for n (at k t) ≡ [] = ap (λ (x : Key). parents_for n (at x t)) q ∙ no-parents n k.hash t s b.ordered b.lawful in
        subst (λ (hs : List ℕ). Fewer n (suc (place k)) t' (announce_each m now hs (if is_empty hs then [] else (at k t').candidates) t').table) (sym none) (unfold announce_each in fewer_same)

-- ---- a request that is given back in place

pub fewer-eased : (n lo now : ℕ) (k : Key) (t : Table) → k.hash < top → Ordered 0 t → Fewer n lo t (eased n now k t)
fewer-eased n lo now k t s o =
    let o₁ = ordered-change k unowned 0 t (λ r. refl) (omega arith) s o in
    let o₂ = ordered-change k (readied now) 0 (change k unowned t) (λ r. refl) (omega arith) s o₁ in
    fewer_then (fewer-change n lo k unowned t s (λ r. refl) o (λ h. h))
    (fewer_then (fewer-change n lo k (readied now) (change k unowned t) s (λ r. refl) o₁ (λ h. sym (has-ready n now (at k (change k unowned t)).candidates) ∙ h))
    (fewer_left n lo (other k) n now (change k (readied now) (change k unowned t)) s o₂))
