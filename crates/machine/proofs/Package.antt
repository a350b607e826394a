-- The calls on packages keep the bounds.
use Prim.Native.Nat.{ℕ, ◌+◌, ◌≤◌, ◌<◌, suc}
use mathlib.Core.Path.{◌≡◌, refl, sym, ap, ◌∙◌}
use mathlib.Core.Bool.{Bool, true, false, not, ◌&&◌}
use mathlib.Core.List.{List, [], ◌∷◌, map}
use mathlib.Core.Option.{Option, none, some}
use native.Mathlib.Omega.{arith}
use native.Mathlib.Nat.{le_refl}
use lib.Dec.{ltb, leb, eqb}
use lib.ListN.{length}
use borrow.Author.Tests.{ltb-true, leb-true, eqb-true}
use Rattle.ident.specs.declared.Kind.{Kind}
use Rattle.ident.specs.declared.Kind.TheVariants.{Wtxid}
use Rattle.ident.specs.Number.{top, Key, other, wtxid, place}
use Rattle.machine.specs.Limits.{Limits, max_in_flight, max_wtxids, request_lifetime, word}
use Rattle.machine.specs.State.{Owner, Package, Request, Table, Answer, owner_is, is_some, is_none}
use Rattle.machine.specs.Table.{at, change, one, count_in, owner_in, place_in, places_held, has, by, under, owned_by, owned_at}
use Rattle.machine.specs.Announce.{announce_at}
use Rattle.machine.specs.Fail.{Listed}
use Rattle.machine.specs.Package.{soliciting, solicited, solicit, live_owner, packaged, may_claim, claim_package, same_list, awaits, may_begin}
use Rattle.machine.specs.Package.{begin_resolution, listed_after, failed_with_parents, info_owned, failed_package_info, enqueued_by, release_package}
use Rattle.machine.specs.Package.{awaits_hash, claim_key, some_keys, fail_each, failed_package_claims, package_keys, left_if_owned, tear_one, tear_each, teardown}
use Rattle.machine.specs.Sound.{Hashes, CursorFits, Fits, PackageFits, ParentsFit, Packed, Ordered, Lawful, Bounded}
use Rattle.machine.specs.Typed.{Each, KeyTyped}
use Rattle.machine.proofs.Tests.{by_test, never, and_left, and_right}
use Rattle.machine.proofs.Table.{lawful_at}
use Rattle.machine.proofs.Change.{ShrinksAt, bounded_at, Shrinks, bounded-change, Owns, bounded-own}
use Rattle.machine.proofs.Announce.{Follows, follows-announce_at}
use Rattle.machine.proofs.Fail.{Peer, FewHashes, parents-dedup, shrinks_left, bounded-leaves, bounded-failed, bounded-parents, few_for, owner-peer}

-- ---- solicit

packed-solicited : (k : Kind) (o : Option Owner) (w : Owner) (i : Bool) (p : Option Package) (hs hs' : List ℕ) → k ≡ Wtxid → o ≡ none → Packed k o i p hs → Packed k (some w) true p hs'
packed-solicited k o w true (some p) hs hs' e u h = h
packed-solicited k o w true none hs hs' e u h = (refl, e)
packed-solicited k o w false (some p) hs hs' e u h = never (sym (ap is_some u) ∙ h.0)
packed-solicited k o w false none hs hs' e u h = (refl, e)

place-solicited : (i : Bool) (p : Option Package) → place_in true p ≤ place_in i p + 1
place-solicited i none = omega arith
place-solicited i (some p) = omega arith

owns-solicited : (h n d : ℕ) (hs : List ℕ) → d < word → ParentsFit hs → Owns (wtxid h) n 1 (solicited n d hs)
owns-solicited h n d hs w a = record {
  key = λ r. refl;
  same = λ r. refl;
  owner = λ p r. omega arith;
  place = λ r. place-solicited r.info r.«package»;
  lawful = λ r e u h l. record {
    candidates = l.candidates;
    owner = (h, w);
    packed = packed-solicited r.key.kind r.owner (record { connection = n; deadline = d }) r.info r.«package» r.parents hs (ap (λ (k : Key). k.kind) e) u l.packed;
    parents = a;
    mark = l.mark;
  };
}

fits-soliciting : (n h now : ℕ) → Peer n → now < word → Fits (wtxid h) (soliciting n h now)
fits-soliciting n h now p w = record { item = refl; positive = p.positive; connection = p.small; ready = w; priority = omega arith }

pub bounded-solicit : {m : Limits} {Q : ℕ} {t : Table} (n h : ℕ) (hs : List ℕ) (now : ℕ) → Peer n → h < top → FewHashes hs → now + request_lifetime < word
    → ((solicit m n h hs now t).reply ≡ true → places_held t < Q) → Bounded m Q t → Bounded m Q (solicit m n h hs now t).table
unfolding solicit
bounded-solicit {m} {Q} {t} n h hs now p s a w room b =
    by_test P (eqb (owned_at h t) 0 && ltb (owned_by n t) max_in_flight)
    (λ e. by_test P (has n (at (wtxid h) t').candidates)
    (λ d. bounded-own (owns-solicited h n _ _ w (parents-dedup hs a)) s (omega (arith, f.no_place, room (rw (e, d)))) f.bounded d
    (omega (arith, f.no-owner (under h), eqb-true (owned_at h t) 0 (and_left (eqb (owned_at h t) 0) (ltb (owned_by n t) max_in_flight) e)))
    (omega (arith, f.no-owner (by n), ltb-true (owned_by n t) max_in_flight (and_right (eqb (owned_at h t) 0) (ltb (owned_by n t) max_in_flight) e))))
    (λ d. f.bounded))
    (λ e. b)
  where
    P : Answer → Type 0
    P x = Bounded m Q x.table

    t' : Table
    t' = (announce_at m (wtxid h) (soliciting n h now) t).table

    f : Follows m Q t t'
    f = follows-announce_at (wtxid h) (soliciting n h now) s (fits-soliciting n h now p (omega arith)) b

-- ---- claim and begin

-- a request that holds a place may change what holds it
packed_pack : (k : Kind) (o : Option Owner) (i : Bool) (p : Option Package) (q : Package) (hs : List ℕ) → PackageFits q → place_in i p ≡ 1 → Packed k o i p hs → Packed k o false (some q) hs
packed_pack k o true (some p) q hs f e h = absurd h
packed_pack k o true none q hs f e h = (h.0, h.1, f)
packed_pack k o false (some p) q hs f e h = (h.0, h.1, f)
packed_pack k o false none q hs f e h = absurd (omega arith)

place-info : (i : Bool) (p : Option Package) → i ≡ true → place_in i p ≡ 1
place-info i none e = ap one e
place-info i (some p) e = refl

place-awaits : (c : ℕ) (ws : List ℕ) (i : Bool) (p : Option Package) → awaits c ws p ≡ true → place_in i p ≡ 1
place-awaits c ws i none e = never e
place-awaits c ws i (some p) e = refl

shrinks_packaged : (p : Package) (r : Request) → PackageFits p → place_in r.info r.«package» ≡ 1 → ShrinksAt (packaged p) r
shrinks_packaged p r f e = record {
  fewer = λ q. omega arith;
  less = λ q. omega arith;
  place = omega arith;
  lawful = λ h. record {
    candidates = h.candidates;
    owner = h.owner;
    packed = packed_pack r.key.kind r.owner r.info r.«package» p r.parents f e h.packed;
    parents = h.parents;
    mark = h.mark;
  };
}

-- as many wtxids as a package may have
abbrev few_enough : List ℕ → Bool
few_enough ws = leb 1 (length ws) && leb (length ws) max_wtxids

claims-info : (n : ℕ) (ws : List ℕ) (now : ℕ) (r : Request) → may_claim n ws now r ≡ true → r.info ≡ true
claims-info n ws now r e = and_left r.info (is_none r.«package») (and_left (r.info && is_none r.«package») (live_owner n now r.owner) (and_right (few_enough ws) _ e))

claims-fit : (n c : ℕ) (ws : List ℕ) (now : ℕ) (r : Request) → c < top → Hashes ws → may_claim n ws now r ≡ true → PackageFits (record { combined = c; wtxids = ws; enqueued = false })
claims-fit n c ws now r s w e =
    let d = and_left (few_enough ws) ((r.info && is_none r.«package») && live_owner n now r.owner) e in
    record { combined = s; wtxids = w; some_wtxid = leb-true 1 (length ws) (and_left _ _ d); few_wtxids = leb-true (length ws) max_wtxids (and_right (leb 1 (length ws)) _ d) }

pub bounded-claim_package : {m : Limits} {Q : ℕ} {t : Table} (n h c : ℕ) (ws : List ℕ) (now : ℕ) → h < top → c < top → Hashes ws → Bounded m Q t → Bounded m Q (claim_package n h c ws now t).table
unfolding claim_package
bounded-claim_package {m} {Q} {t} n h c ws now s v w b =
    let r = at (wtxid h) t in
    by_test (λ (x : Answer). Bounded m Q x.table) (may_claim n ws now r)
    (λ e. bounded_at (wtxid h) _ s (λ r. refl) (shrinks_packaged _ r (claims-fit n c ws now r v w e) (place-info _ r.«package» (claims-info n ws now r e))) b) (λ e. b)

same_length : (a b : List ℕ) → same_list a b ≡ true → length a ≡ length b
unfolding same_list
same_length [] [] e = refl
same_length [] (y ∷ b) e = never e
same_length (x ∷ a) [] e = never e
same_length (x ∷ a) (y ∷ b) e = omega (arith, same_length a b (and_right (eqb x y) _ e))

awaits-length : (c : ℕ) (ws : List ℕ) (k : Kind) (o : Option Owner) (i : Bool) (p : Option Package) (hs : List ℕ) → awaits c ws p ≡ true → Packed k o i p hs
    → (1 ≤ length ws) × (length ws ≤ max_wtxids)
awaits-length c ws k o i none hs e h = never e
awaits-length c ws k o true (some p) hs e h = absurd h
awaits-length c ws k o false (some p) hs e h =
    let d = same_length p.wtxids ws (and_right (eqb p.combined c) _ (and_right (not p.enqueued) _ e)) in
    (omega (arith, h.2.some_wtxid), omega (arith, h.2.few_wtxids))

pub bounded-begin : {m : Limits} {Q : ℕ} {t : Table} (n h c : ℕ) (ws : List ℕ) (now : ℕ) → h < top → c < top → Hashes ws → Bounded m Q t → Bounded m Q (begin_resolution n h c ws now t).table
unfolding begin_resolution
bounded-begin {m} {Q} {t} n h c ws now s v w b = by_test (λ (x : Answer). Bounded m Q x.table) (may_begin n c ws now r) begun (λ e. b)
  where
    r : Request
    r = at (wtxid h) t

    begun : may_begin n c ws now r ≡ true → Bounded m Q (change (wtxid h) (packaged (record { combined = c; wtxids = ws; enqueued = true })) t)
    begun e =
        let a = and_right (live_owner n now r.owner) (awaits c ws r.«package») e in
        let l = awaits-length c ws r.key.kind r.owner r.info r.«package» r.parents a (lawful_at (wtxid h) t b.lawful).packed in
        bounded_at (wtxid h) _ s (λ r. refl) (shrinks_packaged _ r (record { combined = v; wtxids = w; some_wtxid = l.0; few_wtxids = l.1 }) (place-awaits c ws r.info r.«package» a)) b

-- ---- failing, with parents

pub bounded-failed_package_info : {m : Limits} {Q : ℕ} {t : Table} (k : Key) (n now : ℕ) → k.hash < top → now < word → Bounded m Q t → Bounded m Q (failed_package_info k n now t).table
unfolding failed_package_info
bounded-failed_package_info {m} {Q} {t} k n now s w b = by_test (λ (x : Answer). Bounded m Q x.table) (info_owned n (at k t)) (λ e. bounded-failed k n now s w b) (λ e. b)

pub bounded-listed : {m : Limits} {Q : ℕ} (k : Key) (n now : ℕ) (hs : List ℕ) (a : Answer) → Peer n → now < word → FewHashes hs → Bounded m Q a.table
    → Bounded m Q (listed_after m k n now hs a).table
unfolding listed_after
bounded-listed {m} {Q} k n now hs a p w h b = by_test (λ (x : Listed). Bounded m Q x.table) a.reply (λ e. bounded-parents n now hs p w h b) (λ e. b)

pub bounded-failed_with_parents : {m : Limits} {Q : ℕ} {t : Table} (k : Key) (n now : ℕ) → k.hash < top → Peer n → now < word → Bounded m Q t → Bounded m Q (failed_with_parents m k n now t).table
unfolding failed_with_parents
bounded-failed_with_parents {m} {Q} {t} k n now s p w b = bounded-listed k n now _ _ p w (few_for n (at k t) (lawful_at k t b.lawful)) (bounded-failed k n now s w b)

pub bounded-release : {m : Limits} {Q : ℕ} {t : Table} (n h now : ℕ) → h < top → now < word → Bounded m Q t → Bounded m Q (release_package m n h now t).table
unfolding release_package
bounded-release {m} {Q} {t} n h now s w b =
    let l = lawful_at (wtxid h) t b.lawful in
    by_test (λ (x : Listed). Bounded m Q x.table) (enqueued_by n (at (wtxid h) t))
    (λ e. bounded-listed (wtxid h) n now _ _ (owner-peer n (at (wtxid h) t) l (and_left _ _ e)) w (few_for n (at (wtxid h) t) l) (bounded-leaves (wtxid h) n now s w b))
    (λ e. b)

-- ---- loops over keys of the table

claim-key : (n c lo : ℕ) (t : Table) → Ordered lo t → CursorFits (claim_key n c t)
unfolding claim_key
claim-key n c lo [] o = tt
claim-key n c lo (r ∷ t) o =
    by_test CursorFits (is_some (claim_key n c t)) (λ e. claim-key n c (suc (place r.key)) t o.2) λ e.
    by_test CursorFits (owner_is n r.owner && awaits_hash c r.«package») (λ e. o.1) (λ e. tt)

key-cons : (x : Option Key) (l : List (Option Key)) → CursorFits x → Each KeyTyped (some_keys l) → Each KeyTyped (some_keys (x ∷ l))
unfolding some_keys
key-cons none l a b = b
key-cons (some k) l a b = (a, b)

some-keys : (n : ℕ) (cs : List ℕ) (lo : ℕ) (t : Table) → Ordered lo t → Each KeyTyped (some_keys (map (λ c. claim_key n c t) cs))
unfolding some_keys
some-keys n [] lo t o = tt
some-keys n (c ∷ cs) lo t o = key-cons (claim_key n c t) (map (λ c. claim_key n c t) cs) (claim-key n c lo t o) (some-keys n cs lo t o)

bounded-fail_each : {m : Limits} {Q : ℕ} {t : Table} (n now : ℕ) (ks : List Key) → Peer n → now < word → Each KeyTyped ks → Bounded m Q t → Bounded m Q (fail_each m n now ks t).table
unfolding fail_each
bounded-fail_each n now [] p w s b = b
bounded-fail_each {m = m} {Q = Q} {t = t} n now (k ∷ ks) p w s b = bounded-fail_each {t = (failed_with_parents m k n now t).table} n now ks p w s.1 (bounded-failed_with_parents k n now s.0 p w b)

pub bounded-failed_package_claims : {m : Limits} {Q : ℕ} {t : Table} (n : ℕ) (cs : List ℕ) (now : ℕ) → Peer n → now < word → Bounded m Q t → Bounded m Q (failed_package_claims m n cs now t).table
unfolding failed_package_claims
bounded-failed_package_claims {m} {Q} {t} n cs now p w b = bounded-fail_each n now _ p w (some-keys n cs 0 t b.ordered) b

-- ---- teardown

pub package-keys : (lo : ℕ) (t : Table) → Ordered lo t → Each KeyTyped (package_keys t)
unfolding package_keys
package-keys lo [] o = tt
package-keys lo (r ∷ t) o = by_test (Each KeyTyped) (is_some r.«package») (λ e. (o.1, package-keys (suc (place r.key)) t o.2)) (λ e. package-keys _ t o.2)

left_if_owned_at : (n now : ℕ) (r : Request) → now < word → ShrinksAt (left_if_owned n now) r
unfolding left_if_owned
left_if_owned_at n now r w = let x = (shrinks_left n now w).at_each r in record {
  fewer = λ p. by_test (λ (q : Request). count_in p q.candidates ≤ count_in p r.candidates) (owner_is n r.owner) (λ e. x.fewer p) (λ e. le_refl _);
  less = λ p. by_test (λ (q : Request). owner_in p q.owner ≤ owner_in p r.owner) (owner_is n r.owner) (λ e. x.less p) (λ e. le_refl _);
  place = by_test (λ (q : Request). place_in q.info q.«package» ≤ place_in r.info r.«package») (owner_is n r.owner) (λ e. x.place) (λ e. le_refl _);
  lawful = λ h. by_test Lawful (owner_is n r.owner) (λ e. x.lawful h) (λ e. h);
}

pub shrinks_left_if_owned : (n now : ℕ) → now < word → Shrinks (left_if_owned n now)
unfolding left_if_owned
shrinks_left_if_owned n now w = record {
  key = λ r. by_test (λ (q : Request). q.key ≡ r.key) (owner_is n r.owner) (λ e. (shrinks_left n now w).key r) (λ e. refl);
  at_each = λ r. left_if_owned_at n now r w;
}

pub bounded-tear_one : {m : Limits} {Q : ℕ} {t : Table} (o : Option Owner) (k : Key) (now : ℕ) → k.hash < top → now < word → Bounded m Q t → Bounded m Q (tear_one o k now t)
bounded-tear_one none k now s w b = b
bounded-tear_one (some o) k now s w b = bounded-change (other k) _ s (shrinks_left_if_owned o.connection now w) (bounded-change k _ s (shrinks_left_if_owned o.connection now w) b)

bounded-tear_each : {m : Limits} {Q : ℕ} {t : Table} (now : ℕ) (ks : List Key) → now < word → Each KeyTyped ks → Bounded m Q t → Bounded m Q (tear_each now ks t).table
unfolding tear_each
bounded-tear_each now [] w s b = b
bounded-tear_each {m} {Q} {t} now (k ∷ ks) w s b = bounded-tear_each {t = tear_one (at k t).owner k now t} now ks w s.1 (bounded-tear_one (at k t).owner k now s.0 w b)

pub bounded-teardown : {m : Limits} {Q : ℕ} {t : Table} (now : ℕ) → now < word → Bounded m Q t → Bounded m Q (teardown now t).table
unfolding teardown
bounded-teardown {m} {Q} {t} now w b = bounded-tear_each now (package_keys t) w (package-keys 0 t b.ordered) b
