-- How many keys disconnected lists: the connection's own, and the parents that its packages hand on, each once.
use Prim.Native.Nat.{ℕ, suc, ◌*◌, ◌≤◌, ◌<◌, min}
use mathlib.Core.Path.{◌≡◌, refl, sym, ap, ◌∙◌}
use mathlib.Core.Logic.{inl, inr}
use mathlib.Core.Bool.{Bool, true, false, ◌&&◌, ◌||◌}
use mathlib.Core.List.{List, [], ◌∷◌, ◌++◌, map}
use mathlib.Core.Option.{Option}
use native.Mathlib.Omega.{arith}
use lib.Dec.{ltb, eqb}
use lib.ListN.{length, length-append, length-map}
use borrow.Author.Tests.{ltb-true, ltb-false, eqb-false, ne_eqb}
use Rattle.std.specs.Prelude.{if◌then◌else◌}
use Rattle.ident.specs.Number.{Key, place, top, txid}
use Rattle.machine.specs.Limits.{Limits, max_peer_announcements, max_parents, word}
use Rattle.machine.specs.State.{Candidate, Owner, Request, Table, owner_is, is_some}
use Rattle.machine.specs.Table.{at, keys, count_in, total, held_by, has, places_held}
use Rattle.machine.specs.Announce.{request_parent_at}
use Rattle.machine.specs.Fail.{failed, Listed, but, dedup, parent_of, mark, parents_from, announce_parents, parents_for}
use Rattle.machine.specs.Leave.{is_empty, keys_of, announce_each, drop_at_key, drop_each, insert_key, sort_keys, disconnected}
use Rattle.machine.specs.Claim.{elem}
use Rattle.machine.specs.Sound.{NoRepeat, AllFit, Ordered, All, Lawful, Bounded}
use Rattle.machine.specs.Typed.{Each, KeyTyped}
use Rattle.machine.proofs.Tests.{test, by_test, never}
use Rattle.machine.proofs.Table.{lawful_at}
use Rattle.machine.proofs.Announce.{each_append, each_map}
use Rattle.machine.proofs.Fail.{Peer, FewHashes, few_for, bounded-failed, bounded-parents}
use Rattle.machine.proofs.Leave.{keys-of, bounded-drop_at_key}
use Rattle.machine.proofs.At.{at_here, at_there}
use Rattle.machine.proofs.Distinct.{Within, elem-head, elem_tail, elem_cases, elem_front, elem_back, elem-but, within-shorter}
use Rattle.machine.proofs.AnswerLengths.{keys_held}
use Rattle.machine.proofs.Alone.{Hold, Alone, alone_same, alone_then, alone-cut, alone-parents}
use Rattle.machine.proofs.Loosened.{Loosened, loosened_same, loosened_alone, loosened_then, loosened_failed}
use Rattle.machine.proofs.Places.{parents-place}

-- ---- the connection's own keys

pub count-has : (n : ℕ) (cs : List Candidate) → has n cs ≡ true → 1 ≤ count_in (λ m. eqb m n) cs
unfolding has count_in
count-has n [] h = never h
count-has n (c ∷ cs) h = elim (test (eqb c.connection n)) [ inl e ↦ rw e (omega arith) | inr e ↦ rw e (omega (arith, count-has n cs (rw e at h))) ]

pub length-keys_of : (n : ℕ) (t : Table) → length (keys_of n t) ≤ held_by n t
unfolding keys_of total
length-keys_of n [] = omega arith
length-keys_of n (r ∷ t) =
    by_test (λ (ks : List Key). length ks ≤ held_by n (r ∷ t)) (has n r.candidates) (λ e. omega (arith, count-has n r.candidates e, length-keys_of n t)) (λ e. omega (arith, length-keys_of n t))

pub length-keys_of-keys : (n : ℕ) (t : Table) → length (keys_of n t) ≤ length (keys t)
unfolding keys_of keys
length-keys_of-keys n [] = omega arith
length-keys_of-keys n (r ∷ t) = by_test (λ (ks : List Key). length ks ≤ suc (length (keys t))) (has n r.candidates) (λ e. omega (arith, length-keys_of-keys n t))
    (λ e. omega (arith, length-keys_of-keys n t))

-- ---- keys in order, repeats dropped

abbrev Ascending : ℕ → List Key → Type 0
Ascending lo [] = Unit {0}
Ascending lo (k ∷ ks) = (lo ≤ place k) × Ascending (suc (place k)) ks

ascending-insert : (k : Key) (lo : ℕ) (l : List Key) → lo ≤ place k → Ascending lo l → Ascending lo (insert_key k l)
unfolding insert_key
ascending-insert k lo [] h a = (h, tt)
ascending-insert k lo (x ∷ l) h a =
    by_test (Ascending lo) (ltb (place k) (place x)) (λ e. (h, (ltb-true _ _ e, a.1))) λ e.
    by_test (Ascending lo) (eqb (place k) (place x)) (λ d. a) λ d.
    (a.0, ascending-insert k (suc (place x)) l (omega (arith, ltb-false (place k) (place x) e, eqb-false (place k) (place x) d)) a.1)

ascending-sort : (l : List Key) → Ascending 0 (sort_keys l)
unfolding sort_keys
ascending-sort [] = tt
ascending-sort (k ∷ l) = ascending-insert k 0 (sort_keys l) (omega arith) (ascending-sort l)

each_insert : (P : Key → Type 0) (k : Key) (l : List Key) → P k → Each P l → Each P (insert_key k l)
unfolding insert_key
each_insert P k [] p a = (p, tt)
each_insert P k (x ∷ l) p a =
    by_test (Each P) (ltb (place k) (place x)) (λ e. (p, a)) λ e.
    by_test (Each P) (eqb (place k) (place x)) (λ d. a) (λ d. (a.0, each_insert P k l p a.1))

each_sort : (P : Key → Type 0) (l : List Key) → Each P l → Each P (sort_keys l)
unfolding sort_keys
each_sort P [] a = tt
each_sort P (k ∷ l) a = each_insert P k (sort_keys l) a.0 (each_sort P l a.1)

abbrev places : List Key → List ℕ
places l = map place l

absent_below : (p lo : ℕ) (l : List Key) → p < lo → Ascending lo l → elem p (places l) ≡ false
unfolding elem
absent_below p lo [] h a = refl
absent_below p lo (k ∷ l) h a = rw (ne_eqb (place k) p (λ e. omega (arith, a.0))) (absent_below p (suc (place k)) l (omega (arith, a.0)) a.1)

ascending-distinct : (lo : ℕ) (l : List Key) → Ascending lo l → NoRepeat (places l)
ascending-distinct lo [] a = tt
ascending-distinct lo (k ∷ l) a = (absent_below (place k) _ l (omega arith) a.1, ascending-distinct (suc (place k)) l a.1)

-- a Txid key whose hash is one of hs: its place is its hash
abbrev Among : List ℕ → Key → Type 0
Among hs k = elem (place k) hs ≡ true

among-within : (hs : List ℕ) (l : List Key) → Each (Among hs) l → Within (places l) hs
unfolding elem
among-within hs [] a x e = never e
among-within hs (k ∷ l) a x e = elim (elem_cases x (place k) (places l) e) [ inl d ↦ rw d at a.0 | inr d ↦ among-within hs l a.1 x d ]

pub length-sort_keys : (hs : List ℕ) (l : List Key) → Each (Among hs) l → length (sort_keys l) ≤ length hs
length-sort_keys hs l a =
    omega (
      arith,
      within-shorter hs (places (sort_keys l)) (ascending-distinct 0 (sort_keys l) (ascending-sort l)) (among-within hs (sort_keys l) (each_sort (Among hs) l a)),
      length-map (sort_keys l) place,
    )

-- ---- the parents that are listed

among_wider : (hs hs' : List ℕ) (l : List Key) → Within hs hs' → Each (Among hs) l → Each (Among hs') l
among_wider hs hs' l w a = each_map (Among hs) (Among hs') l (λ k e. w (place k) e) a

dedup-within : (hs : List ℕ) → Within (dedup hs) hs
unfolding dedup elem
dedup-within [] x e = e
dedup-within (h ∷ hs) x e = elim (elem_cases x h (but h (dedup hs)) e) [ inl d ↦ rw d (elem-head x hs) | inr d ↦ elem_tail x h hs (dedup-within hs x (elem-but x h (dedup hs) d).0) ]

among-parents_from : (m : Limits) (n now i : ℕ) (hs : List ℕ) (t : Table) → Each (Among hs) (parents_from m n now i hs t).keys
unfolding parents_from
among-parents_from m n now i [] t = tt
among-parents_from m n now i (h ∷ hs) t =
    let a = request_parent_at m (txid h) (parent_of n now h i) t in
    let t' = if a.reply then mark (txid h) a.table else a.table in
    let rest = among_wider hs (h ∷ hs) (parents_from m n now (suc i) hs t').keys (λ x e. elem_tail x h hs e) (among-parents_from m n now (suc i) hs t') in
    by_test (Each (Among (h ∷ hs))) a.reply (λ e. (first, rest)) (λ e. rest)
  where
    first : elem (place (txid h)) (h ∷ hs) ≡ true
    first = let e : place (txid h) ≡ h = omega arith in rw e (elem-head h hs)

among-parents : (m : Limits) (n now : ℕ) (hs : List ℕ) (t : Table) → Each (Among hs) (announce_parents m n now hs t).keys
unfolding announce_parents
among-parents m n now hs t = among_wider (dedup hs) hs (parents_from m n now 0 (dedup hs) t).keys (dedup-within hs) (among-parents_from m n now 0 (dedup hs) t)

among-announce_each : (m : Limits) (now : ℕ) (hs : List ℕ) (cs : List Candidate) (t : Table) → Each (Among hs) (announce_each m now hs cs t).keys
unfolding announce_each
among-announce_each m now hs [] t = tt
among-announce_each m now hs (c ∷ cs) t =
    let a = announce_parents m c.connection now hs t in
    each_append (Among hs) a.keys (announce_each m now hs cs a.table).keys (among-parents m c.connection now hs t) (among-announce_each m now hs cs a.table)

among-drop_at_key : (m : Limits) (n now : ℕ) (k : Key) (t : Table) → Each (Among (parents_for n (at k t))) (drop_at_key m n now k t).keys
unfolding drop_at_key
among-drop_at_key m n now k t =
    let hs = parents_for n (at k t) in
    let t' = (failed k n now t).table in
    by_test (λ (x : Listed). Each (Among hs) x.keys) (owner_is n (at k t).owner) (λ e. among-announce_each m now hs (if is_empty hs then [] else (at k t').candidates) t') (λ e. tt)

-- ---- what disconnected leaves alone

alone-announce_each : {m : Limits} {Q : ℕ} {t : Table} (now : ℕ) (k : Key) (hs : List ℕ) (cs : List Candidate) → now < word → AllFit k cs → FewHashes hs → Bounded m Q t
    → Alone t (announce_each m now hs cs t).table
unfolding announce_each
alone-announce_each now k hs [] w f a b = alone_same
alone-announce_each {m = m} {Q = Q} {t = t} now k hs (c ∷ cs) w f a b =
    let p : Peer c.connection = record { positive = f.0.positive; small = f.0.connection } in
    alone_then (alone-parents c.connection now hs p w a b) (alone-announce_each {t = (announce_parents m c.connection now hs t).table} now k hs cs w f.1 a
    (bounded-parents c.connection now hs p w a b))

pub loosened_drop_at_key : {m : Limits} {Q : ℕ} {t : Table} (n now : ℕ) (k : Key) → k.hash < top → now < word → Bounded m Q t → Loosened (owner_is n) t (drop_at_key m n now k t).table
unfolding drop_at_key
loosened_drop_at_key {m} {Q} {t} n now k s w b =
    let hs = parents_for n (at k t) in
    let t' = (failed k n now t).table in
    let b' = bounded-failed k n now s w b in
    by_test (λ (x : Listed). Loosened (owner_is n) t x.table) (owner_is n (at k t).owner)
    (λ e. loosened_then (loosened_failed k n now s w b) (loosened_alone (alone-announce_each now _ hs (if is_empty hs then [] else (at k t').candidates) w
    (by_test (AllFit (at k t').key) (is_empty hs) (λ d. tt) (λ d. (lawful_at k t' b'.lawful).candidates)) (few_for n (at k t) (lawful_at k t b.lawful)) b')))
    (λ e. loosened_alone (alone-cut k n t s b.ordered b.lawful e))

-- ---- the parents that some keys hand on

unfoldable pub handed_on : ℕ → List Key → Table → List ℕ
handed_on n [] t = []
handed_on n (k ∷ ks) t = parents_for n (at k t) ++ handed_on n ks t

-- a request that was loosened hands on what it did, or nothing
parents_in : ℕ → Hold → List ℕ
parents_in n x = if owner_is n x.owner && (x.info || is_some x.«package») then x.parents else []

loosened_parents : {p : Option Owner → Bool} {t t' : Table} (n : ℕ) (k : Key) → k.hash < top → Loosened p t t' → Within (parents_for n (at k t')) (parents_for n (at k t))
unfolding parents_in elem
loosened_parents n k s l x e =
    elim (l.hold k s) [
      | inl d ↦ ap (λ (hs : List ℕ). elem x hs) (ap (parents_in n) (sym d)) ∙ e
      | inr d ↦ never (ap (λ (hs : List ℕ). elem x hs) (ap (parents_in n) (sym d.1)) ∙ e)
    ]

among-drop_each : {m : Limits} {Q : ℕ} {t t₀ : Table} (n now : ℕ) (ks : List Key) → now < word → Each KeyTyped ks → Bounded m Q t → Loosened (owner_is n) t₀ t
    → Each (Among (handed_on n ks t₀)) (drop_each m n now ks t).keys
unfolding drop_each handed_on
among-drop_each n now [] w s b l = tt
among-drop_each {m} {Q} {t} {t₀} n now (k ∷ ks) w s b l =
    let a = drop_at_key m n now k t in
    let hs = parents_for n (at k t₀) in
    let rest = among-drop_each {t = (drop_at_key m n now k t).table} n now ks w s.1 (bounded-drop_at_key n now k s.0 w b) (loosened_then l (loosened_drop_at_key n now k s.0 w b)) in
    each_append (Among (hs ++ handed_on n ks t₀)) a.keys (drop_each m n now ks a.table).keys
    (among_wider (parents_for n (at k t)) (hs ++ handed_on n ks t₀) a.keys (λ x e. elem_front x hs (handed_on n ks t₀) (loosened_parents n k s.0 l x e)) (among-drop_at_key m n now k t))
    (among_wider (handed_on n ks t₀) (hs ++ handed_on n ks t₀) (drop_each m n now ks a.table).keys (λ x e. elem_back x hs (handed_on n ks t₀) e) rest)

-- they stand beside places
keys_of_from : (n lo : ℕ) (t : Table) → Ordered lo t → Each (λ (k : Key). lo ≤ place k) (keys_of n t)
unfolding keys_of
keys_of_from n lo [] o = tt
keys_of_from n lo (r ∷ t) o =
    let rest = each_map (λ (k : Key). suc (place r.key) ≤ place k) (λ (k : Key). lo ≤ place k) (keys_of n t) (λ k h. omega (arith, o.0)) (keys_of_from n (suc (place r.key)) t o.2) in
    by_test (Each (λ (k : Key). lo ≤ place k)) (has n r.candidates) (λ e. (o.0, rest)) (λ e. rest)

handed_on_later : (n : ℕ) (ks : List Key) (r : Request) (t : Table) → Each (λ (k : Key). suc (place r.key) ≤ place k) ks → handed_on n ks (r ∷ t) ≡ handed_on n ks t
unfolding handed_on
handed_on_later n [] r t a = refl
handed_on_later n (k ∷ ks) r t a =
    ap (λ (q : Request). parents_for n q ++ handed_on n ks (r ∷ t)) (at_there k r t (λ e. omega (arith, a.0))) ∙ ap (λ (l : List ℕ). parents_for n (at k t) ++ l) (handed_on_later n ks r t a.1)

pub length_handed_on : (n lo : ℕ) (t : Table) → Ordered lo t → All Lawful t → length (handed_on n (keys_of n t) t) ≤ max_parents * places_held t
unfolding keys_of handed_on total
length_handed_on n lo [] o l = omega arith
length_handed_on n lo (r ∷ t) o l =
    let later : length (handed_on n (keys_of n t) (r ∷ t)) ≤ max_parents * places_held t = rw (handed_on_later n (keys_of n t) r t (keys_of_from n _ t o.2))
    (length_handed_on n (suc (place r.key)) t o.2 l.1) in
    by_test (λ (ks : List Key). length (handed_on n ks (r ∷ t)) ≤ max_parents * places_held (r ∷ t)) (has n r.candidates)
    (λ e. omega (
      arith,
      length-append (parents_for n (at r.key (r ∷ t))) (handed_on n (keys_of n t) (r ∷ t)),
      ap (λ (q : Request). length (parents_for n q)) (at_here r.key r t refl),
      parents-place n r l.0,
    ))
    (λ e. omega arith)

-- ---- disconnected

module _ {m : Limits} {Q : ℕ} {t : Table} (n now : ℕ) (w : now < word) (b : Bounded m Q t) where
  pub length-own : length (disconnected m n now t).own ≤ min max_peer_announcements m.announcements
  unfolding disconnected
  length-own = omega (arith, length-keys_of n t, b.each n, length-keys_of-keys n t, keys_held t b.filled, b.fits)

  pub length-handed_on : length (disconnected m n now t).parents ≤ max_parents * places_held t
  unfolding disconnected
  length-handed_on = omega (
    arith,
    length-sort_keys (handed_on n (keys_of n t) t) (drop_each m n now (keys_of n t) t).keys (among-drop_each n now (keys_of n t) w
        (keys-of n 0 t b.ordered) b loosened_same),
    length_handed_on n 0 t b.ordered b.lawful,
  )
