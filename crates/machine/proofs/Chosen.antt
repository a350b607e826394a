-- How many entries a plan has: one a hash, each hash with a request, and at most one more than a phase stops at.
use Prim.Native.Nat.{ℕ, suc, ◌+◌, ◌-◌, ◌≤◌, ◌<◌, min}
use mathlib.Core.Path.{◌≡◌, refl, sym, ap, subst}
use mathlib.Core.Logic.{inl, inr}
use mathlib.Core.Bool.{Bool, true, false}
use mathlib.Core.List.{List, [], ◌∷◌, ◌++◌, map}
use mathlib.Core.Option.{Option, none, some}
use native.Mathlib.Omega.{arith}
use lib.Dec.{leb, eqb}
use lib.ListN.{length, length-append, length-map}
use borrow.Author.Tests.{leb-false, eqb-true}
use Rattle.ident.specs.Number.{Key, place, top, txid, wtxid}
use Rattle.ident.proofs.Places.{place_same as place-inj}
use Rattle.machine.specs.Limits.{max_request_checks, word}
use Rattle.machine.specs.State.{Candidate, Table, Entry, State, limits_of, is_none}
use Rattle.machine.specs.Table.{at, keys, held, owned_at}
use Rattle.machine.specs.Plan.{chosen_at, able, sooner, better, or_else, least_in, least_at, choice, Scan, start, add, consider, phase, asked_keys, expired, scanned, plan}
use Rattle.machine.specs.Claim.{elem}
use Rattle.machine.specs.Sound.{NoRepeat, Ordered, All, Filled, Bounded, Sound}
use Rattle.machine.specs.Typed.{Each, KeyTyped, KeysTyped}
use Rattle.machine.proofs.Tests.{test, by_test, never}
use Rattle.machine.proofs.Plan.{bounded-expired, keys-typed, round-typed, expired-keys}
use Rattle.machine.proofs.Distinct.{Within, elem-head, elem_tail, elem_snoc, distinct_snoc, within-shorter}
use Rattle.machine.proofs.AnswerLengths.{keys_held, length-sort_by_priority}

-- the hashes of entries, and of the requests of a table
abbrev pub entry_hashes : List Entry → List ℕ
entry_hashes l = map (λ a. a.key.hash) l

abbrev pub table_hashes : Table → List ℕ
table_hashes t = map (λ k. k.hash) (keys t)

-- ---- a request with a candidate is one of the table's

at_among : (k : Key) (lo : ℕ) (t : Table) → k.hash < top → Ordered lo t → 1 ≤ length (at k t).candidates → elem k.hash (table_hashes t) ≡ true
unfolding at keys elem
at_among k lo [] s o h = absurd (omega arith)
at_among k lo (r ∷ t) s o h =
    elim (test (eqb (place k) (place r.key))) [
      | inl e ↦ subst (λ (j : Key). elem j.hash (table_hashes (r ∷ t)) ≡ true) (sym (place-inj k r.key s o.1 (eqb-true _ _ e))) (elem-head r.key.hash (table_hashes t))
      | inr e ↦ elem_tail k.hash r.key.hash (table_hashes t) (at_among k (suc (place r.key)) t s o.2 (rw e at h))
    ]

-- ---- what is chosen for a hash

-- an entry at the hash h, which is one of hs; or none
abbrev Picked : List ℕ → ℕ → Option Entry → Type 0
Picked hs h none = Unit {0}
Picked hs h (some a) = (a.key.hash ≡ h) × (elem h hs ≡ true)

picked-better : (hs : List ℕ) (h : ℕ) (a : Entry) (o : Option Entry) → Picked hs h (some a) → Picked hs h o → Picked hs h (better a o)
unfolding better
picked-better hs h a none p q = p
picked-better hs h a (some b) p q = by_test (λ (x : Entry). Picked hs h (some x)) (sooner b.candidate a.candidate) (λ e. q) (λ e. p)

picked_least : (hs : List ℕ) (p : Candidate → Bool) (k : Key) (cs : List Candidate) → (1 ≤ length cs → elem k.hash hs ≡ true) → Picked hs k.hash (least_in p k cs)
unfolding least_in
picked_least hs p k [] f = tt
picked_least hs p k (c ∷ cs) f =
    let m : elem k.hash hs ≡ true = f (omega arith) in
    let rest = picked_least hs p k cs (λ h. m) in
    by_test (Picked hs k.hash) (p c) (λ e. picked-better hs k.hash (record { key = k; candidate = c }) (least_in p k cs) (refl, m) rest) (λ e. rest)

picked_at : (p : Candidate → Bool) (k : Key) (t : Table) → k.hash < top → Ordered 0 t → Picked (table_hashes t) k.hash (least_at p k t)
unfolding least_at
picked_at p k t s o = by_test (Picked (table_hashes t) k.hash) (is_none (at k t).owner) (λ e. picked_least (table_hashes t) p k (at k t).candidates (at_among k 0 t s o)) (λ e. tt)

picked-or_else : (hs : List ℕ) (h : ℕ) (x y : Option Entry) → Picked hs h x → Picked hs h y → Picked hs h (or_else x y)
unfolding or_else
picked-or_else hs h none y p q = q
picked-or_else hs h (some a) y p q = picked-better hs h a y p q

picked-choice : (now : ℕ) (t : Table) (l : List Entry) (k : Key) → k.hash < top → Ordered 0 t → Picked (table_hashes t) k.hash (choice now t l k)
unfolding choice
picked-choice now t l k s o = picked-or_else (table_hashes t) k.hash (least_at (able now t l) (txid k.hash) t) _ (picked_at _ (txid k.hash) t s o) (picked_at _ (wtxid k.hash) t s o)

-- ---- considering keys

-- one entry a hash, each hash with a request
pub record Sparse (t : Table) (l : List Entry) : Type 0 where
  pub distinct : NoRepeat (entry_hashes l)
  pub within : Within (entry_hashes l) (table_hashes t)

unchosen : (h : ℕ) (l : List Entry) → chosen_at h l ≡ 0 → elem h (entry_hashes l) ≡ false
unfolding chosen_at elem
unchosen h [] e = refl
unchosen h (a ∷ l) e = elim (test (eqb a.key.hash h)) [ inl d ↦ absurd (omega (arith, rw d at e)) | inr d ↦ rw d (unchosen h l (omega (arith, rw d at e))) ]

hashes_snoc : (a : Entry) (l : List Entry) → entry_hashes (l ++ (a ∷ [])) ≡ entry_hashes l ++ (a.key.hash ∷ [])
hashes_snoc a [] = refl
hashes_snoc a (b ∷ l) = ap (λ (m : List ℕ). b.key.hash ∷ m) (hashes_snoc a l)

sparse_snoc : (t : Table) (a : Entry) (l : List Entry) → chosen_at a.key.hash l ≡ 0 → elem a.key.hash (table_hashes t) ≡ true → Sparse t l → Sparse t (l ++ (a ∷ []))
sparse_snoc t a l z m s = record {
  distinct = rw (hashes_snoc a l) (distinct_snoc a.key.hash (entry_hashes l) s.distinct (unchosen a.key.hash l z));
  within = λ x e. elim (elem_snoc x a.key.hash (entry_hashes l) (rw (hashes_snoc a l) at e)) [ inl d ↦ s.within x d | inr d ↦ rw (← d) m ];
}

sparse_add : (t : Table) (h : ℕ) (o : Option Entry) (l : List Entry) → Picked (table_hashes t) h o → chosen_at h l ≡ 0 → Sparse t l → Sparse t (add o l)
sparse_add t h none l p z s = s
sparse_add t h (some a) l p z s = sparse_snoc t a l (rw p.0 z) (rw p.0 p.1) s

sparse_consider : (now : ℕ) (t : Table) (k : Key) (s : Scan) → k.hash < top → Ordered 0 t → Sparse t s.chosen → Sparse t (consider now t k s).chosen
unfolding consider
sparse_consider now t k s h o p =
    by_test (Sparse t) (eqb (owned_at k.hash t + chosen_at k.hash s.chosen) 0)
    (λ e. sparse_add t k.hash (choice now t s.chosen k) s.chosen (picked-choice now t s.chosen k h o)
    (omega (arith, eqb-true (owned_at k.hash t + chosen_at k.hash s.chosen) 0 e)) p)
    (λ e. p)

pub sparse_phase : (now : ℕ) (t : Table) (ks : List Key) (s : Scan) → Each KeyTyped ks → Ordered 0 t → Sparse t s.chosen → Sparse t (phase now t ks s).chosen
unfolding phase
sparse_phase now t [] s w o p = p
sparse_phase now t (k ∷ ks) s w o p =
    let q = sparse_consider now t k s w.0 o p in
    by_test (λ (x : Scan). Sparse t x.chosen) (leb max_request_checks (length (consider now t k s).chosen)) (λ e. q) (λ e. sparse_phase now t ks (consider now t k s) w.1 o q)

-- so there are no more than announcements
pub sparse_held : (t : Table) (l : List Entry) → All Filled t → Sparse t l → length l ≤ held t
sparse_held t l f s =
    omega (arith, within-shorter (table_hashes t) (entry_hashes l) s.distinct s.within, length-map l (λ (a : Entry). a.key.hash), length-map (keys t) (λ (k : Key). k.hash), keys_held t f)

-- ---- where a phase stops

length-add : (o : Option Entry) (l : List Entry) → length (add o l) ≤ suc (length l)
length-add none l = omega arith
length-add (some a) l = omega (arith, length-append l (a ∷ []))

length-consider : (now : ℕ) (t : Table) (k : Key) (s : Scan) → length (consider now t k s).chosen ≤ suc (length s.chosen)
unfolding consider
length-consider now t k s =
    by_test (λ (x : List Entry). length x ≤ suc (length s.chosen)) (eqb (owned_at k.hash t + chosen_at k.hash s.chosen) 0)
    (λ e. length-add (choice now t s.chosen k) s.chosen) (λ e. omega arith)

-- a phase that starts below the stop ends at it; one that starts at the stop still considers one key
pub length-phase : (now : ℕ) (t : Table) (ks : List Key) (s : Scan) (n : ℕ) → length s.chosen ≤ n → n ≤ max_request_checks → max_request_checks ≤ suc n → length (phase now t ks s).chosen ≤ suc n
unfolding phase
length-phase now t [] s n h a b = omega arith
length-phase now t (k ∷ ks) s n h a b =
    let g = length-consider now t k s in
    by_test (λ (x : Scan). length x.chosen ≤ suc n) (leb max_request_checks (length (consider now t k s).chosen)) (λ e. omega arith)
    (λ e. length-phase now t ks (consider now t k s) n (omega (arith, leb-false max_request_checks (length (consider now t k s).chosen) e)) a b)

-- ---- plan

typed-asked : (asked : Option (List Key)) (c : Option Key) (t : Table) → KeysTyped asked → Ordered 0 t → Each KeyTyped (asked_keys asked c t)
typed-asked none c t a o = round-typed c (keys t) (keys-typed 0 t o)
typed-asked (some ks) c t a o = a

pub length-plan : (now : ℕ) (asked : Option (List Key)) (s : State) → now < word → KeysTyped asked → Sound s → length (plan now asked s).entries ≤ min (max_request_checks + 1) s.limit
unfolding plan elem
length-plan now asked s w a g = omega (arith, length-sort_by_priority (scanned now asked s).chosen, few, sparse, b.fits)
  where
    t : Table
    t = (expired now s).table

    b : Bounded (limits_of s) s.places t
    b = bounded-expired now s w g

    ps : List Key
    ps = (expired now s).keys

    ks : List Key
    ks = asked_keys asked s.ready_cursor t

    first : Scan
    first = phase now t ps start

    few : length (phase now t ks first).chosen ≤ suc max_request_checks
    few = length-phase now t ks first max_request_checks (length-phase now t ps start (max_request_checks - 1) (omega arith) (omega arith) (omega arith)) (omega arith) (omega arith)

    sparse : length (phase now t ks first).chosen ≤ held t
    sparse =
        sparse_held t (phase now t ks first).chosen b.filled
        (sparse_phase now t ks first (typed-asked asked s.ready_cursor t a b.ordered) b.ordered
        (sparse_phase now t ps start (expired-keys now s w g) b.ordered (record { distinct = tt; within = λ x e. never e })))
