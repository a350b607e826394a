-- Where the rows of a key and the place of a hash stand: what a search finds.
use Rattle.store.specs.Gather.{key_at}
use Prim.Native.Nat.{ℕ, suc, ◌+◌, ◌≤◌, ◌<◌}
use mathlib.Core.Path.{◌≡◌, refl, ap, ◌∙◌}
use mathlib.Core.Logic.{inl, inr}
use mathlib.Core.List.{List, [], ◌∷◌, ◌++◌, map, append_assoc}
use native.Mathlib.Nat.{le_refl}
use native.Mathlib.Omega.{arith}
use lib.Dec.{ltb, leb}
use lib.ListN.{length, get_or, length-append, length-map}
use lib.Seq.{get_or_at}
use Rattle.ident.specs.Number.{top, Key, place, wtxid}
use Rattle.regions.specs.declared.Row.{Row}
use Rattle.regions.specs.Regions.{each}
use Rattle.regions.specs.Rows.{key_number, key_of}
use Rattle.places.specs.Places.{Place}
use Rattle.regions.specs.Order.{Sorted, Bound}
use Rattle.machine.specs.State.{Candidate, Request, Table}
use Rattle.machine.specs.Table.{at}
use Rattle.machine.specs.Sound.{Lawful, Ordered, All}
use Rattle.machine.proofs.Tests.{test}
use Rattle.machine.proofs.Table.{at_key, lawful_at}
use Rattle.store.specs.Flat.{row_of, rows_for, rows_of, places_for, places_of}
use Rattle.store.specs.FlatSound.{Ascending, PlacesAscend}
use Rattle.store.specs.Shown.{place_hashes}
use Rattle.store.proofs.Bits.{key_row}
use Rattle.store.proofs.Keys.{row_number}
use Rattle.store.proofs.Split.{below, above, above_ordered, below_under, rows_below, rows_above, places_below, places_above, rows_at, places-at}
use Rattle.store.proofs.Bounds.{Ascend, ascend_weaken, ascend-sorted, Upto, upto_weaken, upto-append, bound-append}
use Rattle.store.proofs.Dress.{Has, nothing, its, has-place}
use Rattle.store.proofs.RowsFit.{rows-ascend}
use Rattle.store.proofs.PlacesFit.{places-ascend}

map-append : {A : Type 0} (f : A → ℕ) (a b : List A) → map f (a ++ b) ≡ map f a ++ map f b
map-append f [] b = refl
map-append f (x ∷ a) b = rw (map-append f a b)

-- ---- rows

-- the numbers by which rows are searched
abbrev pub row_keys : List Row → List ℕ
row_keys rs = map (λ r. key_number (key_of r)) rs

keys-ascend : (lo : ℕ) (rs : List Row) → Ascending lo rs → Ascend lo (row_keys rs)
keys-ascend lo [] a = tt
keys-ascend lo (r ∷ rs) a = rw (row_number r) (a.0, keys-ascend (place (key_at r)) rs a.1)

pub rows-sorted : (lo : ℕ) (rs : List Row) → Ascending lo rs → Sorted (row_keys rs)
rows-sorted lo rs a = ascend-sorted lo (row_keys rs) (keys-ascend lo rs a)

upto_in : (x : ℕ) (r : Request) (cs : List Candidate) → place r.key < x → Upto x (row_keys (map (row_of r) cs))
upto_in x r [] h = tt
upto_in x r (c ∷ cs) h = rw (row_number (row_of r c), key_row r c) (h, upto_in x r cs h)

upto-rows : (x : ℕ) (t : Table) → All (λ r. place r.key < x) t → Upto x (row_keys (rows_of t))
unfolding each rows_for
upto-rows x [] a = tt
upto-rows x (r ∷ t) a =
    rw (map-append (λ r. key_number (key_of r)) (map (row_of r) r.candidates) (rows_of t))
    (upto-append x (row_keys (map (row_of r) r.candidates)) (row_keys (rows_of t)) (upto_in x r r.candidates a.0) (upto-rows x t a.1))

ascend_in : (lo : ℕ) (r : Request) (cs : List Candidate) (rs : List Row) → lo ≤ place r.key → Ascend (place r.key) (row_keys rs) → Ascend lo (row_keys (map (row_of r) cs ++ rs))
ascend_in lo r [] rs h a = ascend_weaken lo (place r.key) (row_keys rs) h a
ascend_in lo r (c ∷ cs) rs h a = rw (row_number (row_of r c), key_row r c) (h, ascend_in (place r.key) r cs rs (le_refl _) a)

module _ (k : Key) (lo : ℕ) (t : Table) (o : Ordered lo t) (s : k.hash < top) where
  behind : Ascend (suc (place k)) (row_keys (rows_above k t))
  behind = keys-ascend _ (rows_above k t) (rows-ascend _ (above k t) (above_ordered k lo t o))

  its-place : place (at k t).key ≡ place k
  its-place = ap place (at_key k lo t s o)

  pub rows_from : Bound (row_keys (rows_of t)) (place k) (length (rows_below k t))
  unfolding rows_for
  rows_from =
      let a : Ascend (place k) (row_keys (rows_for (at k t) ++ rows_above k t)) =
      ascend_in (place k) (at k t) (at k t).candidates (rows_above k t) (omega (arith, its-place))
      (rw its-place (ascend_weaken (place k) (suc (place k)) (row_keys (rows_above k t)) (omega arith) behind)) in
      let b = bound-append (place k) (row_keys (rows_below k t)) (row_keys (rows_for (at k t) ++ rows_above k t)) (upto-rows (place k) (below k t) (below_under k t)) a in
      rw (rows_at k lo t o, map-append (λ r. key_number (key_of r)) (rows_below k t) (rows_for (at k t) ++ rows_above k t)) (rw (length-map (rows_below k t) (λ r. key_number (key_of r))) at b)

  pub rows_to : Bound (row_keys (rows_of t)) (place k + 1) (length (rows_below k t ++ rows_for (at k t)))
  unfolding rows_for
  rows_to =
      let e : suc (place k) ≡ place k + 1 = omega arith in
      let u : Upto (place k + 1) (row_keys (rows_below k t ++ rows_for (at k t))) =
      rw (map-append (λ r. key_number (key_of r)) (rows_below k t) (rows_for (at k t)))
      (upto-append (place k + 1) (row_keys (rows_below k t)) (row_keys (rows_for (at k t))) (upto_weaken (place k) (place k + 1) (row_keys (rows_below k t)) (omega arith)
      (upto-rows (place k) (below k t) (below_under k t))) (upto_in (place k + 1) (at k t) (at k t).candidates (omega (arith, its-place)))) in
      let b = bound-append (place k + 1) (row_keys (rows_below k t ++ rows_for (at k t))) (row_keys (rows_above k t)) u (rw e at behind) in
      rw (rows_at k lo t o, ← (append_assoc (rows_below k t) (rows_for (at k t)) (rows_above k t)), map-append (λ r. key_number (key_of r)) (rows_below k t ++ rows_for (at k t)) (rows_above k t))
      (rw (length-map (rows_below k t ++ rows_for (at k t)) (λ r. key_number (key_of r))) at b)

-- ---- places

hashes-ascend : (m : ℕ) (ps : List Place) → PlacesAscend m ps → Ascend m (place_hashes ps)
hashes-ascend m [] a = tt
hashes-ascend m (p ∷ ps) a = (a.0, ascend_weaken _ (suc p.hash) (place_hashes ps) (omega arith) (hashes-ascend _ ps a.1))

pub places-sorted : (m : ℕ) (ps : List Place) → PlacesAscend m ps → Sorted (place_hashes ps)
places-sorted m ps a = ascend-sorted m (place_hashes ps) (hashes-ascend m ps a)

all_below : (P : Request → Type 0) (k : Key) (t : Table) → All P t → All P (below k t)
unfolding below
all_below P k [] a = tt
all_below P k (r ∷ t) a = elim (test (ltb (place r.key) (place k))) [ inl e ↦ rw e (a.0, all_below P k t a.1) | inr e ↦ rw e tt ]

all_above : (P : Request → Type 0) (k : Key) (t : Table) → All P t → All P (above k t)
unfolding above
all_above P k [] a = tt
all_above P k (r ∷ t) a = elim (test (leb (place r.key) (place k))) [ inl e ↦ rw e (all_above P k t a.1) | inr e ↦ rw e a ]

upto-has : (h : ℕ) (r : Request) (ps : List Place) → Has r ps → place r.key < place (wtxid h) → Upto h (place_hashes ps)
upto-has h r ps (nothing e) l = tt
upto-has h r ps (its p e f) l = (omega arith, tt)

upto-places : (h : ℕ) (t : Table) → All Lawful t → All (λ r. place r.key < place (wtxid h)) t → Upto h (place_hashes (places_of t))
unfolding each
upto-places h [] l a = tt
upto-places h (r ∷ t) l a =
    rw (map-append (λ p. p.hash) (places_for r) (places_of t))
    (upto-append h (place_hashes (places_for r)) (place_hashes (places_of t)) (upto-has h r (places_for r) (has-place r l.0) a.0) (upto-places h t l.1 a.1))

ascend-has : (h : ℕ) (r : Request) (ps qs : List Place) → Has r ps → place r.key ≡ place (wtxid h) → Ascend (suc h) (place_hashes qs) → Ascend h (place_hashes (ps ++ qs))
ascend-has h r ps qs (nothing e) k a = ascend_weaken h (suc h) (place_hashes qs) (omega arith) a
ascend-has h r ps qs (its p e f) k a = (omega arith, ascend_weaken p.hash (suc h) (place_hashes qs) (omega arith) a)

module _ (h lo : ℕ) (t : Table) (o : Ordered lo t) (l : All Lawful t) (s : h < top) where
  abbrev here : List Place
  here = places_for (at (wtxid h) t)

  abbrev before : List Place
  before = places_below (wtxid h) t

  abbrev after : List Place
  after = places_above (wtxid h) t

  is_here : Has (at (wtxid h) t) here
  is_here = has-place (at (wtxid h) t) (lawful_at (wtxid h) t l)

  at_place : place (at (wtxid h) t).key ≡ place (wtxid h)
  at_place = ap place (at_key (wtxid h) lo t s o)

  behind_it : Ascend (suc h) (place_hashes after)
  behind_it = hashes-ascend (suc h) after (places-ascend _ (suc h) (above (wtxid h) t) (above_ordered (wtxid h) lo t o) (all_above Lawful (wtxid h) t l) (λ x g. omega arith))

  pub places_from : Bound (place_hashes (places_of t)) h (length before)
  places_from =
      let u = upto-places h (below (wtxid h) t) (all_below Lawful (wtxid h) t l) (below_under (wtxid h) t) in
      let a = ascend-has h (at (wtxid h) t) here after is_here at_place behind_it in
      let b = bound-append h (place_hashes before) (place_hashes (here ++ after)) u a in
      rw (places-at (wtxid h) lo t o, map-append (λ p. p.hash) before (here ++ after)) (rw (length-map before (λ p. p.hash)) at b)

  -- a search finds the place of the hash
  pub place_found : (d : Place) → length before < length (places_of t) → (get_or (places_of t) (length before) d).hash ≡ h → here ≡ get_or (places_of t) (length before) d ∷ []
  place_found d n e = rw (places-at (wtxid h) lo t o) (go here is_here (rw (places-at (wtxid h) lo t o) at n) (rw (places-at (wtxid h) lo t o) at e))
    where
      go : (ps : List Place) → Has (at (wtxid h) t) ps → length before < length (before ++ (ps ++ after)) → (get_or (before ++ (ps ++ after)) (length before) d).hash ≡ h
          → ps ≡ get_or (before ++ (ps ++ after)) (length before) d ∷ []
      go ps (its p f g) n e = rw (get_or_at before p after d (length before) refl)
      go ps (nothing f) n e = none after behind_it n e
        where
          none : (qs : List Place) → Ascend (suc h) (place_hashes qs) → length before < length (before ++ qs) → (get_or (before ++ qs) (length before) d).hash ≡ h
              → [] ≡ get_or (before ++ qs) (length before) d ∷ []
          none [] a n e = absurd (omega (arith, length-append before []))
          none (q ∷ qs) a n e = absurd (omega (arith, a.0, ap (λ (p : Place). p.hash) (get_or_at before q qs d (length before) refl)))

  -- or that there is none
  pub place-missing : (d : Place) → (length before < length (places_of t) → (get_or (places_of t) (length before) d).hash ≡ h → ⊥) → here ≡ []
  place-missing d n = go here is_here (rw (places-at (wtxid h) lo t o) at n)
    where
      go : (ps : List Place) → Has (at (wtxid h) t) ps → (length before < length (before ++ (ps ++ after)) → (get_or (before ++ (ps ++ after)) (length before) d).hash ≡ h → ⊥) → ps ≡ []
      go ps (nothing f) n = refl
      go ps (its p f g) n =
          absurd (n (simp length-append (omega arith)) (ap (λ (p : Place). p.hash) (get_or_at before p after d (length before) refl) ∙ omega (arith, at_place)))
