-- The place of a hash: where a search stops, and what the request at its Wtxid key has there.
use Prim.Native.Nat.{ℕ, zero, suc, ◌+◌, ◌≤◌, ◌<◌}
use mathlib.Core.Path.{◌≡◌, refl, sym, ap, ◌∙◌}
use mathlib.Core.Logic.{inl, inr}
use mathlib.Core.Bool.{Bool, true, false, not, ◌||◌}
use mathlib.Core.List.{List, [], ◌∷◌, ◌++◌}
use mathlib.Core.Option.{Option, none, some}
use native.Mathlib.Nat.{le_refl}
use native.Mathlib.Omega.{arith}
use lib.Dec.{ltb}
use lib.ListN.{length, get_or, length-map}
use lib.Seq.{get_or_at}
use borrow.Author.Tests.{ltb-true, ltb-false}
use Rattle.std.specs.Prelude as rust
use Rattle.std.specs.Prelude.{Result, Ok, Err, Some, None}
use Rattle.std.specs.Result.{result_ok}
use Rattle.ident.specs.declared.Hash.{Hash}
use Rattle.ident.specs.declared.Kind.{Kind}
use Rattle.ident.specs.declared.Kind.TheVariants.{Txid, Wtxid}
use Rattle.ident.specs.Number.{top, Key, wtxid}
use Rattle.ident.specs.Words.{hash_num}
use Rattle.regions.specs.declared.Quad.{Quad}
use Rattle.regions.specs.Order.{Bound}
use Rattle.regions.specs.Rows.{quad_number, quad_of}
use Rattle.regions.proofs.Order.{number_quad}
use Rattle.places.specs.declared.Head.{Head}
use Rattle.places.specs.Places.{Place, list_most, head_of, blank}
use Rattle.machine.specs.State.{Owner, Package, Request, State, is_some}
use Rattle.machine.specs.Table.{at, one}
use Rattle.machine.specs.Sound.{Sound, Packed, Lawful}
use Rattle.machine.proofs.Table.{at_key, lawful_at}
use Rattle.machine.proofs.Tests.{test, never}
use Rattle.store.specs.Flat.{Flat, flat_of, rows_of, place_for, places_for, places_of}
use Rattle.store.specs.FlatSound.{StageFits, PlaceFits}
use Rattle.store.specs.Image.{Shows, Writes}
use Rattle.store.specs.Shown.{held_places_in, Kept, Seek}
use Rattle.store.proofs.Bounds.{bound_same}
use Rattle.store.proofs.Frame.{sizes}
use Rattle.store.proofs.Missing.{each_at}
use Rattle.store.proofs.Split.{places_below, places_above, places-at}
use Rattle.store.proofs.ToFlat.{flat_sound}
use Rattle.store.proofs.Window.{places-sorted, places_from, place_found, place-missing}
use Rattle.requests.specs.Changes.{Words}
use Rattle.package_stages.specs.Records.{place_hashes}
use Rattle.package_stages.specs.Changes.{stage_of, wtxids_of, combined_of, has_place, SpotOf, Sought}

-- ---- a request and its place

abbrev place_with : Request → Bool → Option Package → Place
place_with q i p = record { hash = q.key.hash; combined = combined_of p; stage = stage_of i p; wtxids = wtxids_of p; parents = q.parents }

-- the place of a request that has one
abbrev pub place_in : Request → Place
place_in q = place_with q q.info q.«package»

pub place_held : (q : Request) → has_place q ≡ true → places_for q ≡ place_in q ∷ []
unfolding places_for
place_held q e = go q.info q.«package» e
  where
    go : (i : Bool) (p : Option Package) → (i || is_some p) ≡ true → place_for q i p ≡ place_with q i p ∷ []
    go i (some p) e = refl
    go true none e = refl
    go false none e = never e

pub place-free : (q : Request) → has_place q ≡ false → places_for q ≡ []
unfolding places_for
place-free q e = go q.info q.«package» e
  where
    go : (i : Bool) (p : Option Package) → (i || is_some p) ≡ false → place_for q i p ≡ []
    go true p e = never (sym e)
    go false (some p) e = never (sym e)
    go false none e = refl

held_by_lem : (q : Request) {p : Place} → places_for q ≡ p ∷ [] → has_place q ≡ true
held_by_lem q e = elim (test (has_place q)) [ inl h ↦ h | inr h ↦ let z : ◌≡◌ {A = ℕ} 0 1 = ap length (sym (place-free q h) ∙ e) in absurd (omega arith) ]

free_by : (q : Request) → places_for q ≡ [] → has_place q ≡ false
free_by q e = elim (test (has_place q)) [ inl h ↦ let z : ◌≡◌ {A = ℕ} 0 1 = ap length (sym e ∙ place_held q h) in absurd (omega arith) | inr h ↦ h ]

-- flag or package: an owner, on a Wtxid key
pub record Holding (q : Request) : Type 0 where
  pub owner : is_some q.owner ≡ true
  pub kind : q.key.kind ≡ Wtxid

pub holding : (q : Request) → Lawful q → has_place q ≡ true → Holding q
holding q l e = go q.info q.«package» l.packed e
  where
    go : (i : Bool) (p : Option Package) → Packed q.key.kind q.owner i p q.parents → (i || is_some p) ≡ true → Holding q
    go true (some p) k e = absurd k
    go true none k e = record { owner = k.0; kind = k.1 }
    go false (some p) k e = record { owner = k.0; kind = k.1 }
    go false none k e = never e

stage-free : (i : Bool) (p : Option Package) → (i || is_some p) ≡ false → stage_of i p ≡ 0
stage-free true p e = never (sym e)
stage-free false (some p) e = never (sym e)
stage-free false none e = refl

pub no-stage : (q : Request) → has_place q ≡ false → stage_of q.info q.«package» ≡ 0
no-stage q e = stage-free q.info q.«package» e

pub stage-few : (i : Bool) (p : Option Package) → stage_of i p ≤ 3
stage-few i (some p) = go p.enqueued
  where
    go : (e : Bool) → 2 + one e ≤ 3
    go true = omega arith
    go false = omega arith
stage-few true none = omega arith
stage-few false none = omega arith

-- "flag or package .. only on Wtxid keys"
pub txid-stage : (st : State) → Sound st → (k : Key) → k.hash < top → k.kind ≡ Txid → stage_of (at k st.table).info (at k st.table).«package» ≡ 0
txid-stage st s k small e =
    let q = at k st.table in
    go q.owner q.parents q.info q.«package» (ap (λ (j : Key). j.kind) (at_key k 0 st.table small s.bounded.ordered) ∙ e) (lawful_at k st.table s.bounded.lawful).packed
  where
    other : {X : Type 0} → Txid ≡ Wtxid → X
    other z = let y : ◌≡◌ {A = ℕ} 0 1 = cc in absurd (omega arith)

    go : {j : Kind} (o : Option Owner) (hs : List ℕ) (i : Bool) (p : Option Package) → j ≡ Txid → Packed j o i p hs → stage_of i p ≡ 0
    go o hs true (some p) e k = absurd k
    go o hs true none e k = other (sym e ∙ k.1)
    go o hs false (some p) e k = other (sym e ∙ k.1)
    go o hs false none e k = refl

-- ---- what a place's head says

module _ (x : Place) {p : Head} (e : p ≡ head_of x) where
  pub head-hash : quad_number p.hash ≡ x.hash
  unfolding head_of
  head-hash = ap (λ (a : Head). quad_number a.hash) e ∙ number_quad x.hash

  pub head-combined : quad_number p.combined ≡ x.combined
  unfolding head_of
  head-combined = ap (λ (a : Head). quad_number a.combined) e ∙ number_quad x.combined

  pub head-stage : p.stage ≡ x.stage
  unfolding head_of
  head-stage = ap (λ (a : Head). a.stage) e

  pub head-wtxids : p.wtxids ≡ length x.wtxids
  unfolding head_of
  head-wtxids = ap (λ (a : Head). a.wtxids) e

  pub head-parents : p.parents ≡ length x.parents
  unfolding head_of
  head-parents = ap (λ (a : Head). a.parents) e

-- ---- where a search stops

pub hash_at_lem : (ps : List Place) (i : ℕ) (d : Place) → i < length ps → get_or (place_hashes ps) i 0 ≡ (get_or ps i d).hash
hash_at_lem [] i d h = absurd (omega arith)
hash_at_lem (p ∷ ps) zero d h = refl
hash_at_lem (p ∷ ps) (suc i) d h = hash_at_lem ps i d (omega arith)

module _ (st : State) (s : Sound st) (h : ℕ) where
  pub sought_at : {b : List ℕ} {n i : ℕ} {q : Quad} → q ≡ quad_of h → Writes b st → Seek b (λ f. place_hashes f.places) n (quad_number q) i → Bound (place_hashes (places_of st.table)) h i
  sought_at {b} {n} {i} {q} e w k =
      let x : quad_number q ≡ h = ap quad_number e ∙ number_quad h in
      rw x at (k.bound (flat_of st) w (places-sorted 0 (places_of st.table) (flat_sound st s).places-ascend))

  module _ (small : h < top) {i : ℕ} (b : Bound (place_hashes (places_of st.table)) h i) where
    pub spot_is : i ≡ length (places_below (wtxid h) st.table)
    spot_is = bound_same (place_hashes (places_of st.table)) h i (length (places_below (wtxid h) st.table)) b (places_from h 0 st.table s.bounded.ordered s.bounded.lawful small)

    found : (d : Place) → i < length (places_of st.table) → (get_or (places_of st.table) i d).hash ≡ h → has_place (at (wtxid h) st.table) ≡ true
    found d l e = held_by_lem _ (place_found h 0 st.table s.bounded.ordered s.bounded.lawful small d (rw spot_is at l) (rw spot_is at e))

    pub missing : (d : Place) → (i < length (places_of st.table) → (get_or (places_of st.table) i d).hash ≡ h → ⊥) → has_place (at (wtxid h) st.table) ≡ false
    missing d n = free_by _ (place-missing h 0 st.table s.bounded.ordered s.bounded.lawful small d (rw spot_is at n))

    -- the test of the place where the search stopped: its hash does not come after h
    pub tested : (d : Place) → i < length (places_of st.table) → {a : Bool} → a ≡ ltb h (get_or (places_of st.table) i d).hash → not a ≡ has_place (at (wtxid h) st.table)
    tested d l {a} e =
        let y = (get_or (places_of st.table) i d).hash in
        let m = length-map (places_of st.table) (λ (p : Place). p.hash) in
        let above = b.above i (le_refl i) (omega arith) in
        let here = hash_at_lem (places_of st.table) i d l in
        elim (test (ltb h y)) [
          | inl t ↦ let p = ltb-true h y t in ap not (e ∙ t) ∙ sym (missing d (λ l z. omega arith))
          | inr t ↦ let p = ltb-false h y t in ap not (e ∙ t) ∙ sym (found d l (omega arith))
        ]

    -- the place itself
    pub its-place : has_place (at (wtxid h) st.table) ≡ true → (d : Place) → get_or (places_of st.table) i d ≡ place_in (at (wtxid h) st.table)
    its-place e d =
        let k = wtxid h in
        let t = st.table in
        ap (λ (l : List Place). get_or l i d) (places-at k 0 t s.bounded.ordered ∙ ap (λ (l : List Place). places_below k t ++ (l ++ places_above k t)) (place_held (at k t) e))
        ∙ get_or_at (places_below k t) (place_in (at k t)) (places_above k t) d i (sym spot_is)

-- the search stops at a place: it is that of h, unless its hash comes after h
pub spot_within : {b : List ℕ} {h : Hash} {q : Quad} {i : ℕ} {p : Head} {after : Bool} → Kept b → Words h q → Seek b (λ f. place_hashes f.places) (held_places_in b) (quad_number q) i
    → i < held_places_in b → ((f : Flat) (d : Place) → Shows b f → p ≡ head_of (get_or f.places i d)) → after ≡ ltb (quad_number q) (quad_number p.hash)
    → SpotOf b (hash_num h) i (not after)
spot_within {b} {h} {q} {i} {p} kept u k l reads e = record {
  small = u.small;
  most = k.most;
  inside = λ e. l;
  is = λ st s w.
      let n = hash_num h in
      let z = sizes w in
      let d = blank 0 0 in
      let bd = sought_at st s n u.words_are w k in
      let x = ap quad_number u.words_are ∙ number_quad n in
      let y = head-hash _ (reads (flat_of st) d w) in
      record { bound = bd; held_is = tested st s n u.small bd d (omega arith) (e ∙ ap (λ (m : ℕ). ltb m (quad_number p.hash)) x ∙ ap (ltb n) y) };
}

-- ---- how long the lists are

module _ (st : State) (s : Sound st) (i : ℕ) (d : Place) (l : i < length (places_of st.table)) where
  fits : PlaceFits (rows_of st.table) (get_or (places_of st.table) i d)
  fits = each_at (PlaceFits (rows_of st.table)) (places_of st.table) i d (flat_sound st s).places-fit l

  pub few_parents : length (get_or (places_of st.table) i d).parents ≤ list_most
  few_parents = fits.parents.few

  pub few_wtxids : length (get_or (places_of st.table) i d).wtxids ≤ list_most
  few_wtxids = go (get_or (places_of st.table) i d) (get_or (places_of st.table) i d).stage fits.stage
    where
      go : (p : Place) (n : ℕ) → StageFits n p → length p.wtxids ≤ list_most
      go p zero f = absurd f
      go p (suc zero) f = rw f.1 (omega arith)
      go p (suc (suc zero)) f = f.few_wtxids
      go p (suc (suc (suc zero))) f = f.few_wtxids
      go p (suc (suc (suc (suc n)))) f = absurd f

-- ---- the place that a search gives, if it gives one

abbrev pub PlaceIn : List ℕ → ℕ → rust.Option ℕ → Type 0
PlaceIn b h None = (i : ℕ) × SpotOf b h i false
PlaceIn b h (Some i) = SpotOf b h i true

pub place_sought : (b : List ℕ) (h : ℕ) (r : Result ℕ ℕ) → Sought b h r → PlaceIn b h (result_ok r)
place_sought b h (Ok i) e = e
place_sought b h (Err i) e = (i, e)
