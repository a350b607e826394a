-- Places that pass the tests are those of the requests that are dressed with them.
use Prim.Native.Nat.{ℕ, zero, suc, ◌≤◌, ◌<◌}
use mathlib.Core.Path.{◌≡◌, refl, sym, ap, ◌∙◌}
use mathlib.Core.Logic.{inl, inr}
use mathlib.Core.Bool.{Bool, true, false}
use mathlib.Core.List.{List, [], ◌∷◌, map}
use mathlib.Core.Option.{Option, none, some}
use native.Mathlib.Omega.{arith}
use lib.Dec.{eqb}
use borrow.Author.Tests.{eq-eqb, ne_eqb}
use Rattle.ident.specs.declared.Kind.{Kind}
use Rattle.ident.specs.declared.Kind.TheVariants.{Wtxid}
use Rattle.ident.specs.Number.{Key, place, wtxid}
use Rattle.ident.proofs.Places.{place_same as place-inj}
use Rattle.regions.specs.declared.Row.{Row}
use Rattle.regions.specs.Regions.{each}
use Rattle.places.specs.Places.{Place}
use Rattle.machine.specs.State.{Owner, Package, Request, Table, is_some}
use Rattle.machine.specs.Table.{total, owner_in, owners}
use Rattle.machine.specs.Sound.{Packed, Lawful, Filled, Ordered, All}
use Rattle.machine.specs.Typed.{Each}
use Rattle.machine.proofs.Tests.{by_test, order}
use Rattle.store.specs.Flat.{row_of, rows_for, rows_of, place_for, places_for, places_of}
use Rattle.store.specs.Gather.{package_at, placed, dress}
use Rattle.store.specs.FlatSound.{count_rows, StageFits, owns_key, PlaceFits, PlacesAscend}
use Rattle.store.proofs.Counts.{at_wtxid}
use Rattle.store.proofs.Dress.{spot_of}
use Rattle.store.proofs.RowBack.{rows_like}
use Rattle.store.proofs.Gathered.{Unplaced}

-- ---- what a place leaves alone

pub record Alike (q r : Request) : Type 0 where
  pub key : q.key ≡ r.key
  pub candidates : q.candidates ≡ r.candidates
  pub owner : q.owner ≡ r.owner
  pub fallback : q.fallback ≡ r.fallback

pub dress_kept : (ps : List Place) (r : Request) → Alike (dress ps r) r
unfolding dress
dress_kept [] r = record { key = refl; candidates = refl; owner = refl; fallback = refl }
dress_kept (p ∷ ps) r =
    by_test (λ (q : Request). Alike q r) (eqb (place (wtxid p.hash)) (place r.key)) (λ e. record { key = refl; candidates = refl; owner = refl; fallback = refl }) (λ e. dress_kept ps r)

rows_kept : (q r : Request) → Alike q r → rows_for q ≡ rows_for r
unfolding rows_for
rows_kept q r k = ap (map (row_of q)) k.candidates ∙ rows_like q r r.candidates k.key k.fallback k.owner

module _ (ps : List Place) where
  pub dress-rows : (t : Table) → rows_of (map (dress ps) t) ≡ rows_of t
  unfolding each
  dress-rows [] = refl
  dress-rows (r ∷ t) = rw (rows_kept (dress ps r) r (dress_kept ps r), dress-rows t)

  pub dress-ordered : (lo : ℕ) (t : Table) → Ordered lo t → Ordered lo (map (dress ps) t)
  dress-ordered lo [] o = tt
  dress-ordered lo (r ∷ t) o = rw (dress_kept ps r).key (o.0, o.1, dress-ordered (suc (place r.key)) t o.2)

  pub dress-filled : (t : Table) → All Filled t → All Filled (map (dress ps) t)
  dress-filled [] f = tt
  dress-filled (r ∷ t) f = (rw (dress_kept ps r).candidates f.0, dress-filled t f.1)

-- ---- places by the order of their keys

abbrev From : ℕ → List Place → Type 0
From lo [] = Unit {0}
From lo (p ∷ ps) = (lo ≤ spot_of p) × From (suc (spot_of p)) ps

from_hashes : (m lo : ℕ) (ps : List Place) → lo ≤ place (wtxid m) → PlacesAscend m ps → From lo ps
from_hashes m lo [] h a = tt
from_hashes m lo (p ∷ ps) h a = (omega (arith, a.0), from_hashes (suc p.hash) (suc (spot_of p)) ps (omega arith) a.1)

from_weaken : (lo hi : ℕ) (ps : List Place) → lo ≤ hi → From hi ps → From lo ps
from_weaken lo hi [] h f = tt
from_weaken lo hi (p ∷ ps) h f = (omega (arith, f.0), f.1)

-- a request before all places
dress_none : (r : Request) (ps : List Place) → From (suc (place r.key)) ps → dress ps r ≡ r
unfolding dress
dress_none r [] f = refl
dress_none r (p ∷ ps) f = rw (ne_eqb (spot_of p) (place r.key) (λ z. omega (arith, f.0))) (dress_none r ps (from_weaken _ _ ps (omega (arith, f.0)) f.1))

-- requests behind a place
dress_past : (p : Place) (ps : List Place) (lo : ℕ) (t : Table) → spot_of p < lo → Ordered lo t → map (dress (p ∷ ps)) t ≡ map (dress ps) t
unfolding dress
dress_past p ps lo [] h o = refl
dress_past p ps lo (r ∷ t) h o = rw (ne_eqb (spot_of p) (place r.key) (λ z. omega (arith, o.0)), dress_past p ps (suc (place r.key)) t (omega (arith, o.0)) o.2)

-- ---- owners by the order of keys

owned_none : (q : ℕ → Bool) (o : Option Owner) → ((n : ℕ) → q n ≡ false) → owner_in q o ≡ 0
owned_none q none h = refl
owned_none q (some o) h = rw (h o.connection)

owned_some : (q : ℕ → Bool) (o : Option Owner) → 1 ≤ owner_in q o → is_some o ≡ true
owned_some q none h = absurd (omega arith)
owned_some q (some o) h = refl

owned-behind : (h lo : ℕ) (t : Table) → place (wtxid h) < lo → Ordered lo t → owners (at_wtxid h) t ≡ 0
unfolding total
owned-behind h lo [] l o = refl
owned-behind h lo (r ∷ t) l o =
    omega (arith, owned_none (at_wtxid h r.key) r.owner (λ n. ne_eqb (place r.key) (place (wtxid h)) (λ z. omega (arith, o.0))), owned-behind h (suc (place r.key)) t (omega (arith, o.0)) o.2)

abbrev OwnedIn : Table → Place → Type 0
OwnedIn t p = 1 ≤ owners (at_wtxid p.hash) t

-- places behind a request are owned by those after it
owned_past : (r : Request) (t : Table) (ps : List Place) → From (suc (place r.key)) ps → Each (OwnedIn (r ∷ t)) ps → Each (OwnedIn t) ps
unfolding total
owned_past r t [] f e = tt
owned_past r t (p ∷ ps) f e = (
  omega (arith, e.0, owned_none (at_wtxid p.hash r.key) r.owner (λ n. ne_eqb (place r.key) (spot_of p) (λ z. omega (arith, f.0)))),
  owned_past r t ps (from_weaken _ _ ps (omega (arith, f.0)) f.1) e.1,
)

-- ---- one request with its place

placed_one : (r : Request) (h c n : ℕ) (ws hs : List ℕ) → h ≡ r.key.hash → StageFits n (record { hash = h; combined = c; stage = n; wtxids = ws; parents = hs })
    → places_for (placed (record { hash = h; combined = c; stage = n; wtxids = ws; parents = hs }) r) ≡ record { hash = h; combined = c; stage = n; wtxids = ws; parents = hs } ∷ []
unfolding places_for
placed_one r h c zero ws hs e s = absurd s
placed_one r h c (suc zero) ws hs e s = rw (e, s.0, s.1)
placed_one r h c (suc (suc zero)) ws hs e s = rw e
placed_one r h c (suc (suc (suc zero))) ws hs e s = rw e
placed_one r h c (suc (suc (suc (suc n)))) ws hs e s = absurd s

packed-stage : (k : Kind) (o : Option Owner) (h c n : ℕ) (ws hs : List ℕ) → is_some o ≡ true → k ≡ Wtxid → StageFits n (record { hash = h; combined = c; stage = n; wtxids = ws; parents = hs })
    → Packed k o (eqb n 1) (package_at (record { hash = h; combined = c; stage = n; wtxids = ws; parents = hs })) hs
packed-stage k o h c zero ws hs a b s = absurd s
packed-stage k o h c (suc zero) ws hs a b s = (a, b)
packed-stage k o h c (suc (suc zero)) ws hs a b s = (a, b, s)
packed-stage k o h c (suc (suc (suc zero))) ws hs a b s = (a, b, s)
packed-stage k o h c (suc (suc (suc (suc n)))) ws hs a b s = absurd s

unplaced_none : (r : Request) → Unplaced r → places_for r ≡ []
unfolding places_for
unplaced_none r u = go r.info r.«package» u.0 u.1
  where
    go : (i : Bool) (p : Option Package) → i ≡ false → p ≡ none → place_for r i p ≡ []
    go i p e f = rw (e, f)

-- ---- all of them

pub record Dressed (ps : List Place) (t : Table) : Type 0 where
  pub places : places_of (map (dress ps) t) ≡ ps
  pub lawful : All Lawful (map (dress ps) t)

past : (ps : List Place) (r : Request) (t : Table) → From (suc (place r.key)) ps → Lawful r → Unplaced r → Dressed ps t → Dressed ps (r ∷ t)
unfolding each
past ps r t f l u d = let e = dress_none r ps f in record { places = rw (e, unplaced_none r u) d.places; lawful = rw e (l, d.lawful) }

here : (rs : List Row) (p : Place) (ps : List Place) (r : Request) (t : Table) → spot_of p ≡ place r.key → Ordered (place r.key) (r ∷ t) → Lawful r → PlaceFits rs p → is_some r.owner ≡ true
    → Dressed ps t → Dressed (p ∷ ps) (r ∷ t)
unfolding each
here rs p ps r t e o l f s d =
    let k : wtxid p.hash ≡ r.key = place-inj (wtxid p.hash) r.key f.hash o.1 e in
    let q : dress (p ∷ ps) r ≡ placed p r = unfold dress in (rw (eq-eqb (spot_of p) (place r.key) e)) in
    let w = dress_past p ps _ t (omega arith) o.2 in
    record {
      places = rw (q, w, placed_one r p.hash p.combined p.stage p.wtxids p.parents (ap (λ (j : Key). j.hash) k) f.stage, d.places);
      lawful = rw (q, w) (
        record {
          candidates = l.candidates;
          owner = l.owner;
          packed = packed-stage r.key.kind r.owner p.hash p.combined p.stage p.wtxids p.parents s (ap (λ (j : Key). j.kind) (sym k)) f.stage;
          parents = f.parents;
          mark = l.mark;
        },
        d.lawful,
      );
    }

dressed_from : (rs : List Row) (lo : ℕ) (t : Table) (ps : List Place) → Ordered lo t → All Lawful t → All Unplaced t → From lo ps → Each (PlaceFits rs) ps → Each (OwnedIn t) ps → Dressed ps t
unfolding each total
dressed_from rs lo [] [] o l u f s w = record { places = refl; lawful = tt }
dressed_from rs lo [] (p ∷ ps) o l u f s w = absurd (omega (arith, w.0))
dressed_from rs lo (r ∷ t) [] o l u f s w = past [] r t tt l.0 u.0 (dressed_from rs (suc (place r.key)) t [] o.2 l.1 u.1 tt tt tt)
dressed_from rs lo (r ∷ t) (p ∷ ps) o l u f s w =
    elim (order (place r.key) (spot_of p)) [
      | inl b ↦ past (p ∷ ps) r t (b, f.1) l.0 u.0 (dressed_from rs _ t (p ∷ ps) o.2 l.1 u.1 (b, f.1) s (owned_past r t (p ∷ ps) (b, f.1) w))
      | inr (inl b) ↦
          let g : From (suc (place r.key)) ps = rw b f.1 in
          let z = owned-behind p.hash _ t (omega arith) o.2 in
          here rs p ps r t (sym b) (omega arith, o.1, o.2) l.0 s.0 (owned_some (at_wtxid p.hash r.key) r.owner (omega (arith, w.0)))
          (dressed_from rs _ t ps o.2 l.1 u.1 g s.1 (owned_past r t ps g w.1))
      | inr (inr b) ↦ absurd (omega (arith, w.0, owned-behind p.hash (place r.key) (r ∷ t) b (omega arith, o.1, o.2)))
    ]

pub dressed : (rs : List Row) (t : Table) (ps : List Place) → Ordered 0 t → All Lawful t → All Unplaced t → PlacesAscend 0 ps → Each (PlaceFits rs) ps
    → ((h : ℕ) → count_rows (owns_key h) rs ≡ owners (at_wtxid h) t) → Dressed ps t
dressed rs t ps o l u a s c = dressed_from rs 0 t ps o l u (from_hashes 0 0 ps (omega arith) a) s (owned ps s)
  where
    owned : (ps : List Place) → Each (PlaceFits rs) ps → Each (OwnedIn t) ps
    owned [] s = tt
    owned (p ∷ ps) s = (omega (arith, s.0.owned, c p.hash), owned ps s.1)
