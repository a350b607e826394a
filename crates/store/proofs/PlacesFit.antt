-- The places of a sound table pass the tests of places.
use Prim.Native.Nat.{ℕ, suc, ◌+◌, ◌≤◌, ◌<◌}
use mathlib.Core.Path.{◌≡◌, refl}
use mathlib.Core.Bool.{Bool, true, false}
use mathlib.Core.List.{List, [], ◌∷◌, ◌++◌}
use mathlib.Core.Option.{Option, none, some}
use native.Mathlib.Omega.{arith}
use borrow.Author.Tests.{eq-eqb}
use Rattle.ident.specs.declared.Kind.TheVariants.{Wtxid}
use Rattle.ident.specs.Number.{top, Key, place, wtxid}
use Rattle.regions.specs.declared.Row.{Row}
use Rattle.regions.specs.Regions.{each}
use Rattle.machine.specs.State.{Owner, Package, Request, Table, is_some}
use Rattle.machine.specs.Table.{one, total, owner_in, owners}
use Rattle.machine.specs.Sound.{PackageFits, Packed, Lawful, Ordered, All}
use Rattle.machine.specs.Typed.{Each}
use Rattle.machine.proofs.Tests.{never}
use Rattle.machine.proofs.Announce.{each_append as Each-both}
use Rattle.store.specs.Flat.{place_for, places_for, places_of}
use Rattle.store.specs.FlatSound.{count_rows, StageFits, owns_key, PlaceFits, PlacesAscend}
use Rattle.store.proofs.Counts.{at_wtxid}
use Rattle.store.proofs.Dress.{in_package}

-- ---- one place

stage-fits : (r : Request) (p : Package) (b : Bool) → p.enqueued ≡ b → PackageFits p → StageFits (2 + one b) (in_package r p)
stage-fits r p true e f = record { combined = f.combined; wtxids = f.wtxids; some_wtxid = f.some_wtxid; few_wtxids = f.few_wtxids }
stage-fits r p false e f = record { combined = f.combined; wtxids = f.wtxids; some_wtxid = f.some_wtxid; few_wtxids = f.few_wtxids }

-- an owned request counts as such
owned_one : (p : ℕ → Bool) (o : Option Owner) → ((n : ℕ) → p n ≡ true) → is_some o ≡ true → 1 ≤ owner_in p o
owned_one p none h e = never e
owned_one p (some o) h e = rw (h o.connection) (omega arith)

wtxid-place : (k : Key) → k.kind ≡ Wtxid → place k ≡ place (wtxid k.hash)
wtxid-place k e = rw e

module _ (rs : List Row) where
  places-in : (r : Request) → r.key.hash < top → Lawful r → owner_in (at_wtxid r.key.hash r.key) r.owner ≤ count_rows (owns_key r.key.hash) rs → Each (PlaceFits rs) (places_for r)
  unfolding places_for
  places-in r h l u = go r.info r.«package» l.packed
    where
      owned : is_some r.owner ≡ true → r.key.kind ≡ Wtxid → 1 ≤ count_rows (owns_key r.key.hash) rs
      owned s w = omega (arith, owned_one (at_wtxid r.key.hash r.key) r.owner (λ n. eq-eqb _ _ (wtxid-place r.key w)) s)

      go : (i : Bool) (p : Option Package) → Packed r.key.kind r.owner i p r.parents → Each (PlaceFits rs) (place_for r i p)
      go true (some p) k = absurd k
      go false (some p) k = (record { hash = h; stage = stage-fits r p p.enqueued refl k.2; parents = l.parents; owned = owned k.0 k.1 }, tt)
      go true none k = (record { hash = h; stage = (refl, refl); parents = l.parents; owned = owned k.0 k.1 }, tt)
      go false none k = tt

  pub places-fit : (lo : ℕ) (t : Table) → Ordered lo t → All Lawful t → ((h : ℕ) → owners (at_wtxid h) t ≤ count_rows (owns_key h) rs) → Each (PlaceFits rs) (places_of t)
  unfolding each total
  places-fit lo [] o l u = tt
  places-fit lo (r ∷ t) o l u =
      Each-both (PlaceFits rs) (places_for r) (places_of t) (places-in r o.1 l.0 (omega (arith, u r.key.hash))) (places-fit (suc (place r.key)) t o.2 l.1 (λ h. omega (arith, u h)))

-- ---- their order

-- of requests whose keys come after a place
abbrev Behind : ℕ → Table → Type 0
Behind x t = (n : ℕ) → ((h : ℕ) → suc x ≤ place (wtxid h) → n ≤ h) → PlacesAscend n (places_of t)

-- from lo on in the order of keys is from m on in the order of hashes
pub places-ascend : (lo m : ℕ) (t : Table) → Ordered lo t → All Lawful t → ((h : ℕ) → lo ≤ place (wtxid h) → m ≤ h) → PlacesAscend m (places_of t)
unfolding each places_for
places-ascend lo m [] o l f = tt
places-ascend lo m (r ∷ t) o l f = go r.info r.«package» l.0.packed (λ n g. places-ascend (suc (place r.key)) n t o.2 l.1 g)
  where
    held : r.key.kind ≡ Wtxid → Behind (place r.key) t → (m ≤ r.key.hash) × PlacesAscend (suc r.key.hash) (places_of t)
    held w rest =
        let e = wtxid-place r.key w in
        (f r.key.hash (omega (arith, o.0)), rest (suc r.key.hash) (λ h g. omega arith))

    go : (i : Bool) (p : Option Package) → Packed r.key.kind r.owner i p r.parents → Behind (place r.key) t → PlacesAscend m (place_for r i p ++ places_of t)
    go true (some p) k rest = absurd k
    go false (some p) k rest = held k.1 rest
    go true none k rest = held k.1 rest
    go false none k rest = rest m (λ h g. f h (omega (arith, o.0)))
