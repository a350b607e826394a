-- Requests find their places again, and a table is read back from its rows and places.
use Prim.Native.Nat.{ℕ, suc, ◌+◌, ◌≤◌, ◌<◌}
use mathlib.Core.Path.{◌≡◌, refl, sym, ap, ◌∙◌}
use mathlib.Core.Bool.{Bool, true, false}
use mathlib.Core.List.{List, [], ◌∷◌, ◌++◌, map, append_assoc, append-nil}
use mathlib.Core.Option.{Option, none, some}
use native.Mathlib.Omega.{arith}
use borrow.Author.Tests.{eq-eqb, ne_eqb}
use Rattle.ident.specs.declared.Kind.TheVariants.{Wtxid}
use Rattle.ident.specs.Number.{place, wtxid}
use Rattle.regions.specs.Regions.{each}
use Rattle.places.specs.Places.{Place}
use Rattle.machine.specs.State.{Package, Request, Table, State}
use Rattle.machine.specs.Table.{one}
use Rattle.machine.specs.Sound.{Packed, Lawful, Filled, Ordered, All, Sound}
use Rattle.store.specs.Flat.{rows_of, place_for, places_for, places_of, flat_of}
use Rattle.store.specs.Gather.{placed, dress, table_in, state_in}
use Rattle.store.proofs.Regather.{bare, gather-table}

-- where a place's key stands in the order of keys
abbrev pub spot_of : Place → ℕ
spot_of p = place (wtxid p.hash)

abbrev Apart : ℕ → List Place → Type 0
Apart x [] = Unit {0}
Apart x (p ∷ ps) = (spot_of p ≡ x → ⊥) × Apart x ps

abbrev Under : ℕ → List Place → Type 0
Under x [] = Unit {0}
Under x (p ∷ ps) = (spot_of p < x) × Under x ps

under_apart : (x : ℕ) (ps : List Place) → Under x ps → Apart x ps
under_apart x [] u = tt
under_apart x (p ∷ ps) u = ((λ e. omega (arith, u.0)), under_apart x ps u.1)

under_more : (x y : ℕ) (ps : List Place) → x ≤ y → Under x ps → Under y ps
under_more x y [] h u = tt
under_more x y (p ∷ ps) h u = (omega (arith, u.0), under_more x y ps h u.1)

under_append : (x : ℕ) (ps qs : List Place) → Under x ps → Under x qs → Under x (ps ++ qs)
under_append x [] qs u v = v
under_append x (p ∷ ps) qs u v = (u.0, under_append x ps qs u.1 v)

dress-skip : (r : Request) (ps qs : List Place) → Apart (place r.key) ps → dress (ps ++ qs) r ≡ dress qs r
unfolding dress
dress-skip r [] qs a = refl
dress-skip r (p ∷ ps) qs a = rw (ne_eqb (spot_of p) (place r.key) a.0, dress-skip r ps qs a.1)

-- the one place of a request, if it has one
pub data Has (r : Request) : List Place → Type 0 where
  nothing : bare r ≡ r → Has r []
  its : (p : Place) → spot_of p ≡ place r.key → placed p (bare r) ≡ r → Has r (p ∷ [])

wtxid_spot : (r : Request) → r.key.kind ≡ Wtxid → place (wtxid r.key.hash) ≡ place r.key
wtxid_spot r e = rw e

abbrev pub in_package : Request → Package → Place
in_package r p = record { hash = r.key.hash; combined = p.combined; stage = 2 + one p.enqueued; wtxids = p.wtxids; parents = r.parents }

in-package : (r : Request) (p : Package) (b : Bool) → p.enqueued ≡ b → r.info ≡ false → r.«package» ≡ some p → placed (in_package r p) (bare r) ≡ r
in-package r p true z e f = rw (z, e, f, ← z)
in-package r p false z e f = rw (z, e, f, ← z)

abbrev pub in_flag : Request → Place
in_flag r = record { hash = r.key.hash; combined = 0; stage = 1; wtxids = []; parents = r.parents }

in-flag : (r : Request) → r.info ≡ true → r.«package» ≡ none → placed (in_flag r) (bare r) ≡ r
in-flag r e f = rw (e, f)

pub has-place : (r : Request) → Lawful r → Has r (places_for r)
unfolding places_for
has-place r l = go r.info r.«package» refl refl l.packed
  where
    go : (i : Bool) (p : Option Package) → r.info ≡ i → r.«package» ≡ p → Packed r.key.kind r.owner i p r.parents → Has r (place_for r i p)
    go true (some p) e f k = absurd k
    go false (some p) e f k = its (in_package r p) (wtxid_spot r k.1) (in-package r p p.enqueued refl e f)
    go true none e f k = its (in_flag r) (wtxid_spot r k.1) (in-flag r e f)
    go false none e f k = nothing (rw (e, f, k))

under_places : (lo hi : ℕ) (t : Table) → Ordered lo t → All Lawful t → (x : ℕ) → x < lo → Apart x (places_of t)
unfolding each
under_places lo hi [] o l x h = tt
under_places lo hi (r ∷ t) o l x h = go (places_for r) (has-place r l.0) (under_places (suc (place r.key)) hi t o.2 l.1 x (omega (arith, o.0)))
  where
    go : (ps : List Place) → Has r ps → Apart x (places_of t) → Apart x (ps ++ places_of t)
    go ps (nothing e) a = a
    go ps (its p e f) a = ((λ z. omega (arith, o.0)), a)

-- a request finds its own place, whatever is before and behind
dressed : (r : Request) (ps qs : List Place) → Has r ps → Apart (place r.key) qs → dress (ps ++ qs) (bare r) ≡ r
unfolding dress
dressed r ps qs (nothing e) a = ap (λ (l : List Place). dress l (bare r)) (sym (append-nil qs)) ∙ dress-skip (bare r) qs [] a ∙ e
dressed r ps qs (its p e f) a = rw (eq-eqb (spot_of p) (place r.key) e) f

under_its : (r : Request) (ps : List Place) → Has r ps → Under (suc (place r.key)) ps
under_its r ps (nothing e) = tt
under_its r ps (its p e f) = (omega arith, tt)

dress-table : (lo : ℕ) (t : Table) (ps : List Place) → Ordered lo t → All Lawful t → Under lo ps → map (dress (ps ++ places_of t)) (map bare t) ≡ t
unfolding each
dress-table lo [] ps o l u = refl
dress-table lo (r ∷ t) ps o l u =
    let h = has-place r l.0 in
    let one : dress (ps ++ (places_for r ++ places_of t)) (bare r) ≡ r =
    dress-skip (bare r) ps (places_for r ++ places_of t) (under_apart (place r.key) ps (under_more lo (place r.key) ps o.0 u)) ∙
    dressed r (places_for r) (places_of t) h (under_places _ 0 t o.2 l.1 (place r.key) (omega arith)) in
    let rest = dress-table (suc (place r.key)) t (ps ++ places_for r) o.2 l.1 (under_append _ ps (places_for r) (under_more lo _ ps (omega (arith, o.0)) u) (under_its r (places_for r) h)) in
    rw one (ap (λ (l : List Request). r ∷ l) (rw append_assoc at rest))

-- rows and places show the table that they are of
pub table_back : (t : Table) → Ordered 0 t → All Lawful t → All Filled t → table_in (rows_of t) (places_of t) ≡ t
unfolding table_in
table_back t o l f = rw (gather-table 0 t o l f) (dress-table 0 t [] o l tt)

pub state_back : (s : State) → Sound s → state_in (flat_of s) ≡ s
state_back s h = rw (table_back s.table h.bounded.ordered h.bounded.lawful h.bounded.filled)
