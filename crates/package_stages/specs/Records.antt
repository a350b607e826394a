-- What the contracts say of places as records: what is read of them, how their lists grow.
use Rattle.std.specs.Prelude.{ℕ, ◌<◌, ◌≡◌, List, [], ◌∷◌, ◌++◌, length, get_or, set}
use Rattle.regions.specs.declared.Quad.{Quad}
use Rattle.regions.specs.Rows.{quad_of}
use Rattle.places.specs.Places.{Place}
use Rattle.store.specs.Flat.{Flat}
use Rattle.store.specs.Image.{Shows}
use Rattle.store.specs.Shown.{held_places_in, Shown, with_places}
pub use Rattle.store.specs.Shown.{place_hashes}

-- r is the j-th hash of a list of the i-th place
abbrev pub HashIn : List ℕ → ℕ → (Place → List ℕ) → ℕ → Quad → Type 0
HashIn b i list j r = (f : Flat) (d : Place) → Shows b f → j < length (list (get_or f.places i d)) → r ≡ quad_of (get_or (list (get_or f.places i d)) j 0)

-- the hash h is put behind the n hashes of a list of the i-th place
abbrev pub PushedIn : List ℕ → List ℕ → ℕ → (Place → List ℕ) → (List ℕ → Place → Place) → ℕ → ℕ → Type 0
PushedIn b b' i list with-list n h =
    (f : Flat) (d : Place) → length (list (get_or f.places i d)) ≡ n → Shows b f
    → Shows b' (with_places (set f.places i (with-list (list (get_or f.places i d) ++ (h ∷ [])) (get_or f.places i d))) f)

-- a list of the i-th place, its wtxids or its parents, is empty
pub record NoneListed (b : List ℕ) (i : ℕ) (list : Place → List ℕ) : Type 0 where
  pub is_shown : Shown b
  pub inside : i < held_places_in b
  pub none_yet : (d : Place) → list (get_or is_shown.flat.places i d) ≡ []

-- the hashes hs become that list of the i-th place, which was empty
abbrev pub ListedIn : List ℕ → List ℕ → ℕ → (Place → List ℕ) → (List ℕ → Place → Place) → List ℕ → Type 0
ListedIn b b' i list with-list hs =
    (f : Flat) (d : Place) → list (get_or f.places i d) ≡ [] → Shows b f → Shows b' (with_places (set f.places i (with-list hs (get_or f.places i d))) f)
