-- Rows, connections and places read back from the words that they were written as.
use Prim.Native.Nat.{ℕ, ◌-◌, ◌*◌, ◌≤◌}
use mathlib.Core.Path.{◌≡◌, refl}
use mathlib.Core.List.{List, [], ◌∷◌, ◌++◌, append_assoc}
use native.Mathlib.Omega.{arith}
use lib.ListN.{length, replicate}
use lib.Seq.{take_at, drop_at}
use Rattle.words.specs.Words.{recs}
use Rattle.regions.specs.declared.Row.{Row}
use Rattle.regions.specs.declared.Conn.{Conn}
use Rattle.regions.specs.Regions.{each, padded}
use Rattle.regions.specs.Rows.{row_size, row_words, read_row, conn_size, conn_words, read_conn}
use Rattle.regions.proofs.Regions.{padded-fit, length_each}
use Rattle.places.specs.Places.{Place, place_size, place_words, read_place, PlaceShort}
use Rattle.places.proofs.Places.{length-place}
use Rattle.places.proofs.Columns.{place_back}
use Rattle.machine.specs.Typed.{Each}

-- ---- records of a region

module _ {A : Type 0} (k : ℕ) (enc : A → List ℕ) (len : (a : A) → length (enc a) ≡ k) (dec : List ℕ → A) where
  -- whatever follows them
  each_back : (xs : List A) (z : List ℕ) → Each (λ a. dec (enc a) ≡ a) xs → recs k dec (length xs) (each enc xs ++ z) ≡ xs
  unfolding recs each
  each_back [] z h = refl
  each_back (a ∷ xs) z h =
      rw (append_assoc, take_at (enc a) (each enc xs ++ z) k (len a), drop_at (enc a) (each enc xs ++ z) k (len a), h.0, each_back xs z h.1)

  pub region_back : (n : ℕ) (xs : List A) (z : List ℕ) → k * length xs ≤ n → Each (λ a. dec (enc a) ≡ a) xs → recs k dec (length xs) (padded n (each enc xs) ++ z) ≡ xs
  region_back n xs z l h =
      let b : length (each enc xs) ≤ n = omega (arith, length_each k enc len xs) in
      let zs : List ℕ = replicate (n - length (each enc xs)) 0 in
      rw (padded-fit n (each enc xs) b, append_assoc (each enc xs) zs z) (each_back xs (zs ++ z) h)

-- a law of all, for each of a list
each_of : {A : Type 0} (P : A → Type 0) → ((a : A) → P a) → (l : List A) → Each P l
each_of P f [] = tt
each_of P f (a ∷ l) = (f a, each_of P f l)

-- ---- rows and connections

pub length-row : (r : Row) → length (row_words r) ≡ row_size
unfolding row_words
length-row r = refl

row_back : (r : Row) → read_row (row_words r) ≡ r
unfolding row_words read_row
row_back r = refl

pub rows_back : (n : ℕ) (rs : List Row) (z : List ℕ) → length rs ≤ n → recs row_size read_row (length rs) (padded (row_size * n) (each row_words rs) ++ z) ≡ rs
rows_back n rs z l = region_back row_size row_words length-row read_row (row_size * n) rs z (omega arith) (each_of _ row_back rs)

length-conn : (c : Conn) → length (conn_words c) ≡ conn_size
unfolding conn_words
length-conn c = refl

conn_back : (c : Conn) → read_conn (conn_words c) ≡ c
unfolding conn_words read_conn
conn_back c = refl

pub conns_back : (n : ℕ) (cs : List Conn) (z : List ℕ) → length cs ≤ n → recs conn_size read_conn (length cs) (padded (conn_size * n) (each conn_words cs) ++ z) ≡ cs
conns_back n cs z l = region_back conn_size conn_words length-conn read_conn (conn_size * n) cs z (omega arith) (each_of _ conn_back cs)

-- ---- places

places_read : (ps : List Place) → Each PlaceShort ps → Each (λ p. read_place (place_words p) ≡ p) ps
places_read [] a = tt
places_read (p ∷ ps) a = (place_back p a.0, places_read ps a.1)

pub places_back : (n : ℕ) (ps : List Place) (z : List ℕ) → length ps ≤ n → Each PlaceShort ps
    → recs place_size read_place (length ps) (padded (place_size * n) (each place_words ps) ++ z) ≡ ps
places_back n ps z l a = region_back place_size place_words length-place read_place (place_size * n) ps z (omega arith) (places_read ps a)
