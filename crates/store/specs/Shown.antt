-- What the functions over a store ask of its bytes, and what they promise of them.
use Rattle.std.specs.Prelude.{ℕ, ◌+◌, ◌*◌, ◌^◌, ◌≤◌, ◌<◌, ◌≡◌, Option, Some, None, Result, Ok, Err, List, map, length, get_or}
use Rattle.words.specs.Words.{words}
use Rattle.regions.specs.declared.Row.{Row}
use Rattle.regions.specs.declared.Conn.{Conn}
use Rattle.regions.specs.Order.{Sorted, Bound, First}
use Rattle.regions.specs.Rows.{row_size, conn_size, key_number, key_of}
use Rattle.places.specs.Places.{Place, place_size}
use Rattle.machine.specs.Limits.{max_announcements, max_places}
use Rattle.machine.specs.State.{State}
use Rattle.machine.specs.Sound.{Sound}
use Rattle.machine.specs.Typed.{Each}
use Rattle.store.specs.Flat.{Flat}
use Rattle.store.specs.Image.{head_size, Shows, Writes}

-- ---- words of the header

abbrev pub limit_at : ℕ
limit_at = 1

abbrev pub places_at : ℕ
places_at = 2

abbrev pub rows_at : ℕ
rows_at = 3

abbrev pub conns_at : ℕ
conns_at = 4

abbrev pub held_places_at : ℕ
held_places_at = 5

-- L and Q, and how many rows, connections and places are in use
abbrev pub limit_in : List ℕ → ℕ
limit_in b = get_or (words b) limit_at 0

abbrev pub rows_in : List ℕ → ℕ
rows_in b = get_or (words b) rows_at 0

abbrev pub conns_in : List ℕ → ℕ
conns_in b = get_or (words b) conns_at 0

abbrev pub places_in : List ℕ → ℕ
places_in b = get_or (words b) places_at 0

abbrev pub held_places_in : List ℕ → ℕ
held_places_in b = get_or (words b) held_places_at 0

-- a number read from the header: a word, and what it says of every flat state that the bytes write
pub record Field (b : List ℕ) (i : ℕ) (g : Flat → ℕ) (r : ℕ) : Type 0 where
  pub word : r ≡ get_or (words b) i 0
  pub field : (f : Flat) → Shows b f → r ≡ g f

-- ---- bytes on which every index and sum is in range

-- the sizes, as the length and the header's words have them (`Shows` has this; it is said again so that index and sum are met by it)
pub record Sizes (b : List ℕ) (f : Flat) : Type 0 where
  pub long : length b ≡ 8 * (head_size + (row_size + conn_size) * f.head.limit + place_size * f.head.places)
  pub limit : get_or (words b) limit_at 0 ≡ f.head.limit
  pub places : get_or (words b) places_at 0 ≡ f.head.places
  pub rows : get_or (words b) rows_at 0 ≡ length f.rows
  pub conns : get_or (words b) conns_at 0 ≡ length f.conns
  pub held-places : get_or (words b) held_places_at 0 ≡ length f.places

pub record Sized (f : Flat) : Type 0 where
  pub limit : f.head.limit ≤ max_announcements
  pub places : f.head.places ≤ max_places
  pub rows_few : length f.rows ≤ f.head.limit
  pub conns_few : length f.conns ≤ f.head.limit
  pub places_few : length f.places ≤ f.head.places

abbrev pub half : ℕ
half = 2 ^ 63

pub record Light (c : Conn) : Type 0 where
  pub held : c.held < half
  pub owned : c.owned < half

pub record Shown (b : List ℕ) : Type 0 where
  pub flat : Flat
  pub shows : Shows b flat
  pub sizes : Sizes b flat
  pub sized : Sized flat
  pub light : Each Light flat.conns

-- bytes that write a sound state
pub record Kept (b : List ℕ) : Type 0 where
  pub state : State
  pub sound : Sound state
  pub writes : Writes b state

-- ---- a flat state with one list changed

abbrev pub with_rows : List Row → Flat → Flat
with_rows rs f = record { head = f.head; rows = rs; conns = f.conns; places = f.places }

abbrev pub with_conns : List Conn → Flat → Flat
with_conns cs f = record { head = f.head; rows = f.rows; conns = cs; places = f.places }

abbrev pub with_places : List Place → Flat → Flat
with_places ps f = record { head = f.head; rows = f.rows; conns = f.conns; places = ps }

-- whatever flat state the bytes b write, b' write g of it
abbrev pub Turns : List ℕ → List ℕ → (Flat → Flat) → Type 0
Turns b b' g = (f : Flat) → Shows b f → Shows b' (g f)

-- ---- searches

-- the numbers by which rows are searched, connections and places
abbrev pub row_numbers : List Row → List ℕ
row_numbers rs = map (λ r. key_number (key_of r)) rs

abbrev pub row_conns : List Row → List ℕ
row_conns rs = map (λ r. r.conn) rs

abbrev pub conn_names : List Conn → List ℕ
conn_names cs = map (λ c. c.conn) cs

abbrev pub place_hashes : List Place → List ℕ
place_hashes ps = map (λ p. p.hash) ps

-- r is where a search of the keys of bytes stops, which is the place of x if they are in order
pub record Seek (b : List ℕ) (keys : Flat → List ℕ) (n x r : ℕ) : Type 0 where
  pub most : r ≤ n
  pub bound : (f : Flat) → Shows b f → Sorted (keys f) → Bound (keys f) x r

-- r is the first of the rows from .. to whose connection is x, or to
pub record Met (b : List ℕ) (from to x r : ℕ) : Type 0 where
  pub least : from ≤ r
  pub most : r ≤ to
  pub first : (f : Flat) → Shows b f → First (row_conns f.rows) from to x r

-- the same, found or not: no row from .. to, where none of them has the connection x
abbrev pub FoundMet : List ℕ → ℕ → ℕ → ℕ → Option ℕ → Type 0
FoundMet b from to x None = Met b from to x to
FoundMet b from to x (Some i) = Met b from to x i × (i < to)

-- ---- the tally

-- the entry of the connection x is the i-th
pub record EntryAt (b : List ℕ) (x i : ℕ) : Type 0 where
  pub sought : Seek b (λ f. conn_names f.conns) (conns_in b) x i
  pub inside : i < conns_in b
  pub is : (f : Flat) (d : Conn) → Shows b f → (get_or f.conns i d).conn ≡ x

-- it has none, which would be the i-th
pub record NoEntry (b : List ℕ) (x i : ℕ) : Type 0 where
  pub sought : Seek b (λ f. conn_names f.conns) (conns_in b) x i
  pub not : (f : Flat) (d : Conn) → Shows b f → i < length f.conns → (get_or f.conns i d).conn ≡ x → ⊥

abbrev pub EntryOf : List ℕ → ℕ → Result ℕ ℕ → Type 0
EntryOf b x (Ok i) = EntryAt b x i
EntryOf b x (Err i) = NoEntry b x i

-- whatever flat state the bytes b write, its connections in order, b' write it with g of them
abbrev pub Tallies : List ℕ → List ℕ → (List Conn → List Conn) → Type 0
Tallies b b' g = (f : Flat) → Sorted (conn_names f.conns) → Shows b f → Shows b' (with_conns (g f.conns) f)
