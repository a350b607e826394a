-- Where in the bytes of a store its rows, connections and places lie.
use Rattle.std.specs.Prelude.{ℕ, ◌+◌, ◌*◌, ◌≤◌, ◌<◌, ◌≡◌, List, ◌++◌, length, get_or, set}
use Rattle.words.specs.Words.{words}
use Rattle.regions.specs.declared.Row.{Row}
use Rattle.regions.specs.declared.Conn.{Conn}
use Rattle.regions.specs.Regions.{each, padded}
use Rattle.regions.specs.Rows.{row_size, conn_size}
use Rattle.places.specs.Places.{Place, place_size}
use Rattle.store.specs.Flat.{Flat}
use Rattle.store.specs.Image.{head_size, words_of}
use Rattle.store.specs.Shown.{limit_in, places_in, Sized, with_rows, with_conns, with_places}

-- the bytes from .. to are the words a .. e
pub record PartOf (b : List ℕ) (a e from to : ℕ) : Type 0 where
  pub from_is : from ≡ a * 8
  pub to_is : to ≡ e * 8
  pub within : to ≤ length b

-- the words before the connections, before the places and before the end
abbrev pub conns_from : List ℕ → ℕ
conns_from b = head_size + limit_in b * row_size

abbrev pub places_from : List ℕ → ℕ
places_from b = conns_from b + limit_in b * conn_size

abbrev pub places_to : List ℕ → ℕ
places_to b = places_from b + places_in b * place_size

-- the regions of the rows, of the connections and of the places
abbrev pub RowsPart : List ℕ → ℕ → ℕ → Type 0
RowsPart b = PartOf b head_size (conns_from b)

abbrev pub ConnsPart : List ℕ → ℕ → ℕ → Type 0
ConnsPart b = PartOf b (conns_from b) (places_from b)

abbrev pub PlacesPart : List ℕ → ℕ → ℕ → Type 0
PlacesPart b = PartOf b (places_from b) (places_to b)

-- ---- a part as a list of records

-- how many records of a part are in use: the word of the header that counts them
abbrev pub in_use : List ℕ → ℕ → ℕ
in_use b count = get_or (words b) count 0

-- which list of a flat state it is and, by L and Q, behind how many words it stands and how many records it has room for
pub record Shape (A : Type 0) : Type 1 where
  pub list : Flat → List A
  pub changed : List A → Flat → Flat
  pub first : ℕ → ℕ → ℕ
  pub room : ℕ → ℕ → ℕ

abbrev pub row_shape : Shape Row
row_shape = record { list = λ f. f.rows; changed = with_rows; first = λ L Q. head_size; room = λ L Q. L }

abbrev pub conn_shape : Shape Conn
conn_shape = record { list = λ f. f.conns; changed = with_conns; first = λ L Q. head_size + L * row_size; room = λ L Q. L }

abbrev pub place_shape : Shape Place
place_shape = record { list = λ f. f.places; changed = with_places; first = λ L Q. head_size + L * row_size + L * conn_size; room = λ L Q. Q }

-- how many it has room for
abbrev pub room_in : {A : Type 0} → List ℕ → Shape A → ℕ
room_in b p = p.room (limit_in b) (places_in b)

module _ {A : Type 0} (k : ℕ) (p : Shape A) where
  -- the bytes from .. to are those of a part whose records have k words
  abbrev pub Region : List ℕ → ℕ → ℕ → Type 0
  Region b = PartOf b (p.first (limit_in b) (places_in b)) (p.first (limit_in b) (places_in b) + p.room (limit_in b) (places_in b) * k)

  module _ (enc : A → List ℕ) (count : ℕ) where
    -- the words of a flat state: what stands before the part, the part, what stands behind it; a change of the list changes the part and its count
    pub record Framed (f : Flat) : Type 0 where
      pub before : List ℕ
      pub behind : List ℕ
      pub long : length before ≡ p.first f.head.limit f.head.places
      pub counts : get_or before count 0 ≡ length (p.list f)
      pub words_are : words_of f ≡ before ++ (padded (k * p.room f.head.limit f.head.places) (each enc (p.list f)) ++ behind)
      pub changed_are : (xs : List A) → words_of (p.changed xs f) ≡ set before count (length xs) ++ (padded (k * p.room f.head.limit f.head.places) (each enc xs) ++ behind)
      pub head_stays : (xs : List A) → (p.changed xs f).head ≡ f.head

    pub record PartLaws : Type 0 where
      pub in_head : count < head_size
      pub behind_head : (L Q : ℕ) → head_size ≤ p.first L Q
      pub few : (f : Flat) → Sized f → length (p.list f) ≤ p.room f.head.limit f.head.places
      pub framed : (f : Flat) → Framed f
