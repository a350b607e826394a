-- Rows, connections and places are parts of a store.
use Rattle.std.specs.Prelude.{ℕ, ◌+◌, ◌*◌, ◌≡◌, List, [], ◌++◌, length}
use mathlib.Core.Path.{refl, sym}
use mathlib.Core.List.{append_assoc, append-nil}
use mathlib.Core.Option.{Option, none, some}
use native.Mathlib.Omega.{arith}
use lib.Dec.{lit<}
use lib.ListN.{length-append}
use Rattle.ident.specs.Number.{Key}
use Rattle.regions.specs.Regions.{each, padded}
use Rattle.regions.specs.Rows.{row_size, row_words, conn_size, conn_words}
use Rattle.regions.proofs.Regions.{length-padded}
use Rattle.places.specs.Places.{place_size, place_words}
use Rattle.store.specs.Flat.{Head, Flat}
use Rattle.store.specs.Image.{head_size, head_words, poll_words, cursor_words, words_of}
use Rattle.store.specs.Shown.{rows_at, conns_at, held_places_at}
use Rattle.store.specs.Parts.{row_shape, conn_shape, place_shape, Framed, PartLaws}

-- ---- the header has 24 words

polls : (p : Option ℕ) → length (poll_words p) ≡ 2
polls none = refl
polls (some n) = refl

cursors : (c : Option Key) → length (cursor_words c) ≡ 5
cursors none = refl
cursors (some k) = refl

heads : (h : Head) (n c q : ℕ) → length (head_words h n c q) ≡ head_size
unfolding head_words
heads h n c q = simp (length-append, polls h.next_poll, cursors h.known_cursor, cursors h.ready_cursor)

-- ---- the parts

last : (a b c d : List ℕ) → a ++ (b ++ (c ++ d)) ≡ (a ++ (b ++ c)) ++ (d ++ [])
last a b c d = rw append-nil (simp append_assoc)

length_of : (a b c : List ℕ) → length (a ++ (b ++ c)) ≡ length a + length b + length c
length_of a b c = rw (length-append, length-append) (omega arith)

module _ (f : Flat) where
  abbrev head : List ℕ
  head = head_words f.head (length f.rows) (length f.conns) (length f.places)

  head_long : length head ≡ head_size
  head_long = heads f.head (length f.rows) (length f.conns) (length f.places)

  abbrev rows : List ℕ
  rows = padded (row_size * f.head.limit) (each row_words f.rows)

  rows_long : length rows ≡ row_size * f.head.limit
  rows_long = length-padded (row_size * f.head.limit) (each row_words f.rows)

  abbrev conns : List ℕ
  conns = padded (conn_size * f.head.limit) (each conn_words f.conns)

  conns_long : length conns ≡ conn_size * f.head.limit
  conns_long = length-padded (conn_size * f.head.limit) (each conn_words f.conns)

  abbrev places : List ℕ
  places = padded (place_size * f.head.places) (each place_words f.places)

  rows_framed : Framed row_size row_shape row_words rows_at f
  unfolding words_of head_words
  rows_framed = record { before = head; behind = conns ++ places; long = head_long; counts = refl; words_are = refl; changed_are = λ xs. refl; head_stays = λ xs. refl }

  conns_framed : Framed conn_size conn_shape conn_words conns_at f
  unfolding words_of head_words
  conns_framed = record {
    before = head ++ rows;
    behind = places;
    long = rw length-append (omega (arith, head_long, rows_long));
    counts = refl;
    words_are = sym (append_assoc head rows (conns ++ places));
    changed_are = λ xs. sym (append_assoc (head_words f.head (length f.rows) (length xs) (length f.places)) rows _);
    head_stays = λ xs. refl;
  }

  places_framed : Framed place_size place_shape place_words held_places_at f
  unfolding words_of head_words
  places_framed = record {
    before = head ++ (rows ++ conns);
    behind = [];
    long = rw (length_of head rows conns) (omega (arith, head_long, rows_long, conns_long));
    counts = refl;
    words_are = last head rows conns places;
    changed_are = λ xs. last (head_words f.head (length f.rows) (length f.conns) (length xs)) rows conns _;
    head_stays = λ xs. refl;
  }

pub row_laws : PartLaws row_size row_shape row_words rows_at
row_laws = record { in_head = lit< tt; behind_head = λ L Q. omega arith; few = λ f s. s.rows_few; framed = rows_framed }

pub conn_laws : PartLaws conn_size conn_shape conn_words conns_at
conn_laws = record { in_head = lit< tt; behind_head = λ L Q. omega arith; few = λ f s. s.conns_few; framed = conns_framed }

pub place_laws : PartLaws place_size place_shape place_words held_places_at
place_laws = record { in_head = lit< tt; behind_head = λ L Q. omega arith; few = λ f s. s.places_few; framed = places_framed }
