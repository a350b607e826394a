-- What the test of the header decides, and that of the three regions.
use Rattle.std.specs.Prelude.{ℕ, zero, suc, ◌-◌, ◌*◌, ◌≤◌, ◌≡◌, List, length, drop, get_or, replicate}
use Rattle.std.proofs.Math.Seq.{slice}
use Rattle.words.specs.Words.{recs}
use Rattle.regions.specs.Rows.{row_size, read_row, conn_size, read_conn}
use Rattle.places.specs.Places.{place_size}
use Rattle.machine.specs.Limits.{max_announcements, max_places, max_alternates}
use Rattle.store.specs.Image.{format, head_size}
use Rattle.store.specs.Read.{read_hash}
use Rattle.sound_rows.specs.Rows.{RowsSound}
use Rattle.sound_rows.specs.Groups.{GroupsSound}
use Rattle.sound_conns.specs.Conns.{ConnsSound}
use Rattle.sound.specs.Places.{PlacesSound}

-- ---- the header

-- 1 and a time, or 0 and 0
abbrev pub PollPlain : ℕ → ℕ → Type 0
PollPlain zero n = n ≡ 0
PollPlain (suc zero) n = Unit {0}
PollPlain (suc (suc m)) n = ⊥

-- 1 Txid or 2 Wtxid and a hash, or 0 and 0
abbrev pub CursorPlain : ℕ → ℕ → Type 0
CursorPlain zero h = h ≡ 0
CursorPlain (suc zero) h = Unit {0}
CursorPlain (suc (suc zero)) h = Unit {0}
CursorPlain (suc (suc (suc n))) h = ⊥

-- word 0 is the format, the others are L, Q, and the rows, connections and places in use
pub record SizesPlain (w : List ℕ) : Type 0 where
  pub format_is : get_or w 0 0 ≡ format
  pub some_limit : 1 ≤ get_or w 1 0
  pub most-limit : get_or w 1 0 ≤ max_announcements
  pub some_place : 1 ≤ get_or w 2 0
  pub most-places : get_or w 2 0 ≤ max_places
  pub rows_few : get_or w 3 0 ≤ get_or w 1 0
  pub conns_few : get_or w 4 0 ≤ get_or w 1 0
  pub places_few : get_or w 5 0 ≤ get_or w 2 0

pub record HeadPlain (w : List ℕ) : Type 0 where
  pub sizes : SizesPlain w
  pub poll : PollPlain (get_or w 6 0) (get_or w 7 0)
  pub known : CursorPlain (get_or w 8 0) (read_hash (drop 9 w))
  pub ready : CursorPlain (get_or w 13 0) (read_hash (drop 14 w))
  pub spare : slice 18 head_size w ≡ replicate 6 0

-- ---- the regions' words r, c and p, with i, j and k records in use

pub record RecordsSound (r : List ℕ) (i : ℕ) (c : List ℕ) (j : ℕ) (p : List ℕ) (k : ℕ) : Type 0 where
  pub rows : RowsSound (recs row_size read_row i r)
  pub groups : GroupsSound max_alternates (recs row_size read_row i r)
  pub conns : ConnsSound (recs row_size read_row i r) (recs conn_size read_conn j c)
  pub places : PlacesSound (recs row_size read_row i r) k p
  pub rows-zero : slice (i * row_size) (length r) r ≡ replicate (length r - i * row_size) 0
  pub conns-zero : slice (j * conn_size) (length c) c ≡ replicate (length c - j * conn_size) 0
  pub places-zero : slice (k * place_size) (length p) p ≡ replicate (length p - k * place_size) 0
