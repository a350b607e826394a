-- The state that words show, whatever the words are.
use Rattle.std.specs.Prelude.{ℕ, zero, suc, ◌+◌, ◌*◌, List, drop, get_or}
use Rattle.std.proofs.Math.Option.{Option, none, some}
use Rattle.ident.specs.declared.Kind.TheVariants.{Txid, Wtxid}
use Rattle.ident.specs.Number.{Key}
use Rattle.words.specs.Words.{recs}
use Rattle.regions.specs.Rows.{read_quad, quad_number, row_size, read_row, conn_size, read_conn}
use Rattle.places.specs.Places.{place_size}
unfoldable pub use Rattle.places.specs.Places.{read_hash, read_place}
use Rattle.machine.specs.State.{State}
use Rattle.store.specs.Flat.{Head, Flat}
use Rattle.store.specs.Gather.{state_in}
use Rattle.store.specs.Image.{head_size}

abbrev pub poll_is : ℕ → ℕ → Option ℕ
poll_is zero n = none
poll_is (suc m) n = some n

abbrev pub cursor_is : ℕ → ℕ → Option Key
cursor_is zero h = none
cursor_is (suc zero) h = some (record { kind = Txid; hash = h })
cursor_is (suc (suc n)) h = some (record { kind = Wtxid; hash = h })

abbrev pub cursor_at : List ℕ → Option Key
cursor_at w = cursor_is (get_or w 0 0) (quad_number (read_quad (drop 1 w)))

unfoldable pub head_in : List ℕ → Head
head_in w = record { limit = get_or w 1 0; places = get_or w 2 0; next_poll = poll_is (get_or w 6 0) (get_or w 7 0); known_cursor = cursor_at (drop 8 w); ready_cursor = cursor_at (drop 13 w) }

-- the records in use that the words name
unfoldable pub flat_in : List ℕ → Flat
flat_in w = record {
  head = head_in w;
  rows = recs row_size read_row (get_or w 3 0) (drop head_size w);
  conns = recs conn_size read_conn (get_or w 4 0) (drop (head_size + row_size * get_or w 1 0) w);
  places = recs place_size read_place (get_or w 5 0) (drop (head_size + (row_size + conn_size) * get_or w 1 0) w);
}

unfoldable pub state_of : List ℕ → State
state_of w = state_in (flat_in w)
