-- Rows and entries of connections are kinds of records.
use Rattle.std.specs.Prelude.{◌≡◌, ℕ, ◌<◌, List, take, get_or}
use mathlib.Core.Path.{refl}
use lib.Dec.{lit<}
use lib.Seq.{get_or-take}
use Rattle.regions.specs.Regions.{RecordLaws, WholeLaws}
use Rattle.regions.specs.Rows.{row_size, conn_size, row_words, read_row, conn_words, read_conn}

pub row_kind : RecordLaws row_size row_words
unfolding row_words
row_kind = record { some_words = lit< tt; sized = λ r. refl }

row_own : (w : List ℕ) → read_row (take row_size w) ≡ read_row w
unfolding read_row
row_own w =
    let at : (j : ℕ) → j < row_size → get_or (take row_size w) j 0 ≡ get_or w j 0 = λ j h. get_or-take row_size w j 0 h in
    simp (at 0 (lit< tt), at 1 (lit< tt), at 2 (lit< tt), at 3 (lit< tt), at 4 (lit< tt), at 5 (lit< tt), at 6 (lit< tt), at 7 (lit< tt), at 8 (lit< tt))

pub row_whole : WholeLaws row_size row_words read_row
unfolding row_words read_row
row_whole = record { sized = λ r. refl; own = row_own; back = λ r. refl }

pub conn_kind : RecordLaws conn_size conn_words
unfolding conn_words
conn_kind = record { some_words = lit< tt; sized = λ c. refl }

conn_own : (w : List ℕ) → read_conn (take conn_size w) ≡ read_conn w
unfolding read_conn
conn_own w =
    let at : (j : ℕ) → j < conn_size → get_or (take conn_size w) j 0 ≡ get_or w j 0 = λ j h. get_or-take conn_size w j 0 h in
    simp (at 0 (lit< tt), at 1 (lit< tt), at 2 (lit< tt))

pub conn_whole : WholeLaws conn_size conn_words read_conn
unfolding conn_words read_conn
conn_whole = record { sized = λ c. refl; own = conn_own; back = λ c. refl }
