-- What the test of the rows of one hash decides, in the words of FlatSound, and what its parts decide.
use Rattle.std.specs.Prelude.{ℕ, ◌+◌, ◌-◌, ◌*◌, ◌%◌, ◌≤◌, ◌<◌, ◌≡◌, ◌⊎◌, true, ◌&&◌, List, [], ◌∷◌, eqb, length, take, drop, get_or}
use Rattle.ident.specs.declared.Kind.{Kind}
use Rattle.ident.specs.Number.{kind_is}
use Rattle.words.specs.Words.{recs, Decides}
use Rattle.regions.specs.declared.Row.{Row}
use Rattle.sound_rows.specs.declared.group.Found.{Found}
use Rattle.regions.specs.Rows.{row_size, read_row}
use Rattle.store.specs.FlatSound.{RowFits, count_rows, hash_at, mark_bit, owns}
use Rattle.sound_rows.specs.Rows.{mark_for}

-- at most `most` rows of a hash, no connection twice, one owner at most
pub record GroupsSound (most : ℕ) (rs : List Row) : Type 0 where
  pub alternates : (h : ℕ) → count_rows (λ r. eqb (hash_at r) h) rs ≤ most
  pub once : (n h : ℕ) → count_rows (λ r. eqb (hash_at r) h && eqb r.conn n) rs ≤ 1
  pub single : (h : ℕ) → count_rows (λ r. eqb (hash_at r) h && owns r) rs ≤ 1

-- ---- rows by their index

abbrev pub row_at : List ℕ → ℕ → Row
row_at w i = read_row (take row_size (drop (row_size * i) w))

-- those from i to m
abbrev pub rows_in : List ℕ → ℕ → ℕ → List Row
rows_in w i m = recs row_size read_row (m - i) (drop (row_size * i) w)

-- ---- a step of the walk along two halves, from i to m and from j to n

-- h is the least hash of the two rows that come next
pub record Least (w : List ℕ) (i m j n h : ℕ) : Type 0 where
  pub left : i < m → h ≤ hash_at (row_at w i)
  pub right : j < n → h ≤ hash_at (row_at w j)
  pub some : ((i < m) × (hash_at (row_at w i) ≡ h)) ⊎ ((j < n) × (hash_at (row_at w j) ≡ h))

-- the rows from .. r are not above h, and the one at r is
pub record Run (w : List ℕ) (from to h r : ℕ) : Type 0 where
  pub least : from ≤ r
  pub most : r ≤ to
  pub upto : (k : ℕ) → from ≤ k → k < r → hash_at (row_at w k) ≤ h
  pub past : r < to → h < hash_at (row_at w r)

-- ---- the rows of one hash: a of them Txid, b of them Wtxid

abbrev pub rows_by : ℕ → List Row → ℕ
rows_by n rs = count_rows (λ r. eqb r.conn n) rs

-- no connection of these rows is in a later one of them, or in one of the others
abbrev pub Apart : List Row → List Row → Type 0
Apart others [] = Unit {0}
Apart others (r ∷ rs) = (rows_by r.conn rs ≡ 0) × (rows_by r.conn others ≡ 0) × Apart others rs

-- no connection is in two of the rows a and b
abbrev pub Once : List Row → List Row → Type 0
Once a b = Apart b a × Apart [] b

-- ---- slots of connections

abbrev pub conn_slots : ℕ
conn_slots = 1024

-- the slots of the rows' connections have the mark v
abbrev pub ConnsMarked : ℕ → List ℕ → List Row → Type 0
ConnsMarked v t rs = (x : ℕ) → 0 < rows_by x rs → get_or t (x % conn_slots) 0 ≡ v

-- no connection is in two of the rows a and b, said by how many rows it has
abbrev pub Distinct : List Row → List Row → Type 0
Distinct a b = (n : ℕ) → rows_by n a + rows_by n b ≤ 1

-- the slots t have become t': if other rows were marked, and are of distinct connections, the rows from .. to are so too beside them, and are marked
abbrev pub Marking : List ℕ → ℕ → ℕ → ℕ → List ℕ → List ℕ → Type 0
Marking w from to v t t' = (others : List Row) → ConnsMarked v t others → Distinct others [] → Distinct others (rows_in w from to) × ConnsMarked v t' (rows_in w from to)

-- r is fit, of the kind, and has the mark of the request that f is a row of
pub record RowIn (k : Kind) (f r : Row) : Type 0 where
  pub fit : RowFits r
  pub kind : kind_is (r.bits % 2) ≡ k
  pub mark : mark_bit r ≡ mark_for k f

abbrev pub Alike : Kind → List ℕ → ℕ → ℕ → Type 0
Alike kind w from i = (k : ℕ) → from ≤ k → k < i → RowIn kind (row_at w from) (row_at w k)

-- the rows from .. e of a half that ends at `to` are fit, and the next has a higher hash than h
pub record Fitting (kind : Kind) (w : List ℕ) (from to h e : ℕ) : Type 0 where
  pub rows : Alike kind w from e
  pub rising : e < to → h < hash_at (row_at w e)

-- what a walk from the row `from` along those of the hash h has found
pub record Walked (kind : Kind) (w : List ℕ) (from to h v : ℕ) (t t' : List ℕ) (r : Found) : Type 0 where
  pub least : from ≤ r.to
  pub most : r.to ≤ to
  pub same : (k : ℕ) → from ≤ k → k < r.to → hash_at (row_at w k) ≡ h
  pub past : r.to < to → hash_at (row_at w r.to) ≡ h → ⊥
  pub owners : r.owners ≡ count_rows owns (rows_in w from r.to)
  pub few : r.owners ≤ r.to - from
  pub once : r.once ≡ true → Marking w from r.to v t t'
  pub fit : Decides r.fit (Fitting kind w from to h r.to)

pub record GroupFits (most : ℕ) (a b : List Row) : Type 0 where
  pub few : length a + length b ≤ most
  pub once : Distinct a b
  pub single : count_rows owns a + count_rows owns b ≤ 1
