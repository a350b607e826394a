-- Entries of the connections' region that each stand for one row, counted into a table; and what the functions over that region leave.
use Rattle.std.specs.Prelude.{ℕ, suc, ◌%◌, ◌≤◌, ◌<◌, ◌≡◌, Bool, true, false, List, [], ◌∷◌, ◌++◌, length, take, drop, get_or}
use Rattle.regions.specs.declared.Row.{Row}
use Rattle.regions.specs.declared.Conn.{Conn}
use Rattle.regions.specs.Regions.{Holds}
use Rattle.regions.specs.Rows.{conn_size, conn_words}
use Rattle.store.specs.Flat.{own_bit, bump}

-- the entry of one row
abbrev pub entry_of : Row → Conn
entry_of r = record { conn = r.conn; held = 1; owned = own_bit r }

-- one row more, that of the entry c
abbrev pub with_row : Conn → List Conn → List Conn
with_row c t = bump c.conn (c.owned % 2) t

-- the rows of all entries counted into the table t
unfoldable pub counted : List Conn → List Conn → List Conn
counted t [] = t
counted t (c ∷ l) = counted (with_row c t) l

-- a region of capacity L that holds entries
abbrev pub Entries : ℕ → List Conn → List ℕ → Type 0
Entries L cs w = Holds conn_size conn_words L cs w

-- ---- the order of the entries

-- as many entries as cs has, which come to the same counts
pub record Shuffled (L : ℕ) (cs : List Conn) (w : List ℕ) : Type 0 where
  pub entries : List Conn
  pub holds : Entries L entries w
  pub long : length entries ≡ length cs
  pub same : (t : List Conn) → counted t entries ≡ counted t cs

abbrev pub Shuffles : List ℕ → List ℕ → ℕ → Type 0
Shuffles w w' n = (L : ℕ) (cs : List Conn) → n ≤ length cs → Entries L cs w → Shuffled L cs w'

-- ---- the table at the front of the entries

-- the first j of the entries cs are counted, and their table has m entries; the others stand where they stood
pub record Partly (L : ℕ) (cs : List Conn) (w : List ℕ) (m j : ℕ) : Type 0 where
  pub table : List Conn
  pub rest : List Conn
  pub holds : Entries L (table ++ rest) w
  pub many : length table ≡ m
  pub long : length (table ++ rest) ≡ length cs
  pub short : m ≤ j
  pub left : drop j (table ++ rest) ≡ drop j cs
  pub counts : table ≡ counted [] (take j cs)

-- there are such entries, and a j-th
pub record Underway (w : List ℕ) (m j : ℕ) : Type 0 where
  pub capacity : ℕ
  pub entries : List Conn
  pub more : j < length entries
  pub fits : length entries ≤ capacity
  pub partly : Partly capacity entries w m j

-- b tells whether the p-th entry is one of the first m, and x's
pub record EntryAt (w : List ℕ) (m p x : ℕ) (b : Bool) : Type 0 where
  pub inside : b ≡ true → p < m
  pub is : (L : ℕ) (cs : List Conn) (d : Conn) → p < length cs → Entries L cs w → b ≡ true → (get_or cs p d).conn ≡ x
  pub not : (L : ℕ) (cs : List Conn) (d : Conn) → p < length cs → Entries L cs w → b ≡ false → p < m → (get_or cs p d).conn ≡ x → ⊥

-- the j-th entry is counted, and the table has k entries then
abbrev pub Counts : List ℕ → List ℕ → ℕ → ℕ → ℕ → Type 0
Counts w w' m j k = (L : ℕ) (cs : List Conn) → j < length cs → length cs ≤ L → Partly L cs w m j → Partly L cs w' k (suc j)

-- ---- all of them

-- there are n entries
pub record Filled (w : List ℕ) (n : ℕ) : Type 0 where
  pub capacity : ℕ
  pub entries : List Conn
  pub long : length entries ≡ n
  pub fits : n ≤ capacity
  pub holds : Entries capacity entries w

-- the n entries are counted, and the table has k
pub record Settled (w w' : List ℕ) (n k : ℕ) : Type 0 where
  pub most : k ≤ n
  pub all : (L : ℕ) (cs : List Conn) → length cs ≡ n → n ≤ L → Entries L cs w → Entries L (counted [] cs) w' × (length (counted [] cs) ≡ k)
