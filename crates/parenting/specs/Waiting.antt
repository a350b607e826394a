-- Parents of one connection that wait beside the store: their rows come in together, and their requests are marked then.
use Rattle.std.specs.Prelude.{ℕ, ◌+◌, ◌≤◌, ◌<◌, ◌≡◌, Bool, true, false, List, [], ◌∷◌, map, length}
use Rattle.ident.specs.Number.{top, Key, txid}
use Rattle.regions.specs.declared.Row.{Row}
use Rattle.regions.specs.Regions.{Holds}
use Rattle.regions.specs.Rows.{row_size, row_words}
use Rattle.machine.specs.State.{Entry, Table, State, limits_of, on_table}
use Rattle.machine.specs.Table.{held, is_candidate}
use Rattle.machine.specs.Fail.{mark}
use Rattle.machine.specs.Sound.{Sound}
use Rattle.machine.specs.Typed.{Each}
use Rattle.store.specs.Gather.{key_at}
use Rattle.store.specs.Image.{Writes}
use Rattle.announcing.specs.Answers.{one_parent}
use Rattle.gathering.specs.Waits.{pushes, waits}
use Rattle.gathering.specs.Aside.{Mixed, Aside}

-- ---- marks

-- the requests under these keys, marked
unfoldable pub marks : List Key → Table → Table
marks [] t = t
marks (k ∷ ks) t = marks ks (mark k t)

abbrev pub keys_of : List Entry → List Key
keys_of es = map (λ (a : Entry). a.key) es

abbrev pub row_keys : List Row → List Key
row_keys ys = map key_at ys

-- a Txid key
pub record TxKey (k : Key) : Type 0 where
  pub kind : k ≡ txid k.hash
  pub small : k.hash < top

-- the bytes b write a sound state, and beside it stand in the words w d rows under Txid keys
pub record Markable (b w : List ℕ) (d : ℕ) : Type 0 where
  pub state : State
  pub sound : Sound state
  pub writes : Writes b state
  pub space : ℕ
  pub rows : List Row
  pub count : length rows ≡ d
  pub holds : Holds row_size row_words space rows w
  pub keys : Each TxKey (row_keys rows)

-- the requests of these rows are marked
abbrev pub RowsMarked : List ℕ → List ℕ → List ℕ → ℕ → Type 0
RowsMarked b b' w d =
    (space : ℕ) (rows : List Row) → length rows ≡ d → Holds row_size row_words space rows w → Each TxKey (row_keys rows) → (st : State) → Sound st → Writes b st
    → Writes b' (on_table (marks (row_keys rows) st.table) st)

-- ---- those that wait

-- the candidate of a parent
pub record Parental (a : Entry) : Type 0 where
  pub kind : a.key ≡ txid a.key.hash
  pub preferred : a.candidate.preferred ≡ true

module _ (n : ℕ) where
  -- the bytes b write st with a table that lacks d parents of the connection n; their rows are in the words w, and with them, marked, it is the table t
  pub record Beside (b w : List ℕ) (d : ℕ) (st : State) (t : Table) : Type 0 where
    pub base : Table
    pub entries : List Entry
    pub parental : Each Parental entries
    pub sound : Sound (on_table base st)
    pub writes : Writes b (on_table base st)
    pub aside : Aside n base entries w d
    pub room : held base + d ≤ st.limit
    pub together : Sound (on_table (pushes entries base) st)
    pub table : t ≡ marks (keys_of entries) (pushes entries base)

  -- some state and table
  pub record Waits (b w : List ℕ) (d : ℕ) : Type 0 where
    pub state : State
    pub with_them : Table
    pub beside : Beside b w d state with_them

  -- they have come in
  abbrev pub LetIn : List ℕ → List ℕ → List ℕ → List ℕ → ℕ → Type 0
  LetIn b b' w w' d = (st : State) (t : Table) → Beside b w d st t → Beside b' w' 0 st t

-- r of true: the connection n has announced the hash h, and none of the d that wait is at it
pub record Adoptable (b w : List ℕ) (d h n : ℕ) (r : Bool) : Type 0 where
  pub known : r ≡ true → (st : State) → Sound st → Writes b st → is_candidate n h st.table ≡ true
  pub apart : r ≡ true → (st : State) → Sound st → Writes b st → (es : List Entry) → Mixed st.table es w d → waits h es ≡ false

-- whether a parent was kept, and how many wait after it
pub record Next : Type 0 where
  pub kept : Bool
  pub waiting : ℕ

-- the parent h is announced for the connection n at `now`, with the priority i
module _ (n now h i : ℕ) where
  pub record NextAt (b' w' : List ℕ) (st : State) (t : Table) (r : Next) : Type 0 where
    pub reply : r.kept ≡ (one_parent (limits_of st) n now h i t).reply
    pub beside : Beside n b' w' r.waiting st (one_parent (limits_of st) n now h i t).table

  -- r tells whether it waits with the d before it, or else nothing is done
  pub record WaitsWith (b w w' : List ℕ) (d : ℕ) (r : Bool) : Type 0 where
    pub joins : r ≡ true → (st : State) (t : Table) → Beside n b w d st t → NextAt b w' st t (record { kept = true; waiting = d + 1 })
    pub alone : r ≡ false → w' ≡ w

  -- r tells whether it is adopted in place while the d before it wait on, or else nothing is done
  pub record AdoptsBeside (b b' w : List ℕ) (d : ℕ) (r : Bool) : Type 0 where
    pub adopts : r ≡ true → (st : State) (t : Table) → Beside n b w d st t → NextAt b' w st t (record { kept = true; waiting = d })
    pub alone : r ≡ false → b' ≡ b

  abbrev pub NextIn : List ℕ → List ℕ → List ℕ → List ℕ → ℕ → Next → Type 0
  NextIn b b' w w' d r = (st : State) (t : Table) → Beside n b w d st t → NextAt b' w' st t r
