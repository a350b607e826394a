-- Rows that wait in a region of their own, beside the store, and what comes of an announcement beside them.
use Rattle.std.specs.Prelude as std
use Rattle.std.specs.Prelude.{ℕ, ◌+◌, ◌≤◌, ◌<◌, ◌≡◌, Bool, true, false, ◌||◌, List, [], ◌∷◌, ◌++◌, eqb, length, ⊤, Some, None, Result, Ok, Err}
use Rattle.std.proofs.Math.Option.{Option, some}
use Rattle.ident.specs.Number.{Key, place}
use Rattle.regions.specs.declared.Row.{Row}
use Rattle.regions.specs.Order.{Sorted}
use Rattle.regions.specs.Regions.{Holds}
use Rattle.regions.specs.Rows.{row_size, row_words}
use Rattle.machine.specs.Limits.{Limits}
use Rattle.machine.specs.State.{Candidate, Entry, State, Table, limits_of, on_table, owner_is}
use Rattle.machine.specs.Table.{at, held}
use Rattle.machine.specs.Announce.{announce_at, announce_keyed}
use Rattle.machine.specs.Sound.{Ordered, Sound}
use Rattle.machine.specs.Typed.{Each}
use Rattle.store.specs.Flat.{row_of}
use Rattle.store.specs.Image.{Writes}
use Rattle.store.specs.Shown.{row_numbers}
use Rattle.store.specs.declared.rows.Window.{Window}
use Rattle.requests.specs.declared.windows.Windows.{Windows}
use Rattle.requests.specs.Changes.{Spans}
use Rattle.requests.specs.Windows.{Windowed}
use Rattle.gathering.specs.declared.beside.Fare.{Fare}
use Rattle.gathering.specs.declared.beside.Fare.TheVariants.{Nothing, Waits, Alone}
use Rattle.gathering.specs.Merges.{number_of, placed, gathered}
use Rattle.gathering.specs.Waits.{pushes, Small, Of, Idle, Single, waits, Admits, barred_beside}

-- as many rows can wait
abbrev pub space : ℕ
space = 512

-- ---- a region of m rows in order

-- one of the rows has the key of this number
unfoldable pub numbered : ℕ → List Row → Bool
numbered x [] = false
numbered x (y ∷ ys) = eqb (number_of y) x || numbered x ys

abbrev pub KeyIn : List ℕ → ℕ → ℕ → Bool → Type 0
KeyIn w m x r = (L : ℕ) (ys : List Row) → length ys ≡ m → m ≤ L → Sorted (row_numbers ys) → Holds row_size row_words L ys w → r ≡ numbered x ys

-- no rows
abbrev pub Empty : List ℕ → Type 0
Empty w = Holds row_size row_words space [] w

-- the row y, put in its place
abbrev pub PutIn : List ℕ → List ℕ → ℕ → Row → Type 0
PutIn w w' m y = (L : ℕ) (ys : List Row) → length ys ≡ m → m < L → Sorted (row_numbers ys) → Holds row_size row_words L ys w → Holds row_size row_words L (placed y ys) w'

-- ---- the rows of candidates that wait

-- the m rows in the words w are those of the candidates es, of any connections and each at a hash of its own, who wait beside the table t
pub record Mixed (t : Table) (es : List Entry) (w : List ℕ) (m : ℕ) : Type 0 where
  pub ready : Each Small es
  pub idle : Idle t es
  pub single : Single es
  pub count : length es ≡ m
  pub rows : Holds row_size row_words space (gathered t es []) w

-- the same, all of the connection n
pub record Aside (n : ℕ) (t : Table) (es : List Entry) (w : List ℕ) (m : ℕ) : Type 0 where
  pub mixed : Mixed t es w m
  pub mine : Each (Of n) es

-- whoever they are
abbrev pub Beside : List ℕ → ℕ → ℕ → Table → (List Entry → Type 0) → Type 0
Beside w m n t P = (es : List Entry) → Aside n t es w m → P es

-- one of them, of whatever connection, is at this hash
abbrev pub WaitsAt : List ℕ → ℕ → ℕ → Bool → Type 0
WaitsAt w m h r = (t : Table) → Ordered 0 t → (es : List Entry) → Mixed t es w m → r ≡ waits h es

-- r tells whether the connection n may not announce at this key
abbrev pub BarredIn : List ℕ → List ℕ → ℕ → Key → ℕ → Bool → Type 0
BarredIn b w m k n r = (st : State) → Sound st → Writes b st → Beside w m n st.table (λ es. r ≡ barred_beside es k n st.table)

-- r are the rows of this key's hash, unless the connection n may not announce at it
abbrev pub OpenIn : List ℕ → List ℕ → ℕ → Key → ℕ → std.Option Windows → Type 0
OpenIn b w m k n None = BarredIn b w m k n true
OpenIn b w m k n (Some x) = BarredIn b w m k n false × Windowed b k.hash x

-- ---- an announcement beside those that wait

-- c comes in at k behind es
pub record Joins (m : Limits) (t : Table) (es : List Entry) (k : Key) (c : Candidate) : Type 0 where
  pub joins : (announce_at m k c (pushes es t)).table ≡ pushes (es ++ (record { key = k; candidate = c } ∷ [])) t
  pub idle : owner_is c.connection (at k t).owner ≡ false
  pub admits : Admits m t es k c

-- what a fare says of the table; one that is to be announced by itself may do anything
abbrev pub Fares : Limits → Table → List Entry → Key → Candidate → Fare → Type 0
Fares m t es k c Nothing = (announce_at m k c (pushes es t)).table ≡ pushes es t
Fares m t es k c Waits = Joins m t es k c
Fares m t es k c Alone = ⊤

-- whoever waits, and whatever sound state the bytes b write
pub record FaresIn (b w : List ℕ) (m : ℕ) (k : Key) (c : Candidate) (r : Fare) : Type 0 where
  pub spare : r ≡ Waits → m < space
  pub fares : (st : State) → Sound st → Writes b st → Beside w m c.connection st.table (λ es. Fares (limits_of st) st.table es k c r)

-- P says how an announcement at this key fares: where it waits, among which rows of the key
abbrev pub RowsOrFare : List ℕ → Key → (Fare → Type 0) → Result Window Fare → Type 0
RowsOrFare b k P (Ok x) = P Waits × Spans b (place k) x.from x.to
RowsOrFare b k P (Err r) = P r × (r ≡ Waits → ⊥)

-- the row of a candidate that is to wait
abbrev pub RowIn : List ℕ → Key → Candidate → Row → Type 0
RowIn b k c y = (st : State) → Sound st → Writes b st → owner_is c.connection (at k st.table).owner ≡ false → y ≡ row_of (at k st.table) c

-- c comes in at k behind es: they are then `entries`
pub record Enters (m : Limits) (t : Table) (es : List Entry) (k : Key) (c : Candidate) (entries : List Entry) : Type 0 where
  pub admits : Admits m t es k c
  pub last : entries ≡ es ++ (record { key = k; candidate = c } ∷ [])

-- who waits once c was announced beside es: their rows are in the words w
pub record Joined (m : Limits) (t : Table) (es : List Entry) (w : List ℕ) (d : ℕ) (x : Option Key) (c : Candidate) : Type 0 where
  pub entries : List Entry
  pub aside : Aside c.connection t entries w d
  pub table : (announce_keyed m x c (pushes es t)).table ≡ pushes entries t
  pub room : held t + length es ≤ m.announcements → held t + d ≤ m.announcements
  pub enters : length es < d → (k : Key) → x ≡ some k → Enters m t es k c entries

-- whoever waited, m of them: d wait then
abbrev pub JoinedIn : List ℕ → List ℕ → List ℕ → ℕ → ℕ → Option Key → Candidate → Type 0
JoinedIn b w w' m d x c = (st : State) → Sound st → Writes b st → (es : List Entry) → Aside c.connection st.table es w m → Joined (limits_of st) st.table es w' d x c

pub record SetAsideNot (b w w' : List ℕ) (m : ℕ) (x : Option Key) (c : Candidate) : Type 0 where
  pub same : w' ≡ w
  pub joined : JoinedIn b w w' m m x c

pub record SetAsideToo (b w w' : List ℕ) (m : ℕ) (x : Option Key) (c : Candidate) : Type 0 where
  pub spare : m < space
  pub joined : JoinedIn b w w' m (m + 1) x c

-- one that is to be announced by itself is not announced
pub record SetAside (b w w' : List ℕ) (m : ℕ) (x : Option Key) (c : Candidate) (r : Fare) : Type 0 where
  pub nothing : r ≡ Nothing → SetAsideNot b w w' m x c
  pub waits : r ≡ Waits → SetAsideToo b w w' m x c
  pub alone : r ≡ Alone → w' ≡ w

-- ---- those of any connections: one more waits

-- by true there is room for one more, and none that waits is at this hash
pub record OpenAt (w : List ℕ) (m h : ℕ) (r : Bool) : Type 0 where
  pub spare : r ≡ true → m < space
  pub apart : r ≡ true → WaitsAt w m h false
  pub shut : r ≡ false → m < space → WaitsAt w m h true

-- c waits too, at k, beside whatever sound state the bytes b write, if none that waits is at its hash and it does not own its request
abbrev pub Among : List ℕ → List ℕ → List ℕ → ℕ → Key → Candidate → Type 0
Among b w w' m k c =
    (st : State) → Sound st → Writes b st → owner_is c.connection (at k st.table).owner ≡ false → (es : List Entry) → waits k.hash es ≡ false → Mixed st.table es w m
    → Mixed st.table (es ++ (record { key = k; candidate = c } ∷ [])) w' (m + 1)

-- ---- they come in

-- the m rows in the words w wait beside the sound state that the bytes b write, which has room for them
pub record GathersAll (b w : List ℕ) (m : ℕ) : Type 0 where
  pub state : State
  pub sound : Sound state
  pub writes : Writes b state
  pub entries : List Entry
  pub mixed : Mixed state.table entries w m
  pub room : held state.table + m ≤ state.limit

abbrev pub ComeInAll : List ℕ → List ℕ → List ℕ → ℕ → Type 0
ComeInAll b b' w m = (st : State) → Sound st → Writes b st → (es : List Entry) → Mixed st.table es w m → Writes b' (on_table (pushes es st.table) st)

-- the m rows in the words w wait beside the sound state that the bytes b write, which has room for them
pub record Gathers (b : List ℕ) (n : ℕ) (w : List ℕ) (m : ℕ) : Type 0 where
  pub state : State
  pub sound : Sound state
  pub writes : Writes b state
  pub entries : List Entry
  pub aside : Aside n state.table entries w m
  pub room : held state.table + m ≤ state.limit

abbrev pub ComeIn : List ℕ → List ℕ → ℕ → List ℕ → ℕ → Type 0
ComeIn b b' n w m = (st : State) → Sound st → Writes b st → (es : List Entry) → Aside n st.table es w m → Writes b' (on_table (pushes es st.table) st)
