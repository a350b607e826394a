-- teardown_package_claims: what it comes to in one pass over the table, over the rows and over the places.
use Rattle.std.specs.Prelude.{ℕ, ◌≡◌, Bool, List, [], ◌∷◌, leb, eqb, if◌then◌else◌}
use Rattle.regions.specs.declared.Conn.{Conn}
use Rattle.regions.specs.declared.Row.{Row}
use Rattle.regions.specs.Regions.{each}
use Rattle.regions.specs.Rows.{with_ready}
use Rattle.places.specs.Places.{Place}
use Rattle.machine.specs.State.{Request, Table, State, on_table, is_some}
use Rattle.machine.specs.Table.{at, keep}
use Rattle.machine.specs.Fail.{left}
use Rattle.machine.specs.Package.{teardown}
use Rattle.machine.specs.Sound.{Sound}
use Rattle.store.specs.Flat.{flat_of, rows_of}
use Rattle.store.specs.FlatSound.{owns}
use Rattle.store.specs.Gather.{key_at}
use Rattle.store.specs.Image.{Shows, Writes}
use Rattle.store.specs.Shown.{with_rows, with_conns}
use Rattle.requests.specs.Changes.{Shorn}
use Rattle.package_stages.specs.Changes.{owner_num}
use Rattle.tearing.specs.Idle.{ebbed}

-- the owner of a request leaves it
abbrev pub quit : ℕ → Request → Request
quit now q = left (owner_num q.owner) now q

-- every request with a package: "whatever its phase"
abbrev pub torn_in : ℕ → Request → Request
torn_in now q = if is_some q.«package» then quit now q else q

unfoldable pub torn_all : ℕ → Table → Table
torn_all now [] = []
torn_all now (q ∷ t) = keep (torn_in now q) (torn_in now q).candidates (torn_all now t)

-- ---- rows: that of a package's owner goes, those beside it are ready

abbrev pub packaged_row : Table → Row → Bool
packaged_row t r = is_some (at (key_at r) t).«package»

-- the bytes write a state, but with the rows xs and the connections' entries cs
abbrev pub Ebbs : List ℕ → State → List Row → List Conn → Type 0
Ebbs b st xs cs = Shows b (with_conns cs (with_rows xs (flat_of st)))

unfoldable pub torn_row : ℕ → Table → Row → List Row
torn_row now t r =
    if packaged_row t r then (if owns r then [] else with_ready now r ∷ [])
    else r ∷ []

abbrev pub torn_rows : ℕ → Table → List Row
torn_rows now t = each (torn_row now t) (rows_of t)

-- the entry of its connection has one row less, if it goes
unfoldable pub torn_entries : Table → Row → List Conn → List Conn
torn_entries t r cs =
    if packaged_row t r then (if owns r then ebbed r.conn 1 cs else cs)
    else cs

-- the bytes write a state, but for the rows that have gone, and their tally
abbrev pub RowsTorn : List ℕ → State → ℕ → Type 0
RowsTorn b st now = Shorn b st (torn_rows now st.table) (torn_rows now st.table)

-- ---- places: those of packages go

abbrev pub is_package : Place → Bool
is_package p = leb 2 p.stage

-- a flag alone; no sound state has a place of stage 0
abbrev pub flagged : Place → Bool
flagged p = eqb p.stage 1

-- ---- the whole

-- whatever sound state the bytes b write, n is how many claims the machine clears, and b' write what it leaves
pub record Cleared (b b' : List ℕ) (n now : ℕ) : Type 0 where
  pub count : (st : State) → Sound st → Writes b st → n ≡ (teardown now st.table).cleared
  pub table : (st : State) → Sound st → Writes b st → Writes b' (on_table (teardown now st.table).table st)
