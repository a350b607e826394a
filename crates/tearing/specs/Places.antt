-- The place that a pass over the rows has come to, and what it says of the request of a row.
use Rattle.std.specs.Prelude.{ℕ, ◌+◌, ◌-◌, ◌≤◌, ◌<◌, ◌≡◌, Bool, List, get_or, length}
use Rattle.ident.specs.Number.{top, wtxid}
use Rattle.regions.specs.declared.Conn.{Conn}
use Rattle.regions.specs.declared.Row.{Row}
use Rattle.regions.specs.Order.{Sorted, Bound}
use Rattle.regions.specs.Rows.{quad_number}
use Rattle.places.specs.Places.{Place}
use Rattle.machine.specs.State.{State, is_some}
use Rattle.machine.specs.Table.{at}
use Rattle.machine.specs.Sound.{Sound}
use Rattle.store.specs.Flat.{places_of}
use Rattle.store.specs.FlatSound.{hash_at}
use Rattle.store.specs.Shown.{conn_names}
use Rattle.package_stages.specs.Records.{place_hashes}
use Rattle.announcing.specs.Drops.{put_at}
use Rattle.tearing.specs.declared.packaged.Reached.{Reached}
use Rattle.tearing.specs.declared.packaged.Found.{Found}
use Rattle.tearing.specs.Torn.{packaged_row, is_package, Ebbs, torn_row, torn_entries}

-- c says of the places ps which stands there and which before it
pub record Stands (ps : List Place) (c : Reached) : Type 0 where
  pub most : c.at ≤ length ps
  pub before : (d : Place) → 0 < c.at → quad_number c.before ≡ (get_or ps (c.at - 1) d).hash
  pub hash : (d : Place) → c.at < length ps → quad_number c.hash ≡ (get_or ps c.at d).hash
  pub packaged : (d : Place) → c.at < length ps → c.packaged ≡ is_package (get_or ps c.at d)

-- the place of the hash x stands there, or would
pub record Leads (ps : List Place) (x : ℕ) (c : Reached) : Type 0 where
  pub stands : Stands ps c
  pub bound : Bound (place_hashes ps) x c.at

-- r says whether the Wtxid key with the hash h has a package, where the bytes write the places of a state
abbrev pub PackageAt : List ℕ → ℕ → Reached → Bool → Type 0
PackageAt b h c r = (st : State) (xs : List Row) (cs : List Conn) → Sound st → Ebbs b st xs cs → Leads (places_of st.table) h c → h < top → r ≡ is_some (at (wtxid h) st.table).«package»

-- what was found of the row r
pub record Tells (st : State) (r : Row) (x : Found) : Type 0 where
  pub packaged : x.packaged ≡ packaged_row st.table r
  pub stands : Stands (places_of st.table) x.reached

-- the i-th row, r, is put at m, or goes; c is the place that was known, c' the one that was come to
pub record RowTorn (b b' : List ℕ) (now m i m' : ℕ) (c c' : Reached) : Type 0 where
  pub least : m ≤ m'
  pub most : m' ≤ m + 1
  pub count : (st : State) (xs : List Row) (cs : List Conn) (r : Row) → Sound st → Ebbs b st xs cs → Stands (places_of st.table) c → get_or xs i r ≡ r → hash_at r < top
      → m' ≡ m + length (torn_row now st.table r)
  pub stands : (st : State) (xs : List Row) (cs : List Conn) (r : Row) → Sound st → Ebbs b st xs cs → Stands (places_of st.table) c → get_or xs i r ≡ r → hash_at r < top
      → Stands (places_of st.table) c'
  pub rows : (st : State) (xs : List Row) (cs : List Conn) (r : Row) → Sound st → Sorted (conn_names cs) → Ebbs b st xs cs → Stands (places_of st.table) c → get_or xs i r ≡ r
      → hash_at r < top → Ebbs b' st (put_at m (torn_row now st.table r) xs) (torn_entries st.table r cs)
