-- What the contracts of a plan's expired owners say.
use Rattle.std.specs.Prelude.{ℕ, ◌≤◌, ◌<◌, ◌≡◌, Bool, true, ◌&&◌, List, [], ◌∷◌, ◌++◌, leb, length, get_or, drop, if◌then◌else◌}
use Rattle.std.proofs.Math.Option.{Option, none, some}
use Rattle.std.specs.Prelude as rust
use Rattle.ident.specs.Number.{top, Key, place}
use Rattle.ident.specs.Words.{key_num}
use Rattle.regions.specs.declared.Row.{Row}
use Rattle.machine.specs.State.{Owner, Request, Table, State, on_table}
use Rattle.machine.specs.Table.{at}
use Rattle.machine.specs.Plan.{Due, due_of, expired}
use Rattle.store.specs.Flat.{Flat}
use Rattle.store.specs.Gather.{key_at}
use Rattle.store.specs.Image.{Shows}
use Rattle.store.specs.Shown.{rows_in}
use Rattle.requests.specs.Changes.{Tells}
pub use Rattle.sweeping.specs.Batches.{behind, BeginsAt}
use Rattle.places.specs.Places.{Place}
use Rattle.apart.specs.Apart.{Slot, resting, ClearFrom, Apart}
use Rattle.apart.specs.Lapsing.{noted}
use Rattle.postponing.specs.Silent.{is_due}
use Rattle.planning.specs.declared.expiring.Overdue.{Overdue}

-- the owners that are due at the keys from the place x on
abbrev pub due_here : ℕ → ℕ → Request → List Due
due_here now x r = if leb x (place r.key) then due_of now r.key r.owner else []

unfoldable pub due_from : ℕ → ℕ → Table → List Due
due_from now x [] = []
due_from now x (r ∷ t) = due_here now x r ++ due_from now x t

-- ---- those that have the deadline `low` at least

abbrev pub due_still : ℕ → ℕ → Key → Option Owner → List Due
due_still low now k none = []
due_still low now k (some o) = if leb o.deadline now && leb low o.deadline then record { key = k; connection = o.connection } ∷ [] else []

abbrev pub still_here : ℕ → ℕ → ℕ → Request → List Due
still_here low now x r = if leb x (place r.key) then due_still low now r.key r.owner else []

unfoldable pub still_from : ℕ → ℕ → ℕ → Table → List Due
still_from low now x [] = []
still_from low now x (r ∷ t) = still_here low now x r ++ still_from low now x t

-- ---- as rows have them

abbrev pub is_still : ℕ → ℕ → Row → Bool
is_still low now r = is_due now r && leb low r.deadline

abbrev pub row_due : ℕ → ℕ → ℕ → Row → List Due
row_due low now x r = if leb x (place (key_at r)) then if is_still low now r then record { key = key_at r; connection = r.conn } ∷ [] else [] else []

unfoldable pub due_rows : ℕ → ℕ → ℕ → List Row → List Due
due_rows low now x [] = []
due_rows low now x (r ∷ rs) = row_due low now x r ++ due_rows low now x rs

-- o is the first of the rows from `from` on whose owner's time is over, if there is one: it stands at `at`, which is else how many rows there are
pub record SeekDue (b : List ℕ) (low now from : ℕ) (o : rust.Option Row) : Type 0 where
  pub at : ℕ
  pub least : from ≤ at
  pub passed : (f : Flat) (x : ℕ) → Shows b f → due_rows low now x (drop from f.rows) ≡ due_rows low now x (drop at f.rows)
  pub none : o ≡ rust.None → rows_in b ≤ at
  pub inside : (r : Row) → o ≡ rust.Some r → at < rows_in b
  pub due : (r : Row) → o ≡ rust.Some r → is_still low now r ≡ true
  pub stands : (r : Row) → o ≡ rust.Some r → (f : Flat) (d : Row) → Shows b f → r ≡ get_or f.rows at d

-- one is due at the place x or later, the first at k with the connection n
pub record Leads (low now x : ℕ) (k : Key) (n : ℕ) (t : Table) : Type 0 where
  pub rest : List Due
  pub is : still_from low now x t ≡ record { key = k; connection = n } ∷ rest

pub record DueNext (b : List ℕ) (low now x : ℕ) (k : Key) (n : ℕ) : Type 0 where
  pub first : Tells b (Leads low now x k n)
  pub from : x ≤ place k
  pub small : k.hash < top

-- the first that is due at the place x or later, if there is one
pub record NextDue (b : List ℕ) (low now x : ℕ) (o : rust.Option Overdue) : Type 0 where
  pub ends : o ≡ rust.None → Tells b (λ t. still_from low now x t ≡ [])
  pub goes : (w : Overdue) → o ≡ rust.Some w → DueNext b low now x (key_num w.key) w.connection

-- ---- all that are due, where the places are set apart

-- every owner that is due has expired; the parents kept are noted, of the first e of c places at most
pub record ExpiredAll (b' f' : List ℕ) (m c : ℕ) (st : State) (now e : ℕ) : Type 0 where
  pub places : List Slot
  pub apart : Apart b' f' m (on_table (expired now st).table st) places
  pub count : c ≡ length places
  pub few : ClearFrom e places
  pub keys : noted places ≡ (expired now st).keys

pub record ExpiresAll (b b' f f' : List ℕ) (m c now e : ℕ) : Type 0 where
  pub most : e ≤ c
  pub goes : (st : State) (ps : List Place) → Apart b f m st (resting ps) → c ≡ length ps → ExpiredAll b' f' m c st now e
