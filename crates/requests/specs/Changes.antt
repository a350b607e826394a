-- What the contracts of the changes of one request say.
use Rattle.std.specs.Prelude.{ℕ, ◌+◌, ◌/◌, ◌%◌, ◌≤◌, ◌<◌, ◌≡◌, Bool, true, false, List, ltb, get_or, if◌then◌else◌}
use Rattle.std.specs.Prelude.{Option, Some, None}
use Rattle.std.proofs.Math.Option.{none}
use Rattle.ident.specs.declared.ItemKind.{ItemKind}
use Rattle.ident.specs.Words.{item_num}
use Rattle.regions.specs.declared.Key.{Key as RowKey}
use Rattle.regions.specs.declared.Row.{Row}
use Rattle.regions.specs.Order.{Bound}
pub use Rattle.regions.specs.Keys.{Words, KeyWords}
use Rattle.regions.specs.Rows.{quad_of}
use Rattle.machine.specs.State as machine
use Rattle.machine.specs.State.{Table, State, Request, on_table, owner_is, adopting}
use Rattle.machine.specs.Table.{one, held_by, owned_by}
use Rattle.machine.specs.Sound.{Sound}
use Rattle.store.specs.Flat.{Flat, flat_of, witness_bit, row_of, rows_of, tally}
use Rattle.store.specs.FlatSound.{mark_bit}
use Rattle.store.specs.Image.{Shows, Writes}
use Rattle.store.specs.Shown.{rows_in, row_numbers, with_rows, with_conns, Met}
use Rattle.requests.specs.declared.Candidate.{Candidate}

-- ---- declared values as the machine's

abbrev pub candidate_of : Candidate → machine.Candidate
candidate_of c = record { connection = c.connection; item = item_num c.item; ready = c.ready; preferred = c.preferred; priority = c.priority }

-- ---- the rows of a key

-- from .. to are the rows of the key whose number is x
pub record Spans (b : List ℕ) (x from to : ℕ) : Type 0 where
  pub order : from ≤ to
  pub most : to ≤ rows_in b
  pub from_is : (st : State) → Sound st → Writes b st → Bound (row_numbers (rows_of st.table)) x from
  pub to_is : (st : State) → Sound st → Writes b st → Bound (row_numbers (rows_of st.table)) (x + 1) to

-- the row at is the first of the connection n among the rows of the key whose number is x
pub record Found (b : List ℕ) (x n at : ℕ) : Type 0 where
  pub from : ℕ
  pub to : ℕ
  pub spans : Spans b x from to
  pub met : Met b from to n at
  pub inside : at < to

-- none of them is the connection's
pub record Missing (b : List ℕ) (x n : ℕ) : Type 0 where
  pub from : ℕ
  pub to : ℕ
  pub spans : Spans b x from to
  pub met : Met b from to n to

abbrev pub FoundAmong : List ℕ → ℕ → ℕ → Option ℕ → Type 0
FoundAmong b x n None = Missing b x n
FoundAmong b x n (Some i) = Found b x n i

-- the mark of the first of the rows from .. to, or 0
abbrev pub mark_in : ℕ → ℕ → Row → List Row → ℕ
mark_in from to d rs = if ltb from to then mark_bit (get_or rs from d) else 0

abbrev pub MarkIn : List ℕ → ℕ → ℕ → Bool → Type 0
MarkIn b from to r = (f : Flat) (d : Row) → Shows b f → one r ≡ mark_in from to d f.rows

-- the row of a candidate that does not own its request
abbrev pub RowFor : RowKey → Candidate → Bool → Row → Type 0
RowFor k c m r = (q : Request) → k.hash ≡ quad_of q.key.hash → k.kind ≡ q.key.kind → owner_is c.connection q.owner ≡ false → m ≡ q.fallback → r ≡ row_of q (candidate_of c)

-- the item bit of a candidate that adopts another's item, or keeps its own
abbrev pub witness_as : Bool → ItemKind → ℕ → ℕ
witness_as same k bits = if same then witness_bit k else bits / 2 % 2

-- a candidate's row once it has adopted what c brings
abbrev pub RowAdopting : Bool → Candidate → Row → Row → Type 0
RowAdopting same c r x = (q : Request) (d : machine.Candidate) → r ≡ row_of q d → x ≡ row_of q (adopting same (candidate_of c) d)

-- the connection owns a request that has neither flag nor package
pub record OwnedBare (n : ℕ) (r : Request) : Type 0 where
  pub owns : owner_is n r.owner ≡ true
  pub info : r.info ≡ false
  pub bare : r.«package» ≡ none

-- ---- changes of the table

-- whatever sound state the bytes b write, if P holds of it, b' write it with g of its table
abbrev pub Makes : List ℕ → List ℕ → (Table → Type 0) → (Table → Table) → Type 0
Makes b b' P g = (st : State) → Sound st → Writes b st → P st.table → Writes b' (on_table (g st.table) st)

-- the bytes write a state, but with the rows rs, and the tally of the rows ls: on the way to fewer rows
abbrev pub Shorn : List ℕ → State → List Row → List Row → Type 0
Shorn b st rs ls = Shows b (with_conns (tally ls) (with_rows rs (flat_of st)))

-- ---- what a table says of a connection

-- its announcements, and its owned requests
pub record FiguresOf (t : Table) (n h o : ℕ) : Type 0 where
  pub held : h ≡ held_by n t
  pub owned : o ≡ owned_by n t

-- P holds of the table of every sound state that the bytes write
abbrev pub Tells : List ℕ → (Table → Type 0) → Type 0
Tells b P = (st : State) → Sound st → Writes b st → P st.table
