-- A state as lists of records: candidate rows, connections, package places (docs/STORE.md).
use Rattle.std.specs.Prelude.{ℕ, ◌+◌, ◌*◌, ◌/◌, ◌%◌, Bool, true, false, List, [], ◌∷◌, map, ltb, eqb, if◌then◌else◌}
use Rattle.std.proofs.Math.Option.{Option, none, some}
use Rattle.ident.specs.declared.Kind.{Kind}
use Rattle.ident.specs.declared.ItemKind.{ItemKind}
use Rattle.ident.specs.declared.ItemKind.TheVariants.{Transaction, WitnessTransaction, WTx, Other}
use Rattle.ident.specs.Number.{Key, kind_number}
pub use Rattle.ident.specs.Number.{kind_number as kind_bit}
use Rattle.regions.specs.declared.Row.{Row}
use Rattle.regions.specs.declared.Conn.{Conn}
use Rattle.regions.specs.Regions.{each}
use Rattle.regions.specs.Rows.{quad_of}
use Rattle.places.specs.Places.{Place}
use Rattle.machine.specs.State.{Candidate, Owner, Package, Request, Table, State, owner_is}
use Rattle.machine.specs.Table.{one}

-- ---- rows: one a candidate, in the order of keys and then of arrival

abbrev pub witness_bit : ItemKind → ℕ
witness_bit Transaction = 0
witness_bit WitnessTransaction = 1
witness_bit WTx = 0
witness_bit (Other n) = 0

-- a row has a deadline if it owns its request
abbrev pub deadline_for : ℕ → Option Owner → ℕ
deadline_for n none = 0
deadline_for n (some o) = if eqb o.connection n then o.deadline else 0

-- bits: 1 Wtxid kind, 2 item is v, 4 preferred, 8 owns, 16 mark
abbrev pub bits_of : Kind → ℕ → Bool → Bool → Bool → ℕ
bits_of k v preferred owns marked = kind_number k + 2 * v + 4 * one preferred + 8 * one owns + 16 * one marked

unfoldable pub row_of : Request → Candidate → Row
row_of r c = record {
  hash = quad_of r.key.hash;
  conn = c.connection;
  ready = c.ready;
  prio = c.priority;
  deadline = deadline_for c.connection r.owner;
  bits = bits_of r.key.kind (witness_bit c.item.kind) c.preferred (owner_is c.connection r.owner) r.fallback;
}

unfoldable pub rows_for : Request → List Row
rows_for r = map (row_of r) r.candidates

abbrev pub rows_of : Table → List Row
rows_of t = each rows_for t

-- ---- connections, ascending: how many rows each has, and how many of them own their request

abbrev pub own_bit : Row → ℕ
own_bit r = r.bits / 8 % 2

-- one row more of a connection
unfoldable pub bump : ℕ → ℕ → List Conn → List Conn
bump n o [] = record { conn = n; held = 1; owned = o } ∷ []
bump n o (c ∷ l) =
    if ltb n c.conn then record { conn = n; held = 1; owned = o } ∷ (c ∷ l)
    else if eqb n c.conn then record { conn = n; held = c.held + 1; owned = c.owned + o } ∷ l
    else c ∷ bump n o l

unfoldable pub tally : List Row → List Conn
tally [] = []
tally (r ∷ rs) = bump r.conn (own_bit r) (tally rs)

-- ---- package places, ascending by hash; stage: 1 flag, 2 Awaiting, 3 Enqueued

abbrev pub place_for : Request → Bool → Option Package → List Place
place_for r info (some p) = record { hash = r.key.hash; combined = p.combined; stage = 2 + one p.enqueued; wtxids = p.wtxids; parents = r.parents } ∷ []
place_for r true none = record { hash = r.key.hash; combined = 0; stage = 1; wtxids = []; parents = r.parents } ∷ []
place_for r false none = []

unfoldable pub places_for : Request → List Place
places_for r = place_for r r.info r.«package»

abbrev pub places_of : Table → List Place
places_of t = each places_for t

-- ---- the whole

-- L, Q, next poll time and the two cursors
pub record Head : Type 0 where
  pub limit : ℕ
  pub places : ℕ
  pub next_poll : Option ℕ
  pub known_cursor : Option Key
  pub ready_cursor : Option Key

pub record Flat : Type 0 where
  pub head : Head
  pub rows : List Row
  pub conns : List Conn
  pub places : List Place

abbrev pub head_of : State → Head
head_of s = record { limit = s.limit; places = s.places; next_poll = s.next_poll; known_cursor = s.known_cursor; ready_cursor = s.ready_cursor }

abbrev pub flat_of : State → Flat
flat_of s = record { head = head_of s; rows = rows_of s.table; conns = tally (rows_of s.table); places = places_of s.table }
