-- The state that lists of records show, whatever the records are: rows gathered into requests, each with its place.
use Rattle.std.specs.Prelude.{ℕ, zero, suc, ◌/◌, ◌%◌, false, List, [], ◌∷◌, map, eqb, if◌then◌else◌}
use Rattle.std.proofs.Math.Option.{Option, none, some}
use Rattle.ident.specs.declared.Kind.{Kind}
use Rattle.ident.specs.declared.Kind.TheVariants.{Txid, Wtxid}
use Rattle.ident.specs.declared.ItemKind.{ItemKind}
use Rattle.ident.specs.declared.ItemKind.TheVariants.{Transaction, WitnessTransaction, WTx}
use Rattle.ident.specs.Number.{Key, place, wtxid}
pub use Rattle.ident.specs.Number.{kind_is}
use Rattle.regions.specs.declared.Row.{Row}
use Rattle.regions.specs.Rows.{quad_number}
use Rattle.places.specs.Places.{Place}
use Rattle.machine.specs.State.{Candidate, Owner, Package, Request, Table, State}
use Rattle.store.specs.Flat.{own_bit, Flat}

-- ---- rows

unfoldable pub key_at : Row → Key
key_at r = record { kind = kind_is (r.bits % 2); hash = quad_number r.hash }

abbrev pub item_kind_as : Kind → ℕ → ItemKind
item_kind_as Wtxid v = WTx
item_kind_as Txid zero = Transaction
item_kind_as Txid (suc v) = WitnessTransaction

unfoldable pub candidate_at : Row → Candidate
candidate_at r = record {
  connection = r.conn;
  item = record { kind = item_kind_as (key_at r).kind (r.bits / 2 % 2); hash = (key_at r).hash };
  ready = r.ready;
  preferred = eqb (r.bits / 4 % 2) 1;
  priority = r.prio;
}

abbrev pub owner_at : Row → Option Owner → Option Owner
owner_at r o = if eqb (own_bit r) 1 then some (record { connection = r.conn; deadline = r.deadline }) else o

-- a request of one row; a request with one row more, before the others
abbrev pub single : Row → Request
single r = record { key = key_at r; candidates = candidate_at r ∷ []; owner = owner_at r none; info = false; «package» = none; parents = []; fallback = eqb (r.bits / 16 % 2) 1 }

abbrev pub joined : Row → Request → Request
joined r q = record { key = q.key; candidates = candidate_at r ∷ q.candidates; owner = owner_at r q.owner; info = q.info; «package» = q.«package»; parents = q.parents; fallback = q.fallback }

unfoldable pub join : Row → Table → Table
join r [] = single r ∷ []
join r (q ∷ t) = if eqb (place (key_at r)) (place q.key) then joined r q ∷ t else single r ∷ (q ∷ t)

unfoldable pub gather : List Row → Table
gather [] = []
gather (r ∷ rs) = join r (gather rs)

-- ---- a request with its place

abbrev pub package_at : Place → Option Package
package_at p = if eqb p.stage 1 then none else some (record { combined = p.combined; wtxids = p.wtxids; enqueued = eqb p.stage 3 })

abbrev pub placed : Place → Request → Request
placed p r = record { key = r.key; candidates = r.candidates; owner = r.owner; info = eqb p.stage 1; «package» = package_at p; parents = p.parents; fallback = r.fallback }

-- the place of a hash, on a Wtxid key only
unfoldable pub dress : List Place → Request → Request
dress [] r = r
dress (p ∷ ps) r = if eqb (place (wtxid p.hash)) (place r.key) then placed p r else dress ps r

unfoldable pub table_in : List Row → List Place → Table
table_in rs ps = map (dress ps) (gather rs)

abbrev pub state_in : Flat → State
state_in f = record {
  limit = f.head.limit;
  places = f.head.places;
  table = table_in f.rows f.places;
  next_poll = f.head.next_poll;
  known_cursor = f.head.known_cursor;
  ready_cursor = f.head.ready_cursor;
}
