-- The candidates of a connection cut under many keys at once: the machine's cuts one after the other, and what they come to
-- in the table, in the rows and in the tally.
use Rattle.std.specs.Prelude.{ℕ, ◌+◌, ◌-◌, ◌≡◌, Option, Some, None, Bool, not, ◌&&◌, List, [], ◌∷◌, ltb, eqb, length, if◌then◌else◌}
use Rattle.ident.specs.Number.{Key, place}
use Rattle.regions.specs.declared.Row.{Row}
use Rattle.regions.specs.declared.Conn.{Conn}
use Rattle.regions.specs.declared.Key.{Key as RowKey}
use Rattle.regions.specs.Rows.{key_number, key_of as row_key_of}
use Rattle.machine.specs.State.{Candidate, Request, Table, with_candidates, owner_is}
use Rattle.machine.specs.Table.{at, keep}
use Rattle.machine.specs.Announce.{without, cut}
use Rattle.machine.specs.Leave.{keys_of}
use Rattle.package_stages.specs.Dead.{filter}
use Rattle.store.specs.Flat.{Flat}
use Rattle.store.specs.FlatSound.{owns}
use Rattle.store.specs.Gather.{key_at}
use Rattle.store.specs.Image.{Shows}
use Rattle.store.specs.Shown.{with_rows}

-- ---- the machine: "any other candidate just goes" (Leave.drop_at_key), under each of some keys

-- the candidate of n goes, unless n owns the request
unfoldable pub cut_at : ℕ → Key → Table → Table
cut_at n k t = if owner_is n (at k t).owner then t else cut k n t

unfoldable pub cut_each : ℕ → List Key → Table → Table
cut_each n [] t = t
cut_each n (k ∷ ks) t = cut_each n ks (cut_at n k t)

-- keys from a to b
abbrev pub between : Key → Key → Key → Bool
between a b k = not (ltb (place k) (place a)) && not (ltb (place b) (place k))

-- the cuts under those keys of n that pass a test
abbrev pub cuts : ℕ → (Key → Bool) → Table → Table
cuts n p t = cut_each n (filter p (keys_of n t)) t

-- ---- what they come to: one pass over the table

abbrev pub left_in : ℕ → (Key → Bool) → Request → List Candidate
left_in n p r = if p r.key && not (owner_is n r.owner) then without n r.candidates else r.candidates

unfoldable pub quit_all : ℕ → (Key → Bool) → Table → Table
quit_all n p [] = []
quit_all n p (r ∷ t) = keep (with_candidates (left_in n p r) r) (left_in n p r) (quit_all n p t)

-- ---- rows

-- a row of n under a key that passes the test, which does not own its request, goes
abbrev pub leaves : ℕ → (Key → Bool) → Row → Bool
leaves n p r = eqb r.conn n && (not (owns r) && p (key_at r))

abbrev pub remains : ℕ → (Key → Bool) → Row → Bool
remains n p r = not (leaves n p r)

-- the same where the keys are from .. to, as rows have keys
abbrev pub row_key_in : RowKey → RowKey → RowKey → Bool
row_key_in from to k = not (ltb (key_number k) (key_number from)) && not (ltb (key_number to) (key_number k))

abbrev pub row_in : ℕ → RowKey → RowKey → Row → Bool
row_in n from to r = eqb r.conn n && (not (owns r) && row_key_in from to (row_key_of r))

abbrev pub stays : ℕ → RowKey → RowKey → Row → Bool
stays n from to r = not (row_in n from to r)

-- the rows that pass the test are left in the store; d went
pub record Dropped (q : Row → Bool) (b b' : List ℕ) (d : ℕ) : Type 0 where
  pub gone : (f : Flat) → Shows b f → length f.rows ≡ d + length (filter q f.rows)
  pub rows : (f : Flat) → Shows b f → Shows b' (with_rows (filter q f.rows) f)

-- ---- the tally: d rows less of a connection, which did not own their requests

abbrev pub less : ℕ → Conn → Option Conn
less d c = if ltb d c.held then Some (record { conn = c.conn; held = c.held - d; owned = c.owned }) else None

abbrev pub lesser : ℕ → Conn → List Conn → List Conn
lesser d c l = if ltb d c.held then record { conn = c.conn; held = c.held - d; owned = c.owned } ∷ l else l

unfoldable pub lessen : ℕ → ℕ → List Conn → List Conn
lessen n d [] = []
lessen n d (c ∷ l) = if eqb n c.conn then lesser d c l else c ∷ lessen n d l
