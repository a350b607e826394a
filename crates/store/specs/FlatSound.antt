-- Sound states, said of their records: what a test of the bytes looks at.
use Rattle.std.specs.Prelude.{ℕ, zero, suc, ◌+◌, ◌/◌, ◌%◌, ◌≤◌, ◌<◌, ◌≡◌, Bool, ◌&&◌, List, [], ◌∷◌, eqb, length}
use Rattle.ident.specs.Number.{top, place, wtxid}
use Rattle.regions.specs.declared.Quad.{Quad}
use Rattle.regions.specs.declared.Row.{Row}
use Rattle.regions.specs.declared.Conn.{Conn}
use Rattle.regions.specs.Rows.{quad_number}
use Rattle.places.specs.Places.{Place}
use Rattle.machine.specs.Limits.{max_announcements, max_places, max_alternates, max_peer_announcements, max_in_flight, word}
use Rattle.machine.specs.State.{Package}
use Rattle.machine.specs.Table.{one}
use Rattle.machine.specs.Sound.{ParentsFit, PackageFits, PollFits, CursorFits}
use Rattle.machine.specs.Typed.{Each}
use Rattle.store.specs.Flat.{own_bit, tally, Flat}
use Rattle.store.specs.Gather.{key_at}

-- ---- rows

unfoldable pub count_rows : (Row → Bool) → List Row → ℕ
count_rows p [] = 0
count_rows p (r ∷ rs) = one (p r) + count_rows p rs

abbrev pub hash_at : Row → ℕ
hash_at r = quad_number r.hash

abbrev pub owns : Row → Bool
owns r = eqb (own_bit r) 1

abbrev pub mark_bit : Row → ℕ
mark_bit r = r.bits / 16 % 2

pub record QuadFits (q : Quad) : Type 0 where
  pub w0 : q.w0 < word
  pub w1 : q.w1 < word
  pub w2 : q.w2 < word
  pub w3 : q.w3 < word

pub record RowFits (r : Row) : Type 0 where
  pub hash : QuadFits r.hash
  pub positive : 0 < r.conn
  pub conn : r.conn < word
  pub ready : r.ready < word
  pub prio : r.prio < word
  pub deadline : r.deadline < word
  pub idle : own_bit r ≡ 0 → r.deadline ≡ 0
  pub bits : r.bits < 32
  -- v and the mark only on Txid keys
  pub plain : r.bits % 2 ≡ 1 → (r.bits / 2 % 2 ≡ 0) × (mark_bit r ≡ 0)

-- keys do not fall
abbrev pub Ascending : ℕ → List Row → Type 0
Ascending lo [] = Unit {0}
Ascending lo (r ∷ rs) = (lo ≤ place (key_at r)) × Ascending (place (key_at r)) rs

-- rows of one key have one mark
abbrev pub MarkedAs : Row → List Row → Type 0
MarkedAs r [] = Unit {0}
MarkedAs r (q ∷ rs) = (place (key_at r) ≡ place (key_at q) → mark_bit r ≡ mark_bit q) × MarkedAs q rs

abbrev pub SameMarks : List Row → Type 0
SameMarks [] = Unit {0}
SameMarks (r ∷ rs) = MarkedAs r rs

-- ---- places

abbrev pub package_of : Place → Package
package_of p = record { combined = p.combined; wtxids = p.wtxids; enqueued = eqb p.stage 3 }

-- by stage: 1 flag, 2 Awaiting, 3 Enqueued
abbrev pub StageFits : ℕ → Place → Type 0
StageFits zero p = ⊥
StageFits (suc zero) p = (p.combined ≡ 0) × (p.wtxids ≡ [])
StageFits (suc (suc zero)) p = PackageFits (package_of p)
StageFits (suc (suc (suc zero))) p = PackageFits (package_of p)
StageFits (suc (suc (suc (suc n)))) p = ⊥

abbrev pub owns_key : ℕ → Row → Bool
owns_key h r = eqb (place (key_at r)) (place (wtxid h)) && owns r

pub record PlaceFits (rs : List Row) (p : Place) : Type 0 where
  pub hash : p.hash < top
  pub stage : StageFits p.stage p
  pub parents : ParentsFit p.parents
  -- "flag or package only with an owner, .. only on Wtxid keys"
  pub owned : 1 ≤ count_rows (owns_key p.hash) rs

abbrev pub PlacesAscend : ℕ → List Place → Type 0
PlacesAscend lo [] = Unit {0}
PlacesAscend lo (p ∷ ps) = (lo ≤ p.hash) × PlacesAscend (suc p.hash) ps

-- ---- the whole

pub record ConnFits (c : Conn) : Type 0 where
  pub held : c.held ≤ max_peer_announcements
  pub owned : c.owned ≤ max_in_flight

pub record FlatSound (f : Flat) : Type 0 where
  pub some_limit : 1 ≤ f.head.limit
  pub most-limit : f.head.limit ≤ max_announcements
  pub some_place : 1 ≤ f.head.places
  pub most-places : f.head.places ≤ max_places
  pub poll : PollFits f.head.next_poll
  pub known : CursorFits f.head.known_cursor
  pub ready : CursorFits f.head.ready_cursor
  pub rows_few : length f.rows ≤ f.head.limit
  pub rows_fit : Each RowFits f.rows
  pub ascending : Ascending 0 f.rows
  pub marks : SameMarks f.rows
  pub alternates : (h : ℕ) → count_rows (λ r. eqb (hash_at r) h) f.rows ≤ max_alternates
  pub once : (n h : ℕ) → count_rows (λ r. eqb (hash_at r) h && eqb r.conn n) f.rows ≤ 1
  pub single : (h : ℕ) → count_rows (λ r. eqb (hash_at r) h && owns r) f.rows ≤ 1
  pub conns : f.conns ≡ tally f.rows
  pub conns-fit : Each ConnFits f.conns
  pub places_few : length f.places ≤ f.head.places
  pub places-ascend : PlacesAscend 0 f.places
  pub places-fit : Each (PlaceFits f.rows) f.places
