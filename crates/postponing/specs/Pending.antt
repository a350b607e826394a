-- Owners that have failed and wait to go, and parents that wait to come in, of whatever connections: what the table of document 01 is meanwhile.
use Rattle.std.specs.Prelude.{ℕ, ◌+◌, ◌≤◌, ◌<◌, ◌≡◌, Bool, true, false, List, leb}
use Rattle.ident.specs.Number.{top, Key, place, txid, wtxid}
use Rattle.machine.specs.State.{Entry, Table, State, limits_of, on_table, refused, owner_is}
use Rattle.machine.specs.Table.{at, held, is_candidate}
use Rattle.machine.specs.Fail.{failed, parent_of}
use Rattle.machine.specs.Sound.{Ordered, All, Sound}
use Rattle.machine.specs.Typed.{Each}
use Rattle.store.specs.Image.{Writes}
use Rattle.package_stages.specs.Changes.{has_place}
use Rattle.requests.specs.Changes.{Tells, Spans}
use Rattle.announcing.specs.Answers.{one_parent}
use Rattle.gathering.specs.Waits.{pushes, waits, Admits}
use Rattle.gathering.specs.Aside.{Mixed}
use Rattle.parenting.specs.Waiting.{marks, keys_of, Parental}
use Rattle.parenting.specs.Displacing.{Spent}
use Rattle.postponing.specs.Silent.{late, dropped_all}
use Rattle.postponing.specs.Lapses.{Timely}
use Rattle.postponing.specs.declared.among.Reply.{Reply}
use Rattle.postponing.specs.declared.among.Reply.TheVariants as reply

-- no request has a flag or a package: the places are set apart
abbrev pub Unplaced : Table → Type 0
Unplaced t = All (λ r. has_place r ≡ false) t

-- nor has an owner the deadline 0
pub record Plain (t : Table) : Type 0 where
  pub timely : Timely t
  pub unplaced : Unplaced t

-- the owner of no request at the hash h has the deadline 0
abbrev pub Living : Table → ℕ → Type 0
Living t h = (late 0 (at (txid h) t).owner ≡ false) × (late 0 (at (wtxid h) t).owner ≡ false)

-- the bytes b write the state st with a table in which c owners have failed and are to go, and which lacks d parents, whose rows are in the words w: with these, and
-- without those, it is the table t. No parent waits at the hash of an owner that is to go.
pub record Pending (b w : List ℕ) (d c : ℕ) (st : State) (t : Table) : Type 0 where
  pub base : Table
  pub entries : List Entry
  pub sound : Sound (on_table base st)
  pub writes : Writes b (on_table base st)
  pub unplaced : Unplaced base
  pub mixed : Mixed base entries w d
  pub parental : Each Parental entries
  pub living : Each (λ (a : Entry). Living base a.key.hash) entries
  pub left : Sound (on_table (dropped_all 0 base) st)
  pub count : held base ≡ held (dropped_all 0 base) + c
  pub timely : c ≡ 0 → Timely base
  pub room : held (dropped_all 0 base) + d ≤ st.limit
  pub together : Sound (on_table (pushes entries (dropped_all 0 base)) st)
  pub table : t ≡ marks (keys_of entries) (pushes entries (dropped_all 0 base))

-- at the hash h nobody waits, and no owner is to go
pub record Open (h : ℕ) {b w : List ℕ} {d c : ℕ} {st : State} {t : Table} (v : Pending b w d c st t) : Type 0 where
  pub living : Living v.base h
  pub apart : waits h v.entries ≡ false

-- some state and table
pub record Pends (b w : List ℕ) (d c : ℕ) : Type 0 where
  pub state : State
  pub now_table : Table
  pub pending : Pending b w d c state now_table

-- ---- what is done

-- the connection n owns the request at k, and has not failed there
abbrev pub OwnsInTime : ℕ → Key → Table → Type 0
OwnsInTime n k t = (owner_is n (at k t).owner ≡ true) × (late 0 (at k t).owner ≡ false)

-- none waits at the hash h: d' wait then, and c' are to go
pub record Cleared (b b' w w' : List ℕ) (d d' c c' h : ℕ) : Type 0 where
  pub pending : (st : State) (t : Table) → Pending b w d c st t → Pending b' w' d' c' st t
  pub apart : (t : Table) → Ordered 0 t → (es : List Entry) → Mixed t es w' d' → waits h es ≡ false

-- the owner n of the request at k has failed: d' wait then, and c' are to go
abbrev pub FailsLater : List ℕ → List ℕ → List ℕ → List ℕ → ℕ → ℕ → ℕ → ℕ → Key → ℕ → ℕ → Type 0
FailsLater b b' w w' d d' c c' k n now = (st : State) (t : Table) → Pending b w d c st t → Pending b' w' d' c' st (failed k n now t).table

-- those that failed have gone
abbrev pub Departs : List ℕ → List ℕ → ℕ → Type 0
Departs b b' c = (w : List ℕ) (d : ℕ) (st : State) (t : Table) → Pending b w d c st t → Pending b' w d 0 st t

-- and those that wait have come in
abbrev pub Arrives : List ℕ → List ℕ → List ℕ → List ℕ → ℕ → Type 0
Arrives b b' w w' d = (st : State) (t : Table) → Pending b w d 0 st t → Pending b' w' 0 0 st t

abbrev pub Settles : List ℕ → List ℕ → List ℕ → List ℕ → ℕ → ℕ → Type 0
Settles b b' w w' d c = (st : State) (t : Table) → Pending b w d c st t → Pending b' w' 0 0 st t

-- L announcements are held with the d that wait, and without the c that are to go
abbrev pub FullWith : List ℕ → ℕ → ℕ → Bool → Type 0
FullWith b d c r = (st : State) → Sound st → Writes b st → r ≡ leb (st.limit + c) (held st.table + d)

-- r tells whether the owner is to go at the key whose rows are those from .. to
abbrev pub GoesIn : List ℕ → ℕ → ℕ → Bool → Type 0
GoesIn b from to r = (k : Key) → k.hash < top → Spans b (place k) from to → Tells b (λ t. r ≡ late 0 (at k t).owner)

-- ---- the parent h is announced for the connection n at `now`, with the priority i

module _ (n now h i : ℕ) where
  pub record AmongAt (b w : List ℕ) (d c : ℕ) (st : State) (t : Table) (kept : Bool) : Type 0 where
    pub reply : (one_parent (limits_of st) n now h i t).reply ≡ kept
    pub pending : Pending b w d c st (one_parent (limits_of st) n now h i t).table

  -- r tells how it fares at an open hash that the connection has announced under neither kind, where `spent` says that no candidate can be evicted
  pub record Considers (b w : List ℕ) (d c : ℕ) (spent : Bool) (r : Reply) : Type 0 where
    pub kept : r ≡ reply.Kept → (st : State) (t : Table) (v : Pending b w d c st t) → Open h v → is_candidate n h v.base ≡ false
        → Admits (limits_of st) (dropped_all 0 v.base) v.entries (txid h) (parent_of n now h i)
    pub refused : r ≡ reply.Refused → (st : State) (t : Table) (v : Pending b w d c st t) → Open h v → is_candidate n h v.base ≡ false → (spent ≡ true → Spent t)
        → one_parent (limits_of st) n now h i t ≡ refused t

  -- r tells how it fares among those that wait and those that are to go, where `spent` says that no candidate can be evicted; one that is to be announced by itself
  -- is not announced
  pub record Among (b b' w w' : List ℕ) (d d' c : ℕ) (spent : Bool) (r : Reply) : Type 0 where
    pub kept : r ≡ reply.Kept → (st : State) (t : Table) → Pending b w d c st t → AmongAt b' w' d' c st t true
    pub refused : r ≡ reply.Refused → (st : State) (t : Table) → Pending b w d c st t → (spent ≡ true → Spent t) → AmongAt b' w' d' c st t false
    pub alone : r ≡ reply.Alone → (b' ≡ b) × (w' ≡ w) × (d' ≡ d)
