-- Where L announcements are held, and the store is written at the end only: those that come in wait beside it, and as many of the victims
-- listed are to go for them. What is asked meanwhile is asked of the store as it was.
use Rattle.std.specs.Prelude.{ℕ, ◌+◌, ◌≤◌, ◌<◌, ◌≡◌, ◌⊎◌, Bool, true, false, List, [], ◌∷◌, ◌++◌, eqb, length, take}
use Rattle.std.proofs.Math.Option.{Option, some}
use Rattle.ident.specs.Number.{top, Key}
use Rattle.regions.specs.declared.Row.{Row}
use Rattle.machine.specs.Limits.{Limits}
use Rattle.machine.specs.State.{Candidate, Entry, State, Table, limits_of, on_table}
use Rattle.machine.specs.Table.{held, held_at}
use Rattle.machine.specs.Announce.{cut, victims, greatest, anywhere, at_hash, announce_keyed}
use Rattle.machine.specs.Sound.{Sound}
use Rattle.machine.specs.Typed.{Each}
use Rattle.store.specs.Flat.{rows_of}
use Rattle.store.specs.Gather.{key_at}
use Rattle.store.specs.Image.{Writes}
use Rattle.announcing.specs.Evicts.{entry_at}
use Rattle.announcing.specs.Falls.{cuts, VictimRows}
use Rattle.gathering.specs.declared.beside.Fare.{Fare}
use Rattle.gathering.specs.declared.beside.Fare.TheVariants.{Nothing, Waits, Alone}
use Rattle.gathering.specs.Waits.{pushes, waits, barred_beside}
use Rattle.gathering.specs.Aside.{space, Aside, Beside}

-- the bytes b write the sound state st, in which L announcements are held; d preferred candidates of the connection n wait beside it, and the
-- first d of the m victims listed in the words v are to go. None of these is at the hash of one that waits, or is of the connection.
pub record Owing (b w v : List ℕ) (n d m : ℕ) (st : State) : Type 0 where
  pub sound : Sound st
  pub writes : Writes b st
  pub whole : held st.table ≡ st.limit
  pub listed : VictimRows v m (rows_of st.table)
  pub few : d ≤ m
  pub entries : List Entry
  pub aside : Aside n st.table entries w d
  pub preferred : Each (λ (a : Entry). a.candidate.preferred ≡ true) entries
  pub apart : Each (λ (y : Row). (waits (key_at y).hash entries ≡ false) × (eqb y.conn n ≡ false)) (take d listed.rows)

-- the table once they have gone
abbrev pub left_by : {b w v : List ℕ} {n d m : ℕ} {st : State} → Owing b w v n d m st → Table
left_by {b} {w} {v} {n} {d} {m} {st} x = cuts (take d x.listed.rows) st.table

-- ---- an announcement at k

-- by false none of the first n of the m victims listed in the words v is at the hash h
abbrev pub ListedAt : List ℕ → List ℕ → ℕ → ℕ → ℕ → Bool → Type 0
ListedAt b v m n h r = r ≡ false → (st : State) → Sound st → Writes b st → (x : VictimRows v m (rows_of st.table)) → Each (λ (y : Row). eqb (key_at y).hash h ≡ false) (take n x.rows)

-- it changes nothing, as it is barred or there are eight at its hash of whom none can be evicted
pub record ShutOut (m : Limits) (t : Table) (es : List Entry) (k : Key) (c : Candidate) : Type 0 where
  pub either : (barred_beside es k c.connection t ≡ true) ⊎ ((m.alternates ≤ held_at k.hash t) × (victims (at_hash k.hash) t ≡ []))

-- it comes in if the candidate of the row y goes for it
pub record Suited (m : Limits) (t : Table) (es : List Entry) (k : Key) (c : Candidate) (y : Row) : Type 0 where
  pub free : barred_beside es k c.connection t ≡ false
  pub room : held_at k.hash t < m.alternates
  pub apart : waits (key_at y).hash es ≡ false

-- whoever waits, and whatever sound state the bytes b write; the candidate is preferred, and no victim that is to go is at its hash
pub record SuitsNot (b w v : List ℕ) (d m : ℕ) (k : Key) (c : Candidate) : Type 0 where
  pub preferred : c.preferred ≡ true
  pub elsewhere : ListedAt b v m (d + 1) k.hash false
  pub out : (st : State) → Sound st → Writes b st → Beside w d c.connection st.table (λ es. ShutOut (limits_of st) st.table es k c)

pub record SuitsToo (b w v : List ℕ) (d m : ℕ) (k : Key) (c : Candidate) (y : Row) : Type 0 where
  pub spare : d < space
  pub preferred : c.preferred ≡ true
  pub other : eqb y.conn c.connection ≡ false
  pub elsewhere : ListedAt b v m (d + 1) k.hash false
  pub suited : (st : State) → Sound st → Writes b st → Beside w d c.connection st.table (λ es. Suited (limits_of st) st.table es k c y)

pub record SuitedIn (b w v : List ℕ) (d m : ℕ) (k : Key) (c : Candidate) (y : Row) (r : Fare) : Type 0 where
  pub nothing : r ≡ Nothing → SuitsNot b w v d m k c
  pub waits : r ≡ Waits → SuitsToo b w v d m k c y

-- c comes in at k behind es for the candidate of a row, the greatest that can be evicted in the table t: they are then `entries`, and `left` is left of t
pub record Instead (m : Limits) (t : Table) (es : List Entry) (k : Key) (c : Candidate) (entries : List Entry) (left : Table) : Type 0 where
  pub row : Row
  pub free : barred_beside es k c.connection t ≡ false
  pub room : held_at k.hash t < m.alternates
  pub greatest_is : greatest (victims anywhere t) ≡ some (entry_at row)
  pub small : (key_at row).hash < top
  pub apart : waits (key_at row).hash es ≡ false
  pub last : entries ≡ es ++ (record { key = k; candidate = c } ∷ [])
  pub rest : left ≡ cut (key_at row) row.conn t

-- what stands once c was announced beside es: it has come in for the machine's victim, or nothing has changed
pub record Owed (b w v : List ℕ) (d m : ℕ) (x : Option Key) (c : Candidate) (st : State) (es : List Entry) (t : Table) : Type 0 where
  pub owing : Owing b w v c.connection d m st
  pub same : (announce_keyed (limits_of st) x c (pushes es t)).table ≡ pushes owing.entries (left_by owing)
  pub enters : length es < d → (k : Key) → x ≡ some k → Instead (limits_of st) t es k c owing.entries (left_by owing)
  pub stays : d ≡ length es → (owing.entries ≡ es) × (left_by owing ≡ t) × ((announce_keyed (limits_of st) x c (pushes es t)).reply ≡ false)

-- whoever waited, d of them: e wait then, and as many victims are to go
abbrev pub OwedIn : List ℕ → List ℕ → List ℕ → List ℕ → ℕ → ℕ → ℕ → Option Key → Candidate → Type 0
OwedIn b w w' v d e m x c = (st : State) → (f : Owing b w v c.connection d m st) → Owed b w' v e m x c st f.entries (left_by f)

pub record DeferredToo (b w w' v : List ℕ) (d m : ℕ) (x : Option Key) (c : Candidate) : Type 0 where
  pub spare : (d < space) × (d < m)
  pub owed : OwedIn b w w' v d (d + 1) m x c

-- one that is to be announced by itself is not announced
pub record Deferred (b w w' v : List ℕ) (d m : ℕ) (x : Option Key) (c : Candidate) (r : Fare) : Type 0 where
  pub nothing : r ≡ Nothing → OwedIn b w w' v d d m x c
  pub waits : r ≡ Waits → DeferredToo b w w' v d m x c
  pub alone : r ≡ Alone → w' ≡ w

-- ---- the first d of the m victims listed go

abbrev pub Gone : List ℕ → List ℕ → List ℕ → ℕ → ℕ → Type 0
Gone b b' v m d = (st : State) → Sound st → Writes b st → (x : VictimRows v m (rows_of st.table)) → Writes b' (on_table (cuts (take d x.rows) st.table) st)
