-- Owners that fail and parents that are announced, where some wait to go and to come in, of whatever owners; or, where an owner of the store has the deadline 0 from before, one after
-- the other. Either way the table of document 01 is known at each step.
use Rattle.std.specs.Prelude.{ℕ, ◌+◌, ◌-◌, ◌*◌, ◌≤◌, ◌≡◌, Bool, true, false, not, List, length, take}
use Rattle.std.specs.Prelude as rust
use Rattle.words.specs.Words.{words}
use Rattle.ident.specs.Number.{Key}
use Rattle.places.specs.Places.{list_most}
use Rattle.machine.specs.State.{Table, State, limits_of, on_table, owner_is}
use Rattle.machine.specs.Table.{at}
use Rattle.machine.specs.Fail.{failed}
use Rattle.machine.specs.Sound.{Sound}
use Rattle.machine.specs.Typed.{Each}
use Rattle.store.specs.Flat.{places_of}
use Rattle.store.specs.FlatSound.{PlacesAscend}
use Rattle.store.specs.Image.{Writes}
use Rattle.package_stages.specs.Dead.{filter, live}
use Rattle.announcing.specs.Answers.{one_parent}
use Rattle.gathering.specs.Aside.{Empty}
use Rattle.parenting.specs.Displacing.{Spent, Reserve, Supplied}
use Rattle.postponing.specs.Pending.{Plain, Unplaced, Pending, Pends}
use Rattle.apart.specs.declared.delayed.Delayed.{Delayed}
use Rattle.apart.specs.Bare.{bare, bare_state}
use Rattle.apart.specs.Apart.{Slot, plain, slot_bytes, bare_bytes, Slots, Apart}

-- what waits: `count` rows in some words, and `gone` owners to go; whether owners go later, and whether the parents that are announced now are announced by themselves
pub record Delay : Type 0 where
  pub words : List ℕ
  pub count : ℕ
  pub gone : ℕ
  pub later : Bool
  pub alone : Bool

abbrev pub delay_of : Delayed → Delay
delay_of q = record { words = words q.rows.bytes; count = q.rows.count; gone = q.gone; later = q.later; alone = q.alone }

-- ---- between two owners

-- the bytes b write the state st, up to what waits: its table is t
pub record Front (b : List ℕ) (e : Delay) (st : State) (t : Table) : Type 0 where
  pub sound : Sound (on_table t st)
  pub later : e.later ≡ true → Pending b e.words e.count e.gone st t
  pub at_once : e.later ≡ false → Writes b (on_table t st)
  pub empty : e.later ≡ false → Empty e.words
  pub none : e.later ≡ false → e.count ≡ 0
  pub alone : e.alone ≡ not e.later

-- some state and table; where `spent` says so nobody can be evicted
pub record Fronts (b : List ℕ) (e : Delay) (spent : Bool) : Type 0 where
  pub state : State
  pub now_table : Table
  pub front : Front b e state now_table
  pub none_left : spent ≡ true → Spent now_table

abbrev pub Starts : List ℕ → Delay → Type 0
Starts b e = (st : State) → Sound st → Writes b st → Unplaced st.table → Front b e st st.table

abbrev pub Ends : List ℕ → List ℕ → Delay → Type 0
Ends b b' e = (st : State) (t : Table) → Front b e st t → Writes b' (on_table t st)

-- r is the least deadline of an owner that has not failed, where x says whether those that have failed have the deadline 0
pub record Lowest (x : Bool) (r : ℕ) : Type 0 where
  pub later : x ≡ true → r ≡ 1
  pub at_once : x ≡ false → r ≡ 0

-- somebody waits, if x says so
abbrev pub PendsIf : Bool → List ℕ → Delay → Type 0
PendsIf x b e = x ≡ true → Pends b e.words e.count e.gone

-- ---- an owner fails

pub record FailsIn (b : List ℕ) (e : Delay) (k : Key) (n : ℕ) : Type 0 where
  pub state : State
  pub now_table : Table
  pub front : Front b e state now_table
  pub own : owner_is n (at k now_table).owner ≡ true

abbrev pub Fails : List ℕ → List ℕ → Delay → Delay → Key → ℕ → ℕ → Type 0
Fails b b' e e' k n now = (st : State) (t : Table) → Front b e st t → Front b' e' st (failed k n now t).table

-- ---- the parents of an owner

module _ (n : ℕ) where
  -- r is what is known of victims, which are in the words v; l says whether owners go later
  pub record Open (l : Bool) (b v : List ℕ) (e : Delay) (r : Reserve) (st : State) (t : Table) : Type 0 where
    pub same : e.later ≡ l
    pub later : e.alone ≡ false → l ≡ true
    pub beside : e.alone ≡ false → Pending b e.words e.count e.gone st t
    pub unlisted : e.alone ≡ false → r.count ≡ 0
    pub alone : e.alone ≡ true → Supplied n b e.words v e.count st t r
    pub none_left : r.spent ≡ true → Spent t

  pub record Opens (b v : List ℕ) (e : Delay) (r : Reserve) : Type 0 where
    pub late : Bool
    pub state : State
    pub now_table : Table
    pub opened : Open late b v e r state now_table

  -- the owner has no more
  pub record Closed (l : Bool) (b' : List ℕ) (e' : Delay) (st : State) (t : Table) : Type 0 where
    pub sound : Sound (on_table t st)
    pub front : (l ≡ true → Plain t) → Front b' e' st t

  abbrev pub Closes : List ℕ → List ℕ → List ℕ → Delay → Delay → Reserve → Type 0
  Closes b b' v e e' r = (l : Bool) (st : State) (t : Table) → Open l b v e r st t → Closed l b' e' st t

-- the parent h is announced for the connection n at `now`, with the priority i
module _ (n now h i : ℕ) where
  pub record OneAt (l : Bool) (b v : List ℕ) (e : Delay) (r : Reserve) (st : State) (t : Table) (kept : Bool) : Type 0 where
    pub reply : kept ≡ (one_parent (limits_of st) n now h i t).reply
    pub opened : Open n l b v e r st (one_parent (limits_of st) n now h i t).table

  abbrev pub OneIn : List ℕ → List ℕ → List ℕ → List ℕ → Delay → Delay → Reserve → Reserve → Bool → Type 0
  OneIn b b' v v' e e' r r' kept = (l : Bool) (st : State) (t : Table) → Open n l b v e r st t → OneAt l b' v' e' r' st t kept

  -- announced beside those that wait, or o is none, and it is to be announced by itself
  pub record BesideIn (b b' : List ℕ) (e e' : Delay) (spent : Bool) (o : rust.Option Bool) : Type 0 where
    pub told : (x : Bool) → o ≡ rust.Some x → (l : Bool) (v : List ℕ) (r : Reserve) → spent ≡ r.spent → (st : State) (t : Table) → Open n l b v e r st t → OneAt l b' v e' r st t x
    pub itself : o ≡ rust.None → e'.alone ≡ true
    pub waits : o ≡ rust.None → (l : Bool) (v : List ℕ) (r : Reserve) (st : State) (t : Table) → Open n l b v e r st t → Open n l b' v e' r st t

-- ---- the whole

-- as Apart, up to what waits
pub record Around (b f : List ℕ) (m : ℕ) (e : Delay) (st : State) (xs : List Slot) : Type 0 where
  pub sound : Sound st
  pub size : m ≡ bare_bytes st.limit
  pub long : length b ≡ m + slot_bytes * (st.places - 1)
  pub first_long : length f ≡ slot_bytes
  pub front : Front (take m b) e (bare_state st) (bare st.table)
  pub slots : Slots b f m st.places xs
  pub lives : filter live (plain xs) ≡ places_of st.table
  pub ascend : PlacesAscend 0 (plain xs)
  pub short : Each (λ p. length p.parents ≤ list_most) (plain xs)
