-- What the contracts of a plan say.
use Rattle.std.specs.Prelude.{ℕ, ◌*◌, ◌≤◌, ◌≡◌, List, length, take, drop}
use Rattle.std.specs.Prelude as rust
use Rattle.std.proofs.Math.Option.{Option, none, some}
use Rattle.ident.specs.Number.{Key}
use Rattle.places.specs.Places.{Place, list_most}
use Rattle.machine.specs.Limits.{max_places}
use Rattle.machine.specs.State.{Entry, State, on_table, with_ready_cursor}
use Rattle.machine.specs.Plan as machine
use Rattle.machine.specs.Sound.{Sound}
use Rattle.machine.specs.Typed.{Each, KeyTyped}
use Rattle.machine.specs.Step.{entries_answer, written}
use Rattle.store.specs.Image.{Writes}
use Rattle.apart.specs.Bare.{bare, bare_state}
use Rattle.apart.specs.Apart.{resting, Apart}
use Rattle.choosing.specs.Choosing.{option_of}
use Rattle.selecting.specs.declared.Scan.{Scan}
use Rattle.planning.specs.declared.replying.Reply.{Reply}
use Rattle.planning.specs.declared.plan.Planned.{Planned}
use Rattle.selecting.specs.Selecting.{Marks, Scanning}
use Rattle.selecting.specs.Phasing.{given_keys}

-- what a plan is asked for: the keys that given bytes hold, or all
abbrev pub asked_in : {A : Type 0} → (A → List ℕ) → rust.Option A → Option (List Key)
asked_in f rust.None = none
asked_in f (rust.Some g) = some (given_keys (f g))

-- whatever is marked in b, b' write the state without it, and u' has the entries, sorted, over the first bytes of u
abbrev pub Closed : List ℕ → List ℕ → List ℕ → ℕ → List ℕ → List ℕ → Type 0
Closed b b' p n u u' = (now : ℕ) (st : State) (l : List Entry) → Sound st → Marks now st l b p n → Writes b' st × (u' ≡ written (entries_answer (machine.sort_by_priority l)) u)

-- what the phases of a plan answer and leave
pub record Selects (now : ℕ) (asked : Option (List Key)) (st : State) (b' u u' : List ℕ) (r : Reply) : Type 0 where
  pub count : r.count ≡ length (machine.plan now asked st).entries
  pub entries : u' ≡ written (entries_answer (machine.plan now asked st).entries) u
  pub considered : r.considered ≡ (machine.plan now asked st).considered
  pub state : Writes b' (machine.plan now asked st).state

-- what a plan answers and leaves
pub record Plans (now : ℕ) (asked : Option (List Key)) (st : State) (b' u u' : List ℕ) (r : Planned) : Type 0 where
  pub count : r.count ≡ length (machine.plan now asked st).entries
  pub entries : u' ≡ written (entries_answer (machine.plan now asked st).entries) u
  pub considered : r.considered ≡ (machine.plan now asked st).considered
  pub next : option_of r.next ≡ (machine.plan now asked st).next
  pub state : Writes b' (machine.plan now asked st).state

-- ---- the second phase

-- the keys asked for, considered after the scan c in the table as it stands
abbrev pub asks : ℕ → Option (List Key) → State → machine.Scan → machine.Scan
asks now asked st c = machine.phase now st.table (machine.asked_keys asked st.ready_cursor st.table) c

-- what it answers and leaves
pub record Asks (now : ℕ) (asked : Option (List Key)) (st : State) (c : machine.Scan) (b' u u' : List ℕ) (r : Reply) : Type 0 where
  pub count : r.count ≡ length (asks now asked st c).chosen
  pub entries : u' ≡ written (entries_answer (machine.sort_by_priority (asks now asked st c).chosen)) u
  pub considered : r.considered ≡ (asks now asked st c).considered
  pub state : Writes b' (with_ready_cursor (machine.cursor_after asked (asks now asked st c).last st.ready_cursor) st)

-- after every scan that v tells of
abbrev pub AsksOf : List ℕ → List ℕ → List ℕ → List ℕ → List ℕ → ℕ → Option (List Key) → Scan → Reply → Type 0
AsksOf b b' p u u' now asked v r = (st : State) (c : machine.Scan) → Scanning now st c b p v → Asks now asked st c b' u u' r

-- v tells of a first phase over some keys of some state
pub record Begun (now : ℕ) (b p : List ℕ) (v : Scan) : Type 0 where
  pub state : State
  pub some-keys : List Key
  pub typed : Each KeyTyped some-keys
  pub stands : Scanning now state (machine.phase now state.table some-keys machine.start) b p v

-- keys that a first phase has considered at most
abbrev pub most_noted : ℕ
most_noted = list_most * max_places

-- ---- expiry and the first phase, where the places are set apart

pub record BegunTo (b' f' : List ℕ) (m c : ℕ) (st : State) (p' : List ℕ) (now : ℕ) (w : Scan) : Type 0 where
  pub before : List ℕ
  pub places : List Place
  pub apart : Apart before f' m (on_table (machine.expired now st).table st) (resting places)
  pub count : c ≡ length places
  pub rest : drop m b' ≡ drop m before
  pub stands : Scanning now (bare_state (on_table (machine.expired now st).table st)) (machine.phase now (bare (machine.expired now st).table) (machine.expired now st).keys
      machine.start) (take m b') p' w

pub record Begins (b b' f f' : List ℕ) (m c : ℕ) (p' : List ℕ) (now : ℕ) (w : Scan) : Type 0 where
  pub near : w.considered ≤ most_noted
  pub goes : (st : State) (ps : List Place) → Apart b f m st (resting ps) → c ≡ length ps → BegunTo b' f' m c st p' now w

-- ---- a plan, of every sound state that b write

abbrev pub SelectsOf : List ℕ → List ℕ → List ℕ → List ℕ → ℕ → Option (List Key) → Reply → Type 0
SelectsOf b b' u u' now asked r = (st : State) → Sound st → Writes b st → Selects now asked st b' u u' r

abbrev pub PlansOf : List ℕ → List ℕ → List ℕ → List ℕ → ℕ → Option (List Key) → Planned → Type 0
PlansOf b b' u u' now asked r = (st : State) → Sound st → Writes b st → Plans now asked st b' u u' r
