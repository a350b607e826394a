-- The record of next poll and cursors in the machine's numbers (document 01: "next poll time, known cursor, ready cursor, each possibly none").
use Rattle.std.specs.Prelude.{ℕ, ◌≡◌, Bool, List}
use Rattle.std.specs.Prelude as rust
use Rattle.std.specs.Prelude.{Some, None}
use Rattle.std.proofs.Math.Option.{Option, none, some}
use Rattle.ident.specs.Number.{Key}
use Rattle.ident.specs.Words.{maybe_key_num}
use Rattle.machine.specs.State.{State, with_next_poll, with_known_cursor}
use Rattle.machine.specs.Wrapper.{due_at, next_poll_after}
use Rattle.store.specs.Image.{Writes}
use Rattle.cursors.specs.declared.Cursors.{Cursors}

abbrev pub time_num : rust.Option ℕ → Option ℕ
time_num None = none
time_num (Some n) = some n

pub record Numbers : Type 0 where
  pub next : Option ℕ
  pub known : Option Key
  pub ready : Option Key

-- of the code's record, and of a state
abbrev pub numbers_of : Cursors → Numbers
numbers_of c = record { next = time_num c.next; known = maybe_key_num c.known; ready = maybe_key_num c.ready }

abbrev pub cursors_of : State → Numbers
cursors_of s = record { next = s.next_poll; known = s.known_cursor; ready = s.ready_cursor }

-- the state with these three in the place of its own
abbrev pub with_cursors : Numbers → State → State
with_cursors n s = record { limit = s.limit; places = s.places; table = s.table; next_poll = n.next; known_cursor = n.known; ready_cursor = n.ready }

-- ---- the record with one field changed

abbrev pub with_next : Option ℕ → Numbers → Numbers
with_next p n = record { next = p; known = n.known; ready = n.ready }

abbrev pub with_known : Option Key → Numbers → Numbers
with_known k n = record { next = n.next; known = k; ready = n.ready }

-- what a poll at a time leaves
abbrev pub gate_at : ℕ → Numbers → Numbers
gate_at now n = with_next (next_poll_after now n.next) n

-- ---- bytes

-- the record c is that of every state that the bytes write
abbrev pub Loads : List ℕ → Cursors → Type 0
Loads b c = (s : State) → Writes b s → numbers_of c ≡ cursors_of s

-- whatever state the bytes b write, b' write it with c in it
abbrev pub Saves : List ℕ → List ℕ → Cursors → Type 0
Saves b b' c = (s : State) → Writes b s → Writes b' (with_cursors (numbers_of c) s)

-- ---- the poll gate and the known cursor on bytes

-- whatever state the bytes b write, due is whether a poll is due, and b' write the state with the next poll after it
abbrev pub Gated : List ℕ → List ℕ → ℕ → Bool → Type 0
Gated b b' clock due = (s : State) → Writes b s → (due ≡ due_at clock s.next_poll) × Writes b' (with_next_poll (next_poll_after clock s.next_poll) s)

-- whatever state the bytes b write, b' write it with the known cursor k
abbrev pub KnownMoved : List ℕ → List ℕ → Option Key → Type 0
KnownMoved b b' k = (s : State) → Writes b s → Writes b' (with_known_cursor k s)
