-- Next poll and cursors as words of the header (docs/STORE.md, words 6 to 17).
use Rattle.std.specs.Prelude.{ℕ, ◌+◌, ◌≡◌, List, get_or, drop}
use Rattle.std.specs.Prelude as rust
use Rattle.std.specs.Prelude.{Some, None}
use Rattle.std.proofs.Math.Option.{Option, none, some}
use Rattle.ident.specs.declared.Kind.{Kind}
use Rattle.ident.specs.declared.Key.{Key as KeyRead}
use Rattle.ident.specs.Number.{Key}
use Rattle.ident.specs.Words.{maybe_key_num}
use Rattle.words.specs.Words.{splice}
use Rattle.regions.specs.Rows.{read_quad, quad_number}
use Rattle.machine.specs.State.{State, with_ready_cursor}
use Rattle.store.specs.Image.{poll_words, cursor_words, Writes}
use Rattle.store.specs.Read.{cursor_is}
use Rattle.cursors.specs.declared.Cursors.{Cursors}
use Rattle.cursors.specs.Numbers.{time_num}

abbrev pub poll_at : ℕ
poll_at = 6

abbrev pub known_at : ℕ
known_at = 8

abbrev pub ready_at : ℕ
ready_at = 13

-- the kind that the tag of a cursor says, whatever its hash
abbrev pub TagSays : ℕ → rust.Option Kind → Type 0
TagSays tag None = (h : ℕ) → none ≡ cursor_is tag h
TagSays tag (Some k) = (h : ℕ) → some (record { kind = k; hash = h }) ≡ cursor_is tag h

-- the cursor that the words from the index a on say
abbrev pub cursor_in : List ℕ → ℕ → Option Key
cursor_in w a = cursor_is (get_or w a 0) (quad_number (read_quad (drop (a + 1) w)))

-- the words with other fields in the header
abbrev pub written : Cursors → List ℕ → List ℕ
written c w = splice (splice (splice w poll_at (poll_words (time_num c.next))) known_at (cursor_words (maybe_key_num c.known))) ready_at (cursor_words (maybe_key_num c.ready))

-- c is the cursor k, as the code has it
abbrev pub Stands : rust.Option KeyRead → Option Key → Type 0
Stands c k = maybe_key_num c ≡ k

-- whatever state the bytes b write, b' write it with the ready cursor c
abbrev pub ReadyMoved : List ℕ → List ℕ → rust.Option KeyRead → Type 0
ReadyMoved b b' c = (k : Option Key) → Stands c k → (s : State) → Writes b s → Writes b' (with_ready_cursor k s)
