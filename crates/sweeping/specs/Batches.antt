-- What the contracts of the walk over the keys say.
use Rattle.std.specs.Prelude.{ℕ, ◌+◌, ◌*◌, ◌≤◌, ◌≡◌, Bool, true, not, List, [], ◌∷◌, ◌++◌, eqb, length, take}
use Rattle.std.specs.Prelude as rust
use Rattle.std.proofs.Math.Option.{Option, some}
use Rattle.ident.specs.declared.Key.{Key as Given}
use Rattle.ident.specs.Number.{Key, place}
use Rattle.ident.specs.Words.{key_num}
use Rattle.words.specs.Words.{splice}
use Rattle.regions.specs.declared.Row.{Row}
use Rattle.regions.specs.Order.{Bound}
use Rattle.machine.specs.State.{State}
use Rattle.machine.specs.Table.{keys}
use Rattle.machine.specs.Sound.{CursorFits, Sound}
use Rattle.machine.specs.Sweep.{round, last_of, handed}
use Rattle.machine.specs.Call.{key_bytes}
use Rattle.machine.specs.Step.{key_answer, keys_answer, written}
use Rattle.store.specs.Flat.{Flat, rows_of}
use Rattle.store.specs.Gather.{key_at, gather}
use Rattle.store.specs.Image.{Shows, Writes}
use Rattle.store.specs.Shown.{rows_in, row_numbers}
use Rattle.announcing.specs.Evicts.{part}
use Rattle.cursors.specs.InWords.{Stands}
use Rattle.sweeping.specs.declared.batch.Batch.{Batch}

-- what the next sweep hands out
abbrev pub next_batch : State → List Key
next_batch st = handed st.known_cursor (keys st.table)

-- the keys of the rows from .. to
abbrev pub keys_over : ℕ → ℕ → List Row → List Key
keys_over from to rs = keys (gather (part from to rs))

-- a row is the last of its key, if the next one is of another
unfoldable pub last_row : Row → List Row → Bool
last_row r [] = true
last_row r (q ∷ rs) = not (eqb (place (key_at r)) (place (key_at q)))

-- one key more: w has it behind those of v
pub record Put (u u' : List ℕ) (v : Batch) (r : Row) (w : Batch) : Type 0 where
  pub count : w.count ≡ v.count + 1
  pub bytes : u' ≡ splice u (key_bytes * v.count) (key_answer (key_at r))
  pub last : Stands w.last (some (key_at r))

-- v says of the buffer u, u₀ before the walk, what is handed out; with the keys `rest` behind it, the first `most` are those of `all`
pub record Handing (most : ℕ) (all : List Key) (u₀ u : List ℕ) (v : Batch) (rest : List Key) : Type 0 where
  pub out : List Key
  pub count : v.count ≡ length out
  pub bytes : u ≡ written (keys_answer out) u₀
  pub long : length u ≡ length u₀
  pub last : Stands v.last (last_of out)
  pub all_are : take most (out ++ rest) ≡ all

-- the keys of the rows from .. to are handed out behind those of v
pub record Walks (b : List ℕ) (from to most : ℕ) (u u' : List ℕ) (v w : Batch) : Type 0 where
  pub few : w.count ≤ most
  pub near : w.count + from ≤ v.count + to
  pub hands : (f : Flat) (all rest : List Key) (u₀ : List ℕ) → Shows b f → Handing most all u₀ u v (keys_over from to f.rows ++ rest) → Handing most all u₀ u' w rest

-- where the keys behind k begin; all keys, where there is none
abbrev pub behind : rust.Option Given → ℕ
behind rust.None = 0
behind (rust.Some k) = place (key_num k) + 1

-- where the keys from the place x on begin among the rows
pub record BeginsAt (b : List ℕ) (x from : ℕ) : Type 0 where
  pub few : from ≤ rows_in b
  pub bound : (st : State) → Sound st → Writes b st → Bound (row_numbers (rows_of st.table)) x from

-- the rows from r on, and then those before r, have the keys after the cursor k, and then those round to it
pub record AfterCursor (b : List ℕ) (k : Option Key) (r : ℕ) : Type 0 where
  pub most : r ≤ rows_in b
  pub round_is : CursorFits k → (st : State) → Sound st → Writes b st → keys_over r (rows_in b) (rows_of st.table) ++ keys_over 0 r (rows_of st.table) ≡ round k (keys st.table)

-- the same of the known cursor
pub record AfterKnown (b : List ℕ) (r : ℕ) : Type 0 where
  pub most : r ≤ rows_in b
  pub round_is : (st : State) → Sound st → Writes b st → keys_over r (rows_in b) (rows_of st.table) ++ keys_over 0 r (rows_of st.table) ≡ round st.known_cursor (keys st.table)

-- what known_batch answers
pub record Batched (b u u' : List ℕ) (r : Batch) : Type 0 where
  pub count : (st : State) → Sound st → Writes b st → r.count ≡ length (next_batch st)
  pub keys-are : (st : State) → Sound st → Writes b st → u' ≡ written (keys_answer (next_batch st)) u
  pub last : (st : State) → Sound st → Writes b st → Stands r.last (last_of (next_batch st))
