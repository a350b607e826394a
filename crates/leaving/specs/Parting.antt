-- What the contracts of disconnected say: on the way, and at its end.
use Rattle.std.specs.Prelude.{ℕ, ◌+◌, ◌-◌, ◌*◌, ◌≤◌, ◌<◌, ◌≡◌, ◌⊎◌, List, ◌++◌, length, take, drop}
use Rattle.ident.specs.Number.{Key}
use Rattle.machine.specs.Call.{key_bytes}
use Rattle.machine.specs.State.{State, Table, limits_of, on_table}
use Rattle.machine.specs.Table.{owned_by}
use Rattle.machine.specs.Leave.{keys_of, drop_each, sort_keys, Gone, disconnected}
use Rattle.machine.specs.Sound.{Sound}
use Rattle.machine.specs.Step.{keys_answer, written}
use Rattle.machine.specs.Typed.{Each, KeyTyped}
use Rattle.store.specs.Image.{Writes}
use Rattle.lent_lists.specs.Lists.{key_in}
use Rattle.requests.specs.Changes.{Makes, Tells}
use Rattle.merging.specs.Merges.{Rising}
use Rattle.cutting.specs.Cuts.{between, cuts}
use Rattle.leaving.specs.Parts.{Unowned, Within}
use Rattle.leaving.specs.declared.Left.{Left}

-- the i-th key of a buffer
abbrev pub key_out : List ℕ → ℕ → Key
key_out u i = key_in (take key_bytes (drop (key_bytes * i) u))

-- the candidates of n cut under the keys from .. to of a buffer, if there are any
pub record CutListed (n : ℕ) (u : List ℕ) (from to : ℕ) (b b' : List ℕ) : Type 0 where
  pub some : from < to → Makes b b' (λ t. Unit {0}) (cuts n (between (key_out u from) (key_out u (to - 1))))
  pub none : to ≤ from → b' ≡ b

-- none of its keys is passed over, or all of them, since n owns nothing
abbrev pub Idle : ℕ → List ℕ → ℕ → ℕ → Type 0
Idle n b own r = (r ≡ 0) ⊎ ((r ≡ own) × Tells b (λ t. owned_by n t ≡ 0))

-- n leaves from the state st and the buffer u₀; its first i keys have been looked at. From here on there is left to do what comes to the same
-- as the whole: those from `from` on wait to be cut, and the keys of parents listed so far stand in order behind its own.
pub record Going (n now : ℕ) (st : State) (u₀ b u : List ℕ) (own from i parents : ℕ) : Type 0 where
  pub first : Sound st
  pub room : key_bytes * length (keys_of n st.table ++ sort_keys (drop_each (limits_of st) n now (keys_of n st.table) st.table).keys) ≤ length u₀
  pub table : Table
  pub sound : Sound (on_table table st)
  pub writes : Writes b (on_table table st)
  pub acc : List Key
  pub typed : Each KeyTyped acc
  pub done : List Key
  pub waiting : List Key
  pub rest : List Key
  pub lo : ℕ
  pub parents-are : parents ≡ length (sort_keys acc)
  pub bytes : u ≡ written (keys_answer (keys_of n st.table ++ sort_keys acc)) u₀
  pub all : keys_of n st.table ≡ done ++ (waiting ++ rest)
  pub own-are : own ≡ length (keys_of n st.table)
  pub from_is : from ≡ length done
  pub i_is : i ≡ from + length waiting
  pub rising : Rising lo (waiting ++ rest)
  pub unowned : Unowned n table waiting
  pub within : Within n lo (waiting ++ rest) table
  pub keys_left : (drop_each (limits_of st) n now (keys_of n st.table) st.table).keys ≡ acc ++ (drop_each (limits_of st) n now (waiting ++ rest) table).keys
  pub table_left : (drop_each (limits_of st) n now (keys_of n st.table) st.table).table ≡ (drop_each (limits_of st) n now (waiting ++ rest) table).table

-- the same, from some state and buffer
pub record Underway (n now : ℕ) (b u : List ℕ) (own from i parents : ℕ) : Type 0 where
  pub state : State
  pub buffer : List ℕ
  pub going : Going n now state buffer b u own from i parents

-- all of them have been left: r parents' keys stand behind its own
pub record Ended (n now : ℕ) (st : State) (u₀ u b : List ℕ) (r : ℕ) : Type 0 where
  pub count : r ≡ length (disconnected (limits_of st) n now st.table).parents
  pub keys : u ≡ written (keys_answer ((disconnected (limits_of st) n now st.table).own ++ (disconnected (limits_of st) n now st.table).parents)) u₀
  pub table : Writes b (on_table (disconnected (limits_of st) n now st.table).table st)

-- ---- disconnected: its own keys, then its parents', written over the first bytes of the buffer u

pub record Parted (b b' u u' : List ℕ) (r : Left) (f : State → Gone) : Type 0 where
  pub own : (st : State) → Sound st → Writes b st → r.own ≡ length (f st).own
  pub parents : (st : State) → Sound st → Writes b st → r.parents ≡ length (f st).parents
  pub keys : (st : State) → Sound st → Writes b st → u' ≡ written (keys_answer ((f st).own ++ (f st).parents)) u
  pub table : (st : State) → Sound st → Writes b st → Writes b' (on_table (f st).table st)
