-- What the contracts of announce, request_parent and announce_parents say.
use Rattle.std.specs.Prelude.{ℕ, ◌≡◌, Bool, List, length, if◌then◌else◌}
use Rattle.ident.specs.Number.{txid}
use Rattle.machine.specs.Limits.{Limits}
use Rattle.machine.specs.State.{State, Table, Answer, limits_of, on_table}
use Rattle.machine.specs.Sound.{Sound}
use Rattle.machine.specs.Announce.{request_parent_at}
use Rattle.machine.specs.Fail.{Listed, parent_of, mark}
use Rattle.machine.specs.Step.{keys_answer, written}
use Rattle.store.specs.Image.{Writes}

-- whatever sound state the bytes b write, r is what the machine answers, and b' write what it makes of the table
pub record Answered (b b' : List ℕ) (r : Bool) (f : Limits → Table → Answer) : Type 0 where
  pub reply : (st : State) → Sound st → Writes b st → r ≡ (f (limits_of st) st.table).reply
  pub table : (st : State) → Sound st → Writes b st → Writes b' (on_table (f (limits_of st) st.table).table st)

-- the same of a call that lists keys: n of them, written over the first bytes of the buffer u
pub record KeysListed (b b' u u' : List ℕ) (n : ℕ) (f : Limits → Table → Listed) : Type 0 where
  pub count : (st : State) → Sound st → Writes b st → n ≡ length (f (limits_of st) st.table).keys
  pub keys : (st : State) → Sound st → Writes b st → u' ≡ written (keys_answer (f (limits_of st) st.table).keys) u
  pub table : (st : State) → Sound st → Writes b st → Writes b' (on_table (f (limits_of st) st.table).table st)

-- one parent of announce_parents: requested as t with priority i, and marked if kept
abbrev pub one_parent : Limits → ℕ → ℕ → ℕ → ℕ → Table → Answer
one_parent m n now h i t =
    let a = request_parent_at m (txid h) (parent_of n now h i) t in
    record { reply = a.reply; table = if a.reply then mark (txid h) a.table else a.table }
