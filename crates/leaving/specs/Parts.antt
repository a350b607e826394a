-- The keys under which a connection is a candidate: in parts that are cut at once, and in the rows.
use Rattle.std.specs.Prelude.{ℕ, ◌+◌, ◌*◌, ◌≤◌, ◌<◌, ◌≡◌, Bool, true, false, ◌||◌, List, [], ◌∷◌, ◌++◌, map, eqb, length, if◌then◌else◌}
use Rattle.ident.specs.Number.{top, Key, place}
use Rattle.words.specs.Words.{splice}
use Rattle.regions.specs.declared.Row.{Row}
use Rattle.machine.specs.State.{Table, State, owner_is}
use Rattle.machine.specs.Table.{at, one, has}
use Rattle.machine.specs.Fail.{Listed, nothing}
use Rattle.machine.specs.Leave.{keys_of, drop_at_key}
use Rattle.machine.specs.Limits.{Limits}
use Rattle.machine.specs.Typed.{Each}
use Rattle.machine.specs.Call.{key_bytes}
use Rattle.machine.specs.Step.{key_answer, keys_answer, written}
use Rattle.machine.specs.Sound.{Sound}
use Rattle.package_stages.specs.Dead.{filter}
use Rattle.store.specs.Gather.{key_at}
use Rattle.store.specs.Image.{Writes}
use Rattle.cutting.specs.Cuts.{cut_each}

-- ---- the keys of a connection in parts: each part without an owned key is one pass

-- a key is one of a list
unfoldable pub listed : Key → List Key → Bool
listed j [] = false
listed j (k ∷ ks) = eqb (place k) (place j) || listed j ks

-- n owns the request at none of them
abbrev pub Unowned : ℕ → Table → List Key → Type 0
Unowned n t ks = Each (λ k. owner_is n (at k t).owner ≡ false) ks

-- from the place lo on, n is a candidate under keys of the list only
pub record Within (n lo : ℕ) (ks : List Key) (t : Table) : Type 0 where
  pub known : (j : Key) → j.hash < top → lo ≤ place j → has n (at j t).candidates ≡ true → listed j ks ≡ true

-- disconnected: ks waits to be cut in one pass, which is due when an owned key comes; js are the keys still to be looked at
unfoldable pub in_parts : Limits → ℕ → ℕ → List Key → List Key → Table → Listed
in_parts m n now ks [] t = nothing (cut_each n ks t)
in_parts m n now ks (k ∷ js) t =
    let a = drop_at_key m n now k (cut_each n ks t) in
    let rest = in_parts m n now [] js a.table in
    if owner_is n (at k t).owner then record { keys = a.keys ++ rest.keys; table = rest.table }
    else in_parts m n now (ks ++ (k ∷ [])) js t

-- ---- the keys under which a connection is a candidate, in the rows

-- the keys of its rows
abbrev pub is_of : ℕ → Row → Bool
is_of n r = eqb r.conn n

abbrev pub row_keys : ℕ → List Row → List Key
row_keys n rs = map key_at (filter (is_of n) rs)

-- the key of a row of n, written as the c-th of the buffer
pub record PutIf (n : ℕ) (r : Row) (u u' : List ℕ) (c w : ℕ) : Type 0 where
  pub count : w ≡ c + one (is_of n r)
  pub bytes : u' ≡ (if is_of n r then splice u (key_bytes * c) (key_answer (key_at r)) else u)

-- its keys, written over the first bytes of the buffer u
pub record OwnKeys (n : ℕ) (b u u' : List ℕ) (c : ℕ) : Type 0 where
  pub count : (st : State) → Sound st → Writes b st → c ≡ length (keys_of n st.table)
  pub keys : (st : State) → Sound st → Writes b st → u' ≡ written (keys_answer (keys_of n st.table)) u
