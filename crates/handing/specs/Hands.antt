-- What an owner that leaves hands on: parents announced for the candidates left, their keys put in order; or its request, given back.
use Rattle.std.specs.Prelude.{ℕ, ◌≤◌, ◌<◌, ◌≡◌, ◌⊎◌, Bool, true, false, List, [], ◌∷◌, ◌++◌, map}
use Rattle.ident.specs.Number.{Key, other}
use Rattle.machine.specs.Limits.{Limits, word}
use Rattle.machine.specs.State.{Candidate, Request, State, Table, limits_of, on_table, unowned, owner_is}
use Rattle.machine.specs.Table.{at, change}
use Rattle.machine.specs.Announce.{without}
use Rattle.machine.specs.Sound.{Sound}
use Rattle.machine.specs.Fail.{Listed, nothing, left, announce_parents, parents_for, releasable}
use Rattle.machine.specs.Typed.{Each}
use Rattle.store.specs.Image.{Writes}
use Rattle.requests.specs.Changes.{Tells}
use Rattle.failing.specs.Changes.{readied}
use Rattle.merging.specs.Merges.{Takes, Merged}

abbrev pub conns_of : List Candidate → List ℕ
conns_of cs = map (λ c. c.connection) cs

-- connections that can be candidates
abbrev pub Peers : List ℕ → Type 0
Peers ns = Each (λ n. (1 ≤ n) × (n < word)) ns

-- the parents are announced for each of some connections
unfoldable pub announce_for : Limits → ℕ → List ℕ → List ℕ → Table → Listed
announce_for m now hs [] t = nothing t
announce_for m now hs (n ∷ ns) t =
    let a = announce_parents m n now hs t in
    let rest = announce_for m now hs ns a.table in
    record { keys = a.keys ++ rest.keys; table = rest.table }

-- whatever sound state the bytes b write, there is room for the keys that f lists
abbrev pub Roomy : List ℕ → List ℕ → ℕ → (Limits → Table → Listed) → Type 0
Roomy b u n f = (st : State) → Sound st → Writes b st → Takes (f (limits_of st) st.table).keys u n

-- and these are put in order among the first n keys of the buffer u, r keys then; b' write what f makes of the table
pub record KeysMerged (b b' u u' : List ℕ) (n r : ℕ) (f : Limits → Table → Listed) : Type 0 where
  pub merged : (st : State) → Sound st → Writes b st → Merged (f (limits_of st) st.table).keys u u' n r
  pub table : (st : State) → Sound st → Writes b st → Writes b' (on_table (f (limits_of st) st.table).table st)

-- ---- an owner without parents to hand on

-- it gives its request back in place, the others get the ready time, and it waits to be cut with the rest
abbrev pub eased : ℕ → ℕ → Key → Table → Table
eased n now k t = change (other k) (left n now) (change k (readied now) (change k unowned t))

-- ---- a key that waits

-- the owner n has no parents to hand on, or nobody to hand them to
abbrev pub Silent : ℕ → Request → Type 0
Silent n r = (parents_for n r ≡ []) ⊎ (without n r.candidates ≡ [])

-- n does not own the request at k, and nothing is done; or n gives it back, with nothing to announce
abbrev pub Rests : ℕ → ℕ → Key → List ℕ → State → Type 0
Rests n now k b' st =
    ((owner_is n (at k st.table).owner ≡ false) × Writes b' st)
    ⊎ ((releasable n (at k st.table) ≡ true) × Silent n (at k st.table) × Writes b' (on_table (eased n now k st.table) st))

-- r says that the key k waits; else n owns the request there
pub record KeyWaits (n now : ℕ) (k : Key) (b b' : List ℕ) (r : Bool) : Type 0 where
  pub rests : r ≡ true → (st : State) → Sound st → Writes b st → Rests n now k b' st
  pub same : r ≡ false → b' ≡ b
  pub owns : r ≡ false → Tells b (λ t. owner_is n (at k t).owner ≡ true)
