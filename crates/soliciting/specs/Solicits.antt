-- What the contracts of solicit_package_info say.
use Rattle.std.specs.Prelude.{ℕ, ◌<◌, ◌≡◌, true, List, []}
use Rattle.ident.specs.Number.{wtxid}
use Rattle.machine.specs.Limits.{max_in_flight}
use Rattle.machine.specs.State.{Request, Table, State, limits_of}
use Rattle.machine.specs.Table.{at, has, owned_by, owned_at, places_held}
use Rattle.machine.specs.Package.{solicit}
use Rattle.machine.specs.Sound.{Sound}
use Rattle.store.specs.Image.{Writes}
use Rattle.package_stages.specs.Changes.{has_place}

-- the bytes write a sound state, of whose table P holds
pub record Keeps (b : List ℕ) (P : Table → Type 0) : Type 0 where
  pub state : State
  pub sound : Sound state
  pub writes : Writes b state
  pub holds : P state.table

-- n can become the owner at the Wtxid key with hash h
pub record MayOwn (n h : ℕ) (t : Table) : Type 0 where
  pub held : has n (at (wtxid h) t).candidates ≡ true
  pub free : owned_at h t < 1
  pub few : owned_by n t < max_in_flight

-- flag or package, and no parents yet
pub record Opened (q : Request) : Type 0 where
  pub held : has_place q ≡ true
  pub bare : q.parents ≡ []

-- a request with these parents
abbrev pub given : List ℕ → Request → Request
given hs q = record { key = q.key; candidates = q.candidates; owner = q.owner; info = q.info; «package» = q.«package»; parents = hs; fallback = q.fallback }

-- a place is free, where a solicitation would take one
abbrev pub Room : List ℕ → ℕ → ℕ → List ℕ → ℕ → Type 0
Room b n h hs now = (st : State) → Sound st → Writes b st → (solicit (limits_of st) n h hs now st.table).reply ≡ true → places_held st.table < st.places
