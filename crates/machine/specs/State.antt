-- What a state holds (document 01, "What a state holds").
use Rattle.std.specs.Prelude.{ℕ, min, ◌<◌, Bool, true, false, List, [], ◌∷◌, eqb, if◌then◌else◌}
use Rattle.std.proofs.Math.Option.{Option, none, some}
use Rattle.ident.specs.Number.{top, Key, Item}
use Rattle.machine.specs.Limits.{Limits, max_alternates}

-- One announcement: who can deliver, as what item, from when on, and how it ranks.
pub record Candidate : Type 0 where
  pub connection : ℕ
  pub item : Item
  pub ready : ℕ
  pub preferred : Bool
  pub priority : ℕ

-- The connection that is asked, and until when.
pub record Owner : Type 0 where
  pub connection : ℕ
  pub deadline : ℕ

-- "a package (combined hash, 1 to 100 wtxids, Awaiting or Enqueued)"
pub record Package : Type 0 where
  pub combined : ℕ
  pub wtxids : List ℕ
  pub enqueued : Bool

-- "A request: a key; candidates in order of arrival; an owner with a deadline, or none; a package-info flag; a package, or
-- none; up to 100 parents; a fallback mark."
pub record Request : Type 0 where
  pub key : Key
  pub candidates : List Candidate
  pub owner : Option Owner
  pub info : Bool
  pub «package» : Option Package
  pub parents : List ℕ
  pub fallback : Bool

-- the requests, in the order of their keys
abbrev pub Table : Type 0
Table = List Request

-- L and Q; the requests; "next poll time, known cursor, ready cursor, each possibly none"
pub record State : Type 0 where
  pub limit : ℕ
  pub places : ℕ
  pub table : Table
  pub next_poll : Option ℕ
  pub known_cursor : Option Key
  pub ready_cursor : Option Key

abbrev pub limits_of : State → Limits
limits_of s = record { announcements = s.limit; alternates = max_alternates }

-- a candidate with its request's key: what a plan answers and a claim is given
pub record Entry : Type 0 where
  pub key : Key
  pub candidate : Candidate

-- what a call on the table answers: the Rust's bool, and the table that it leaves
pub record Answer : Type 0 where
  pub reply : Bool
  pub table : Table

abbrev pub refused : Table → Answer
refused t = record { reply = false; table = t }

abbrev pub done : Table → Answer
done t = record { reply = true; table = t }

-- ---- a state with one part changed

abbrev pub on_table : Table → State → State
on_table t s = record { limit = s.limit; places = s.places; table = t; next_poll = s.next_poll; known_cursor = s.known_cursor; ready_cursor = s.ready_cursor }

abbrev pub with_next_poll : Option ℕ → State → State
with_next_poll p s = record { limit = s.limit; places = s.places; table = s.table; next_poll = p; known_cursor = s.known_cursor; ready_cursor = s.ready_cursor }

abbrev pub with_known_cursor : Option Key → State → State
with_known_cursor c s = record { limit = s.limit; places = s.places; table = s.table; next_poll = s.next_poll; known_cursor = c; ready_cursor = s.ready_cursor }

abbrev pub with_ready_cursor : Option Key → State → State
with_ready_cursor c s = record { limit = s.limit; places = s.places; table = s.table; next_poll = s.next_poll; known_cursor = s.known_cursor; ready_cursor = c }

-- ---- a request with some parts changed

-- what stands under a key that has no request
abbrev pub blank : Key → Request
blank k = record { key = k; candidates = []; owner = none; info = false; «package» = none; parents = []; fallback = false }

abbrev pub with_candidates : List Candidate → Request → Request
with_candidates cs r = record { key = r.key; candidates = cs; owner = r.owner; info = r.info; «package» = r.«package»; parents = r.parents; fallback = r.fallback }

-- "owner, flag, package and parents go"
abbrev pub unowned : Request → Request
unowned r = record { key = r.key; candidates = r.candidates; owner = none; info = false; «package» = none; parents = []; fallback = r.fallback }

abbrev pub owned_until : ℕ → ℕ → Request → Request
owned_until n d r = record {
  key = r.key;
  candidates = r.candidates;
  owner = some (record { connection = n; deadline = d });
  info = r.info;
  «package» = r.«package»;
  parents = r.parents;
  fallback = r.fallback;
}

abbrev pub marked : Request → Request
marked r = record { key = r.key; candidates = r.candidates; owner = r.owner; info = r.info; «package» = r.«package»; parents = r.parents; fallback = true }

-- ---- a candidate with some parts changed

abbrev pub ready_at : ℕ → Candidate → Candidate
ready_at now c = record { connection = c.connection; item = c.item; ready = now; preferred = c.preferred; priority = c.priority }

abbrev pub with_item : Item → Candidate → Candidate
with_item i c = record { connection = c.connection; item = i; ready = c.ready; preferred = c.preferred; priority = c.priority }

-- "takes the smaller ready time and priority, turns preferred, takes the item if the kind is the same"
abbrev pub adopting : Bool → Candidate → Candidate → Candidate
adopting same c d = record { connection = d.connection; item = if same then c.item else d.item; ready = min d.ready c.ready; preferred = true; priority = min d.priority c.priority }

-- ---- tests

abbrev pub owner_is : ℕ → Option Owner → Bool
owner_is n none = false
owner_is n (some o) = eqb o.connection n

abbrev pub enqueued_in : Option Package → Bool
enqueued_in none = false
enqueued_in (some p) = p.enqueued

abbrev pub is_some {ℓ} : {A : Type ℓ} → Option A → Bool
is_some none = false
is_some (some a) = true

abbrev pub is_none {ℓ} : {A : Type ℓ} → Option A → Bool
is_none none = true
is_none (some a) = false

-- ---- numbers of their widths

-- of every element of a list
abbrev pub Each : {A : Type 0} → (A → Type 0) → List A → Type 0
Each P [] = Unit {0}
Each P (a ∷ l) = P a × Each P l

abbrev pub KeyTyped : Key → Type 0
KeyTyped k = k.hash < top
