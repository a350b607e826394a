-- What plan's choice and claim are held to, in document 01's words and apart from the definitions that compute them.
use Rattle.std.specs.Prelude.{ℕ, ◌+◌, ◌≤◌, ◌<◌, ◌≡◌, ◌⊎◌, true, not, List, [], length, get_or}
use Rattle.std.proofs.Math.Option.{Option, none, some}
use Rattle.ident.specs.Number.{top, Key, place, kind_number}
use Rattle.machine.specs.Limits.{max_in_flight, request_lifetime, latest_clock}
use Rattle.machine.specs.State.{Candidate, Owner, Request, Table, State, Entry}
use Rattle.machine.specs.Table.{at, keys, one, owned_by, owned_at}
use Rattle.machine.specs.Plan.{chosen_by, choice}
use Rattle.machine.specs.Claim.{Taken, takes, claim}
use Rattle.machine.specs.Sound.{Sound}
use Rattle.machine.specs.Typed.{EntryTyped, Each}

-- ---- plan: "yields the least (unpreferred, priority, kind, arrival) over both kinds, ready, its connection below 100 counting this plan's"

pub record Rank : Type 0 where
  pub unpreferred : ℕ
  pub priority : ℕ
  pub kind : ℕ
  pub arrival : ℕ

-- the i-th candidate of the request at k
abbrev pub rank_of : Key → ℕ → Candidate → Rank
rank_of k i c = record { unpreferred = one (not c.preferred); priority = c.priority; kind = kind_number k.kind; arrival = i }

-- by the first of the four in which they differ
abbrev pub Before : Rank → Rank → Type 0
Before a b =
    (a.unpreferred < b.unpreferred)
    ⊎ ((a.unpreferred ≡ b.unpreferred) × ((a.priority < b.priority)
    ⊎ ((a.priority ≡ b.priority) × ((a.kind < b.kind)
    ⊎ ((a.kind ≡ b.kind) × (a.arrival < b.arrival))))))

-- c is the i-th candidate of the request at k, which nobody owns; it is ready, and its connection below 100 counting the choices l
pub record Eligible (now : ℕ) (t : Table) (l : List Entry) (k : Key) (i : ℕ) (c : Candidate) : Type 0 where
  pub inside : i < length (at k t).candidates
  pub is : (d : Candidate) → get_or (at k t).candidates i d ≡ c
  pub free : (at k t).owner ≡ none
  pub ready : c.ready ≤ now
  pub few : owned_by c.connection t + chosen_by c.connection l < max_in_flight

-- b is eligible for the hash h, and none that is comes before it
pub record LeastOf (now : ℕ) (t : Table) (l : List Entry) (h : ℕ) (b : Entry) : Type 0 where
  pub hash : b.key.hash ≡ h
  pub arrival : ℕ
  pub eligible : Eligible now t l b.key arrival b.candidate
  pub least : (k : Key) (i : ℕ) (c : Candidate) → k.hash ≡ h → Eligible now t l k i c → Before (rank_of k i c) (rank_of b.key arrival b.candidate) → ⊥

abbrev pub ChosenFor : ℕ → Table → List Entry → ℕ → Option Entry → Type 0
ChosenFor now t l h none = (k : Key) (i : ℕ) (c : Candidate) → k.hash ≡ h → Eligible now t l k i c → ⊥
ChosenFor now t l h (some b) = LeastOf now t l h b

-- what plan chooses for a hash is the least of the eligible, and nothing only if there is none
abbrev pub ChoiceLeast : Type 0
ChoiceLeast = (now : ℕ) (t : Table) (l : List Entry) (k : Key) → ChosenFor now t l k.hash (choice now t l k)

-- ---- claim: "takes each entry of the caller's checked list whose hash is unowned and that is still, in every field, what plan would choose for its hash"

pub record TakenExactly (now : ℕ) (a : Entry) (t : Table) : Type 0 where
  pub only : takes now a t ≡ true → (owned_at a.key.hash t ≡ 0) × (choice now t [] a.key ≡ some a)
  pub all : owned_at a.key.hash t ≡ 0 → choice now t [] a.key ≡ some a → takes now a t ≡ true

abbrev pub TakesExact : Type 0
TakesExact = (now : ℕ) (a : Entry) (t : Table) → TakenExactly now a t

-- a request without its owner: candidates, flag, package, parents, mark
abbrev pub ownerless : Request → Request
ownerless r = record { key = r.key; candidates = r.candidates; owner = none; info = r.info; «package» = r.«package»; parents = r.parents; fallback = r.fallback }

abbrev pub owning : ℕ → ℕ → Option Owner
owning n d = some (record { connection = n; deadline = d })

-- "its connection becomes owner with deadline now + 60,000": that alone changes, so that every request keeps its mark
pub record ClaimKeeps (now : ℕ) (t : Table) (x : Taken) : Type 0 where
  pub keys : keys x.table ≡ keys t
  pub rest : (j : Key) → j.hash < top → ownerless (at j x.table) ≡ ownerless (at j t)
  pub taken : Each (λ a. (at a.key x.table).owner ≡ owning a.candidate.connection (now + request_lifetime)) x.entries
  pub others : (j : Key) → j.hash < top → Each (λ a. place a.key ≡ place j → ⊥) x.entries → (at j x.table).owner ≡ (at j t).owner

-- over a whole list, on a sound state
abbrev pub ClaimMarks : Type 0
ClaimMarks = (now : ℕ) (l : List Entry) (s : State) → now ≤ latest_clock → Each EntryTyped l → Sound s → ClaimKeeps now s.table (claim now l s.table)
