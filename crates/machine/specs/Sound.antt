-- Sound states (document 01, "Sound", with demand 3's bounds and the ranges that a byte image needs).
use Rattle.std.specs.Prelude.{ℕ, suc, ◌≤◌, ◌<◌, ◌≡◌, Bool, true, false, List, [], ◌∷◌, length}
use Rattle.std.proofs.Math.Option.{Option, none, some}
use Rattle.ident.specs.declared.Kind.{Kind}
use Rattle.ident.specs.declared.Kind.TheVariants.{Txid, Wtxid}
use Rattle.ident.specs.Number.{top, Key, place, key_of}
use Rattle.machine.specs.Limits.{Limits, max_announcements, max_places, max_peer_announcements, max_in_flight, max_wtxids, max_parents, word}
use Rattle.machine.specs.State.{Candidate, Owner, Package, Request, Table, State, limits_of, is_some}
use Rattle.machine.specs.Table.{any, by, under, by_under, count, owners, places_held, has}
use Rattle.machine.specs.Claim.{elem}

-- ---- numbers in their ranges

-- every hash of a list is of 256 bits
abbrev pub Hashes : List ℕ → Type 0
Hashes [] = Unit {0}
Hashes (h ∷ hs) = (h < top) × Hashes hs

abbrev pub NoRepeat : List ℕ → Type 0
NoRepeat [] = Unit {0}
NoRepeat (h ∷ hs) = (elem h hs ≡ false) × NoRepeat hs

abbrev pub CursorFits : Option Key → Type 0
CursorFits none = Unit {0}
CursorFits (some k) = k.hash < top

abbrev pub PollFits : Option ℕ → Type 0
PollFits none = Unit {0}
PollFits (some n) = n < word

-- ---- one request

-- "no connection 0", "each item gives its request's key"
pub record Fits (k : Key) (c : Candidate) : Type 0 where
  pub item : key_of c.item ≡ some k
  pub positive : 0 < c.connection
  pub connection : c.connection < word
  pub ready : c.ready < word
  pub priority : c.priority < word

abbrev pub AllFit : Key → List Candidate → Type 0
AllFit k [] = Unit {0}
AllFit k (c ∷ cs) = Fits k c × AllFit k cs

-- "every owner is a candidate of its request"
abbrev pub OwnerFits : Option Owner → List Candidate → Type 0
OwnerFits none cs = Unit {0}
OwnerFits (some o) cs = (has o.connection cs ≡ true) × (o.deadline < word)

-- "combined hash, 1 to 100 wtxids"
pub record PackageFits (p : Package) : Type 0 where
  pub combined : p.combined < top
  pub wtxids : Hashes p.wtxids
  pub some_wtxid : 1 ≤ length p.wtxids
  pub few_wtxids : length p.wtxids ≤ max_wtxids

-- "up to 100 parents", "parents distinct"
pub record ParentsFit (hs : List ℕ) : Type 0 where
  pub hashes : Hashes hs
  pub distinct : NoRepeat hs
  pub few : length hs ≤ max_parents

-- "flag or package only with an owner, never both, only on Wtxid keys; parents .. only beside flag or package"
abbrev pub Packed : Kind → Option Owner → Bool → Option Package → List ℕ → Type 0
Packed k o true (some p) hs = ⊥
Packed k o true none hs = (is_some o ≡ true) × (k ≡ Wtxid)
Packed k o false (some p) hs = (is_some o ≡ true) × (k ≡ Wtxid) × PackageFits p
Packed k o false none hs = hs ≡ []

-- "the mark only on Txid keys"
abbrev pub Marked : Kind → Bool → Type 0
Marked k true = k ≡ Txid
Marked k false = Unit {0}

pub record Lawful (r : Request) : Type 0 where
  pub candidates : AllFit r.key r.candidates
  pub owner : OwnerFits r.owner r.candidates
  pub packed : Packed r.key.kind r.owner r.info r.«package» r.parents
  pub parents : ParentsFit r.parents
  pub mark : Marked r.key.kind r.fallback

-- ---- the table

-- "keys distinct": they ascend from the place lo on; their hashes are of 256 bits
abbrev pub Ordered : ℕ → Table → Type 0
Ordered lo [] = Unit {0}
Ordered lo (r ∷ t) = (lo ≤ place r.key) × (r.key.hash < top) × Ordered (suc (place r.key)) t

abbrev pub All : (Request → Type 0) → Table → Type 0
All P [] = Unit {0}
All P (r ∷ t) = P r × All P t

-- "at least one candidate a request"
abbrev pub Filled : Request → Type 0
Filled r = 1 ≤ length r.candidates

pub record Bounded (m : Limits) (Q : ℕ) (t : Table) : Type 0 where
  pub ordered : Ordered 0 t
  pub filled : All Filled t
  pub lawful : All Lawful t
  -- "at most L announcements are held"
  pub fits : count any t ≤ m.announcements
  -- "no connection .. has more than 5,000 announcements"
  pub each : (n : ℕ) → count (by n) t ≤ max_peer_announcements
  -- "no hash .. has more than eight candidates"
  pub alternates : (h : ℕ) → count (under h) t ≤ m.alternates
  -- "a connection at most once over both kinds of a hash"
  pub once : (n h : ℕ) → count (by_under n h) t ≤ 1
  -- "no connection owns more than 100 requests"
  pub owned : (n : ℕ) → owners (by n) t ≤ max_in_flight
  -- "no hash is owned under both kinds"
  pub single : (h : ℕ) → owners (under h) t ≤ 1
  -- "at most Q places held"
  pub room : places_held t ≤ Q

-- ---- the state

pub record Sound (s : State) : Type 0 where
  -- "L and Q such as opening takes"
  pub some_limit : 1 ≤ s.limit
  pub most-limit : s.limit ≤ max_announcements
  pub some_place : 1 ≤ s.places
  pub most-places : s.places ≤ max_places
  pub bounded : Bounded (limits_of s) s.places s.table
  pub poll : PollFits s.next_poll
  pub known : CursorFits s.known_cursor
  pub ready : CursorFits s.ready_cursor
