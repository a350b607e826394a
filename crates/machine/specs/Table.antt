-- The ordered table of requests: what stands at a key, how it is changed there, and counts over it.
use Rattle.std.specs.Prelude.{ℕ, ◌+◌, Bool, true, false, not, ◌&&◌, ◌||◌, List, [], ◌∷◌, ◌++◌, map, ltb, leb, eqb, if◌then◌else◌}
use Rattle.std.proofs.Math.Option.{Option, none, some}
use Rattle.ident.specs.Number.{Key, place}
use Rattle.machine.specs.State.{Candidate, Owner, Package, Request, Table, blank, owner_is}

-- the request at a key, or a blank one
unfoldable pub at : Key → Table → Request
at k [] = blank k
at k (r ∷ t) = if eqb (place k) (place r.key) then r else at k t

-- a request with no candidate is no request
unfoldable pub keep : Request → List Candidate → Table → Table
keep r [] t = t
keep r (c ∷ cs) t = r ∷ t

-- the table with f of the request at k, or of a blank one, in its place; gone, if f leaves no candidate
unfoldable pub change : Key → (Request → Request) → Table → Table
change k f [] = keep (f (blank k)) (f (blank k)).candidates []
change k f (r ∷ t) =
    if ltb (place k) (place r.key) then keep (f (blank k)) (f (blank k)).candidates (r ∷ t)
    else if eqb (place k) (place r.key) then keep (f r) (f r).candidates t
    else r ∷ change k f t

unfoldable pub keys : Table → List Key
keys [] = []
keys (r ∷ t) = r.key ∷ keys t

-- ---- counts

abbrev pub one : Bool → ℕ
one true = 1
one false = 0

-- how many of these candidates' connections pass a test
unfoldable pub count_in : (ℕ → Bool) → List Candidate → ℕ
count_in p [] = 0
count_in p (c ∷ cs) = one (p c.connection) + count_in p cs

-- a weight of each request, in all
unfoldable pub total : (Request → ℕ) → Table → ℕ
total w [] = 0
total w (r ∷ t) = w r + total w t

-- how many announcements pass a test of key and connection
abbrev pub count : (Key → ℕ → Bool) → Table → ℕ
count p t = total (λ r. count_in (p r.key) r.candidates) t

-- how many owned requests pass a test of key and owner
abbrev pub owner_in : (ℕ → Bool) → Option Owner → ℕ
owner_in p none = 0
owner_in p (some o) = one (p o.connection)

abbrev pub owners : (Key → ℕ → Bool) → Table → ℕ
owners p t = total (λ r. owner_in (p r.key) r.owner) t

-- package places held
abbrev pub place_in : Bool → Option Package → ℕ
place_in info none = one info
place_in info (some p) = 1

abbrev pub places_held : Table → ℕ
places_held t = total (λ r. place_in r.info r.«package») t

-- the tests: all; of one connection; at one hash; of one connection at one hash
abbrev pub any : Key → ℕ → Bool
any k m = true

abbrev pub by : ℕ → Key → ℕ → Bool
by n k m = eqb m n

abbrev pub under : ℕ → Key → ℕ → Bool
under h k m = eqb k.hash h

abbrev pub by_under : ℕ → ℕ → Key → ℕ → Bool
by_under n h k m = eqb k.hash h && eqb m n

abbrev pub held : Table → ℕ
held t = count any t

abbrev pub held_by : ℕ → Table → ℕ
held_by n t = count (by n) t

abbrev pub held_at : ℕ → Table → ℕ
held_at h t = count (under h) t

abbrev pub is_candidate : ℕ → ℕ → Table → Bool
is_candidate n h t = ltb 0 (count (by_under n h) t)

abbrev pub owned_by : ℕ → Table → ℕ
owned_by n t = owners (by n) t

abbrev pub owned_at : ℕ → Table → ℕ
owned_at h t = owners (under h) t

-- a candidate of these has connection n
unfoldable pub has : ℕ → List Candidate → Bool
has n [] = false
has n (c ∷ cs) = eqb c.connection n || has n cs
