-- The request machine: announce and request_parent.
use Rattle.std.specs.Prelude.{ℕ, Bool, true, false, ◌||◌, List, [], ◌∷◌, ◌++◌, ltb, leb, eqb, if◌then◌else◌}
use Rattle.std.proofs.Math.Option.{Option, none, some}
use Rattle.ident.specs.Number.{Key, place, other, key_of}
use Rattle.machine.specs.Limits.{Limits, max_peer_announcements}
use Rattle.machine.specs.State.{Candidate, Request, Table, Entry, Answer, refused, done, with_candidates, adopting, owner_is}
use Rattle.machine.specs.Table.{at, change, has, held, held_by, held_at, is_candidate}

-- ---- one candidate more, one less

unfoldable pub without : ℕ → List Candidate → List Candidate
without n [] = []
without n (c ∷ cs) = if eqb c.connection n then cs else c ∷ without n cs

abbrev pub push : Key → Candidate → Table → Table
push k c t = change k (λ r. with_candidates (r.candidates ++ (c ∷ [])) r) t

abbrev pub cut : Key → ℕ → Table → Table
cut k n t = change k (λ r. with_candidates (without n r.candidates) r) t

-- ---- eviction

-- "unpreferred candidates not owning their request"
unfoldable pub victims_in : Request → List Candidate → List Entry
victims_in r [] = []
victims_in r (c ∷ cs) =
    if c.preferred || owner_is c.connection r.owner then victims_in r cs
    else record { key = r.key; candidate = c } ∷ victims_in r cs

-- those under the keys that pass a test
unfoldable pub victims : (Key → Bool) → Table → List Entry
victims p [] = []
victims p (r ∷ t) = (if p r.key then victims_in r r.candidates else []) ++ victims p t

-- a comes after b by "(priority, key, connection)"
unfoldable pub after : Entry → Entry → Bool
after a b =
    if ltb b.candidate.priority a.candidate.priority then true
    else if ltb a.candidate.priority b.candidate.priority then false
    else if ltb (place b.key) (place a.key) then true
    else if ltb (place a.key) (place b.key) then false
    else ltb b.candidate.connection a.candidate.connection

unfoldable pub greatest_from : Entry → List Entry → Entry
greatest_from a [] = a
greatest_from a (b ∷ l) = greatest_from (if after b a then b else a) l

unfoldable pub greatest : List Entry → Option Entry
greatest [] = none
greatest (a ∷ l) = some (greatest_from a l)

abbrev pub at_hash : ℕ → Key → Bool
at_hash h j = eqb j.hash h

abbrev pub anywhere : Key → Bool
anywhere j = true

-- "A preferred one evicts the greatest .. It gets 0 exactly if there is none."
unfoldable pub evicting : Option Entry → Key → Candidate → Table → Answer
evicting none k c t = refused t
evicting (some v) k c t = done (push k c (cut v.key v.candidate.connection t))

-- ---- announce

-- "0 if the connection is a candidate under either kind, then 0 at 5,000 of its own. With eight at the hash, or L held, an
-- unpreferred one gets 0. A preferred one evicts .. at that hash if it has eight, else anywhere."
unfoldable pub announce_at : Limits → Key → Candidate → Table → Answer
announce_at m k c t =
    if is_candidate c.connection k.hash t then refused t
    else if leb max_peer_announcements (held_by c.connection t) then refused t
    else if leb m.alternates (held_at k.hash t) then
    (if c.preferred then evicting (greatest (victims (at_hash k.hash) t)) k c t else refused t)
    else if leb m.announcements (held t) then
    (if c.preferred then evicting (greatest (victims anywhere t)) k c t else refused t)
    else done (push k c t)

-- "An item of any other kind has no key, and an announcement of it replies 0."
unfoldable pub announce_keyed : Limits → Option Key → Candidate → Table → Answer
announce_keyed m none c t = refused t
announce_keyed m (some k) c t = announce_at m k c t

abbrev pub announce : Limits → Candidate → Table → Answer
announce m c t = announce_keyed m (key_of c.item) c t

-- ---- request_parent

-- the candidate of c's connection adopts what c brings
unfoldable pub adopt : Bool → Candidate → List Candidate → List Candidate
adopt same c [] = []
adopt same c (d ∷ ds) = if eqb d.connection c.connection then adopting same c d ∷ ds else d ∷ adopt same c ds

abbrev pub adopted : Bool → Key → Candidate → Table → Table
adopted same k c t = change k (λ r. with_candidates (adopt same c r.candidates) r) t

-- "an existing candidate under either kind .. reply 1. Otherwise announce."
unfoldable pub request_parent_at : Limits → Key → Candidate → Table → Answer
request_parent_at m k c t =
    if has c.connection (at k t).candidates then done (adopted true k c t)
    else if has c.connection (at (other k) t).candidates then done (adopted false (other k) c t)
    else announce_at m k c t

unfoldable pub request_parent_keyed : Limits → Option Key → Candidate → Table → Answer
request_parent_keyed m none c t = refused t
request_parent_keyed m (some k) c t = request_parent_at m k c t

abbrev pub request_parent : Limits → Candidate → Table → Answer
request_parent m c t = request_parent_keyed m (key_of c.item) c t
