-- Whether a state is sound, as a test: Sound (specs/Sound) line by line. A listing of an unsound state is refused by it.
use Rattle.std.specs.Prelude.{ℕ, suc, Bool, true, false, not, ◌&&◌, List, [], ◌∷◌, ltb, leb, length}
use Rattle.std.proofs.Math.Option.{Option, none, some}
use Rattle.ident.specs.declared.Kind.{Kind}
use Rattle.ident.specs.declared.Kind.TheVariants.{Txid, Wtxid}
use Rattle.ident.specs.Number.{top, Key, place, key_of}
use Rattle.machine.specs.Limits.{Limits, max_announcements, max_places, max_peer_announcements, max_in_flight, max_wtxids, max_parents, word}
use Rattle.machine.specs.State.{Candidate, Owner, Package, Request, Table, State, limits_of, is_some}
use Rattle.machine.specs.Table.{by_under, count, held, held_by, held_at, owned_by, owned_at, places_held, has}
use Rattle.machine.specs.Claim.{elem, same_kind, same_key}
use Rattle.machine.specs.Leave.{is_empty}

-- ---- numbers in their ranges

-- every hash of a list is of 256 bits
unfoldable pub hashes_fit : List ℕ → Bool
hashes_fit [] = true
hashes_fit (h ∷ hs) = ltb h top && hashes_fit hs

unfoldable pub no_repeat : List ℕ → Bool
no_repeat [] = true
no_repeat (h ∷ hs) = not (elem h hs) && no_repeat hs

abbrev pub cursor_fits : Option Key → Bool
cursor_fits none = true
cursor_fits (some k) = ltb k.hash top

abbrev pub poll_fits : Option ℕ → Bool
poll_fits none = true
poll_fits (some n) = ltb n word

-- ---- one request

abbrev pub key_is : Key → Option Key → Bool
key_is k none = false
key_is k (some j) = same_key j k

-- "no connection 0", "each item gives its request's key"
abbrev pub fits : Key → Candidate → Bool
fits k c = key_is k (key_of c.item) && ((ltb 0 c.connection && ltb c.connection word) && (ltb c.ready word && ltb c.priority word))

unfoldable pub all_fit : Key → List Candidate → Bool
all_fit k [] = true
all_fit k (c ∷ cs) = fits k c && all_fit k cs

-- "every owner is a candidate of its request"
abbrev pub owner_fits : Option Owner → List Candidate → Bool
owner_fits none cs = true
owner_fits (some o) cs = has o.connection cs && ltb o.deadline word

-- "combined hash, 1 to 100 wtxids"
abbrev pub package_fits : Package → Bool
package_fits p = (ltb p.combined top && hashes_fit p.wtxids) && (leb 1 (length p.wtxids) && leb (length p.wtxids) max_wtxids)

-- "up to 100 parents", "parents distinct"
abbrev pub parents_fit : List ℕ → Bool
parents_fit hs = hashes_fit hs && (no_repeat hs && leb (length hs) max_parents)

-- "flag or package only with an owner, never both, only on Wtxid keys; parents .. only beside flag or package"
abbrev pub is_packed : Kind → Option Owner → Bool → Option Package → List ℕ → Bool
is_packed k o true (some p) hs = false
is_packed k o true none hs = is_some o && same_kind k Wtxid
is_packed k o false (some p) hs = is_some o && (same_kind k Wtxid && package_fits p)
is_packed k o false none hs = is_empty hs

-- "the mark only on Txid keys"
abbrev pub mark_fits : Kind → Bool → Bool
mark_fits k true = same_kind k Txid
mark_fits k false = true

unfoldable pub is_lawful : Request → Bool
is_lawful r =
    (all_fit r.key r.candidates && owner_fits r.owner r.candidates)
    && (is_packed r.key.kind r.owner r.info r.«package» r.parents && (parents_fit r.parents && mark_fits r.key.kind r.fallback))

-- ---- the table

-- "keys distinct": they ascend from the place lo on; their hashes are of 256 bits
unfoldable pub is_ordered : ℕ → Table → Bool
is_ordered lo [] = true
is_ordered lo (r ∷ t) = leb lo (place r.key) && (ltb r.key.hash top && is_ordered (suc (place r.key)) t)

unfoldable pub every : (Request → Bool) → Table → Bool
every p [] = true
every p (r ∷ t) = p r && every p t

-- "at least one candidate a request"
abbrev pub is_filled : Request → Bool
is_filled r = leb 1 (length r.candidates)

-- a test of every candidate with its request's key
unfoldable pub every_in : (Key → Candidate → Bool) → Key → List Candidate → Bool
every_in p k [] = true
every_in p k (c ∷ cs) = p k c && every_in p k cs

abbrev pub every_one : (Key → Candidate → Bool) → Table → Bool
every_one p t = every (λ r. every_in p r.key r.candidates) t

-- "no connection .. has more than 5,000 announcements", "no hash .. more than eight candidates", "a connection at most once over
-- both kinds of a hash", "no connection owns more than 100 requests", "no hash is owned under both kinds": asked of those that
-- stand in the table, since of all others nothing is counted (an owner is a candidate)
unfoldable pub crowd_fits : Limits → Table → Key → Candidate → Bool
crowd_fits m t k c =
    (leb (held_by c.connection t) max_peer_announcements && leb (held_at k.hash t) m.alternates)
    && (leb (count (by_under c.connection k.hash) t) 1 && (leb (owned_by c.connection t) max_in_flight && leb (owned_at k.hash t) 1))

-- "at most L announcements are held", "at most Q places held"
unfoldable pub is_bounded : Limits → ℕ → Table → Bool
is_bounded m Q t =
    (is_ordered 0 t && (every is_filled t && every is_lawful t))
    && (every_one (crowd_fits m t) t && (leb (held t) m.announcements && leb (places_held t) Q))

-- ---- the state

-- "L and Q such as opening takes"
abbrev pub sizes_fit : State → Bool
sizes_fit s = (leb 1 s.limit && leb s.limit max_announcements) && (leb 1 s.places && leb s.places max_places)

unfoldable pub is_sound : State → Bool
is_sound s = sizes_fit s && (is_bounded (limits_of s) s.places s.table && (poll_fits s.next_poll && (cursor_fits s.known_cursor && cursor_fits s.ready_cursor)))
