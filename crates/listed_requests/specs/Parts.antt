-- The test of a state (machine/specs/SoundTest) in the parts that passes over a listing's lines decide: the first line; each request by itself; a Txid request with
-- the Wtxid request of its hash; how often a connection comes. proofs/Together: they come to the whole test.
use Rattle.std.specs.Prelude.{ℕ, suc, ◌+◌, Bool, true, not, ◌&&◌, List, [], ◌∷◌, ◌++◌, ltb, leb, length}
use Rattle.ident.specs.declared.Kind.{Kind}
use Rattle.ident.specs.declared.Kind.TheVariants.{Txid, Wtxid}
use Rattle.ident.specs.Number.{top, Key, place, wtxid}
use Rattle.machine.specs.Limits.{Limits, max_peer_announcements, max_in_flight}
use Rattle.machine.specs.State.{Candidate, Request, Table, State, limits_of, is_some}
use Rattle.machine.specs.Table.{at, held, held_by, owned_by, place_in, places_held}
use Rattle.machine.specs.SoundTest.{no_repeat, cursor_fits, poll_fits, is_packed, parents_fit, mark_fits, is_lawful, is_ordered, every, is_filled, every_one, sizes_fit}
use Rattle.heavy.specs.Streams.{connections_of}

-- ---- the first line

abbrev pub head_fits : State → Bool
head_fits s = sizes_fit s && (poll_fits s.next_poll && (cursor_fits s.known_cursor && cursor_fits s.ready_cursor))

-- ---- each request by itself

-- "no hash .. more than eight candidates", "a connection at most once", of these candidates
unfoldable pub few_once : ℕ → List Candidate → Bool
few_once most cs = leb (length cs) most && no_repeat (connections_of cs)

abbrev pub uncrowded : ℕ → Request → Bool
uncrowded most r = few_once most r.candidates

-- a request's line by itself: its package, its parents, its mark
unfoldable pub line_fits : Request → Bool
line_fits r = is_packed r.key.kind r.owner r.info r.«package» r.parents && (parents_fit r.parents && mark_fits r.key.kind r.fallback)

-- a request with its candidates
unfoldable pub one_fits : ℕ → Request → Bool
one_fits most r = is_filled r && (is_lawful r && uncrowded most r)

unfoldable pub local_fits : Limits → ℕ → Table → Bool
local_fits m Q t =
    (is_ordered 0 t && (every is_filled t && every is_lawful t))
    && (every (uncrowded m.alternates) t && (leb (held t) m.announcements && leb (places_held t) Q))

-- the same in one pass: the next key's place is lo at least, h announcements and p places are held before it
unfoldable pub pass_fits : Limits → ℕ → ℕ → ℕ → ℕ → Table → Bool
pass_fits m Q lo h p [] = true
pass_fits m Q lo h p (r ∷ t) =
    ((leb lo (place r.key) && ltb r.key.hash top) && one_fits m.alternates r)
    && ((leb (h + length r.candidates) m.announcements && leb (p + place_in r.info r.«package») Q)
    && pass_fits m Q (suc (place r.key)) (h + length r.candidates) (p + place_in r.info r.«package») t)

-- ---- a hash under both kinds

-- "over both kinds of a hash"; "no hash is owned under both kinds"
unfoldable pub pair_fits : ℕ → Request → Request → Bool
pair_fits most r q = few_once most (r.candidates ++ q.candidates) && not (is_some r.owner && is_some q.owner)

-- a Txid request with the Wtxid request of its hash in t, which may be missing
abbrev pub paired_in : ℕ → Table → Kind → Request → Bool
paired_in most t Txid r = pair_fits most r (at (wtxid r.key.hash) t)
paired_in most t Wtxid r = true

abbrev pub paired : ℕ → Table → Request → Bool
paired most t r = paired_in most t r.key.kind r

-- the Txid requests of p, with the Wtxid requests of t
abbrev pub pairs_fit : ℕ → Table → Table → Bool
pairs_fit most t p = every (paired most t) p

-- ---- connections

abbrev pub count_fits : Table → Key → Candidate → Bool
count_fits t k c = leb (held_by c.connection t) max_peer_announcements && leb (owned_by c.connection t) max_in_flight

-- "no connection .. has more than 5,000 announcements", "no connection owns more than 100 requests"
abbrev pub counts_fit : Table → Bool
counts_fit t = every_one (count_fits t) t

-- ---- all of them

unfoldable pub together_fit : State → Bool
together_fit s =
    head_fits s && (local_fits (limits_of s) s.places s.table && (pairs_fit (limits_of s).alternates s.table s.table && counts_fit s.table))
