-- What the contracts of the passes over a listing's requests say.
use Rattle.std.specs.Prelude.{ℕ, suc, ◌+◌, ◌<◌, ◌≤◌, ◌≡◌, Bool, true, false, ◌&&◌, List, [], ◌∷◌, ◌++◌, eqb, length, take, Option as Maybe, Some, None, IfSome, IsNone}
use Rattle.std.proofs.Math.Option.{Option, none, some}
use Rattle.ident.specs.declared.Kind.{Kind}
use Rattle.ident.specs.declared.Kind.TheVariants.{Wtxid}
use Rattle.ident.specs.Number.{Key, place}
use Rattle.regions.specs.declared.Key.{Key as RowKey}
use Rattle.machine.specs.Limits.{max_announcements, max_places, max_alternates}
use Rattle.machine.specs.State.{Candidate, Owner, Request, Table, with_candidates}
use Rattle.machine.specs.Table.{one}
use Rattle.machine.specs.Claim.{elem, same_kind}
use Rattle.machine.specs.Listing.{Rest, RequestListed, TableListed}
use Rattle.machine.specs.SoundTest.{all_fit}
use Rattle.heavy.specs.Streams.{connections_of}
use Rattle.listed_lines.specs.declared.line.Request as line-request
use Rattle.listed_lines.specs.declared.line.Candidate as line-candidate
use Rattle.listed_lines.specs.Given.{request_in, candidate_in}
use Rattle.listed_form.specs.Given.{key_in, Body, requests_only}
use Rattle.listed_requests.specs.declared.candidates.Gathered.{Gathered}
use Rattle.listed_requests.specs.declared.each.Pass.{Pass}
use Rattle.listed_requests.specs.Parts.{line_fits, one_fits, local_fits, pass_fits}

-- ---- the line that comes next, as a candidate's or as a request's

-- the first of the candidates of q is c; the others are listed from index end on
pub record FirstCandidate (b : List ℕ) (end : ℕ) (c : Candidate) (q : Rest) : Type 0 where
  pub candidates : List Candidate
  pub parts : q.candidates ≡ c ∷ candidates
  pub body : Body b end (record { candidates = candidates; table = q.table })

pub record TakesCandidate (b : List ℕ) (at : ℕ) (c : line-candidate.Candidate) (end : ℕ) : Type 0 where
  pub on : at < end
  pub is : (q : Rest) → Body b at q → FirstCandidate b end (candidate_in c) q

-- no candidate is left at an index
pub record NoCandidates (b : List ℕ) (at end : ℕ) : Type 0 where
  pub stays : end ≡ at
  pub is : (q : Rest) → Body b at q → q.candidates ≡ []

pub record NextCandidate (b : List ℕ) (at : ℕ) (r : Maybe line-candidate.Candidate) (end : ℕ) : Type 0 where
  pub takes : IfSome r (λ c. TakesCandidate b at c end)
  pub stays : IsNone r → NoCandidates b at end

-- the first of the requests t is r with the candidates that are listed from index end on
pub record First (b : List ℕ) (end : ℕ) (r : Request) (t : Table) : Type 0 where
  pub candidates : List Candidate
  pub table : Table
  pub parts : t ≡ with_candidates candidates r ∷ table
  pub body : Body b end (record { candidates = candidates; table = table })

pub record TakesRequest (b : List ℕ) (at : ℕ) (ws ps : List ℕ) (r : line-request.Request) (end : ℕ) : Type 0 where
  pub on : at < end
  pub is : (t : Table) → Body b at (requests_only t) → First b end (request_in ws ps r) t

-- a line is left only where requests are
pub record NextRequest (b : List ℕ) (at : ℕ) (ws ps : List ℕ) (r : Maybe line-request.Request) (end : ℕ) : Type 0 where
  pub on : at ≤ end
  pub moves : at < length b → at < end
  pub takes : IfSome r (λ q. TakesRequest b at ws ps q end)
  pub missing : IsNone r → at < length b → (t : Table) → Body b at (requests_only t) → ⊥

-- ---- the candidates of a request

abbrev pub kind_is : Kind → Option Kind → Bool
kind_is k none = false
kind_is k (some j) = same_kind j k

-- connections of a hash: at most eight are kept
abbrev pub most_gathered : ℕ
most_gathered = 8

-- all candidates of the request are gathered: their connections stand behind the first n of w
pub record Whole (b : List ℕ) (k : Key) (n : ℕ) (w w' : List ℕ) (g : Gathered) (end : ℕ) (q : Rest) : Type 0 where
  pub count : g.count ≡ n + length q.candidates
  pub connections : take g.count w' ≡ take n w ++ connections_of q.candidates
  pub fit : g.fit ≡ all_fit k q.candidates
  pub body : Body b end (requests_only q.table)

pub record GathersAll (b : List ℕ) (from : ℕ) (k : Key) (n : ℕ) (w w' : List ℕ) (g : Gathered) (end : ℕ) : Type 0 where
  pub bound : g.count ≤ most_gathered
  pub whole : (q : Rest) → Body b from q → Whole b k n w w' g end q

-- the candidates of a request with the key k that are listed from an index on; none: with n others they are more than eight
pub record Gathers (b : List ℕ) (from : ℕ) (k : Key) (n : ℕ) (w w' : List ℕ) (r : Maybe Gathered) (end : ℕ) : Type 0 where
  pub on : from ≤ end
  pub all : IfSome r (λ g. GathersAll b from k n w w' g end)
  pub many : IsNone r → (q : Rest) → Body b from q → most_gathered < n + length q.candidates

-- ---- a request's line

-- flag, package and parents, by whether there is an owner, a package, a parent
abbrev pub packs : Kind → Bool → Bool → Bool → ℕ → Bool
packs k owned true true n = false
packs k owned true false n = owned && same_kind k Wtxid
packs k owned false true n = owned && same_kind k Wtxid
packs k owned false false n = eqb n 0

-- an owner is one of these connections
abbrev pub owner_among : Option Owner → List ℕ → Bool
owner_among none l = true
owner_among (some o) l = elem o.connection l

-- the tests of a request's line, whose parents stand in ps
pub record LineFits (ps : List ℕ) (r : line-request.Request) (fit : Bool) : Type 0 where
  pub is : (ws : List ℕ) → RequestListed (request_in ws ps r) → fit ≡ line_fits (request_in ws ps r)

-- the request of a line with the candidates that are listed from an index on is lawful, and has n of them
pub record IsLawful (b : List ℕ) (from : ℕ) (ps : List ℕ) (r : line-request.Request) (n end : ℕ) : Type 0 where
  pub bound : n ≤ most_gathered
  pub is : (ws : List ℕ) (q : Rest) → Body b from q → RequestListed (request_in ws ps r) → one_fits max_alternates (with_candidates q.candidates (request_in ws ps r)) ≡ true
  pub count : (q : Rest) → Body b from q → n ≡ length q.candidates
  pub body : (q : Rest) → Body b from q → Body b end (requests_only q.table)

pub record Judged (b : List ℕ) (from : ℕ) (ps : List ℕ) (r : line-request.Request) (n : Maybe ℕ) (end : ℕ) : Type 0 where
  pub on : from ≤ end
  pub lawful : IfSome n (λ n. IsLawful b from ps r n end)
  pub unlawful : IsNone n → (ws : List ℕ) (q : Rest) → Body b from q → RequestListed (request_in ws ps r)
      → one_fits max_alternates (with_candidates q.candidates (request_in ws ps r)) ≡ false

-- ---- one request after the other

-- the least place that the next key may have
abbrev pub lowest : Maybe RowKey → ℕ
lowest None = 0
lowest (Some k) = suc (place (key_in k))

abbrev pub lowest_of : Pass → ℕ
lowest_of p = lowest p.last

-- what is left of the test at the requests t
abbrev pub left_fits : ℕ → ℕ → Pass → Table → Bool
left_fits L Q p t = pass_fits (record { announcements = L; alternates = max_alternates }) Q (lowest_of p) p.held p.taken t

-- L and Q are such as opening takes, and neither is passed
abbrev pub Within : ℕ → ℕ → Pass → Type 0
Within L Q p = (L ≤ max_announcements) × (Q ≤ max_places) × (p.held ≤ L) × (p.taken ≤ Q)

-- a package place, by whether there is a package
abbrev pub place_for : Bool → Bool → ℕ
place_for info false = one info
place_for info true = 1

-- the requests behind the first of t are left, with the same test
pub record Further (b : List ℕ) (L Q : ℕ) (p : Pass) (t : Table) (s : Pass) (end : ℕ) : Type 0 where
  pub table : Table
  pub body : Body b end (requests_only table)
  pub listed : TableListed table
  pub same : left_fits L Q p t ≡ left_fits L Q s table

-- the first request of those that are listed from an index on passes
pub record GoesOn (b : List ℕ) (at L Q : ℕ) (p s : Pass) (end : ℕ) : Type 0 where
  pub on : at < end
  pub held : s.held ≤ L
  pub taken : s.taken ≤ Q
  pub is : (t : Table) → Body b at (requests_only t) → TableListed t → Further b L Q p t s end

pub record Stepped (b : List ℕ) (at L Q : ℕ) (p : Pass) (r : Maybe Pass) (end : ℕ) : Type 0 where
  pub goes_on : IfSome r (λ s. GoesOn b at L Q p s end)
  pub stops : IsNone r → (t : Table) → Body b at (requests_only t) → TableListed t → left_fits L Q p t ≡ false

-- the requests that are listed from an index on, each by itself
pub record EachFits (b : List ℕ) (from L Q : ℕ) (r : Bool) : Type 0 where
  pub is : (t : Table) → Body b from (requests_only t) → TableListed t → r ≡ local_fits (record { announcements = L; alternates = max_alternates }) Q t
