-- What the contracts of the pass over the hashes under both kinds say.
use Rattle.std.specs.Prelude.{ℕ, ◌+◌, ◌<◌, ◌≤◌, ◌≡◌, Bool, true, false, not, ◌&&◌, List, [], ◌∷◌, ◌++◌, length, drop, eqb, is_some}
use Rattle.std.proofs.Math.Option.{some}
use Rattle.ident.specs.declared.Kind.TheVariants.{Wtxid}
use Rattle.ident.specs.Number.{top, wtxid}
use Rattle.machine.specs.Limits.{max_alternates}
use Rattle.machine.specs.State.{Request, Table}
use Rattle.machine.specs.Table.{at}
use Rattle.machine.specs.Claim.{same_kind}
use Rattle.machine.specs.Sound.{Ordered}
use Rattle.machine.specs.SoundTest.{every}
use Rattle.machine.specs.Listing.{Line, HeadLine, RequestLine, CandidateLine, Rest}
use Rattle.listed_lines.specs.declared.line.Request as line-request
use Rattle.listed_lines.specs.Given.{lines_of_text}
use Rattle.listed_form.specs.Given.{Body, requests_only}
use Rattle.listed_pairs.specs.declared.Pair.{Pair}
use Rattle.listed_pairs.specs.declared.Pair.TheVariants.{Unfit, Done, Next}
use Rattle.listed_requests.specs.Parts.{few_once, uncrowded, pairs_fit}

-- ---- the first Wtxid request

-- the letter of a Wtxid request's key, `w`, begins it
abbrev pub starts_wtxid : List ℕ → Bool
starts_wtxid [] = false
starts_wtxid (c ∷ l) = eqb c 119

-- x tells whether a line behind the first one is a Wtxid request's
abbrev pub Tells : Bool → Line → Type 0
Tells x (HeadLine s) = Unit {0}
Tells x (RequestLine r) = x ≡ same_kind r.key.kind Wtxid
Tells x (CandidateLine c) = x ≡ false

-- the first of the lines ls, begun by the bytes s, and where the others begin
pub record Begun (b s : List ℕ) (end : ℕ) (ls : List Line) : Type 0 where
  pub first : Line
  pub others : List Line
  pub parts : ls ≡ first ∷ others
  pub are : lines_of_text (drop end b) ≡ some others
  pub tells : Tells (starts_wtxid s) first

-- the line at an index ends at another, if the lines from there on are all of a form
pub record LinePassed (b : List ℕ) (at end : ℕ) : Type 0 where
  pub is : (ls : List Line) → lines_of_text (drop at b) ≡ some ls → Begun b (drop at b) end ls
  pub on : at < end
  pub inside : end ≤ length b

-- the requests from index j on are Wtxid requests, and those of t
pub record Behind (b : List ℕ) (j : ℕ) (t : Table) : Type 0 where
  pub table : Table
  pub body : Body b j (requests_only table)
  pub ordered : Ordered top table
  pub few : every (uncrowded max_alternates) table ≡ true
  pub same : (h : ℕ) → at (wtxid h) t ≡ at (wtxid h) table

pub record FirstWtxid (b : List ℕ) (from j : ℕ) : Type 0 where
  pub is : (t : Table) → Body b from (requests_only t) → Ordered 0 t → every (uncrowded max_alternates) t ≡ true → Behind b j t

-- ---- two requests

-- the candidates of a request, which are few, end at index e
pub record Skips (b : List ℕ) (from e : ℕ) : Type 0 where
  pub on : from ≤ e
  pub is : (q : Rest) → Body b from q → length q.candidates ≤ max_alternates → Body b e (requests_only q.table)

-- of the requests p those before index e come to nothing beside Wtxid requests from hash k on
pub record Passed (b : List ℕ) (e k : ℕ) (p : Table) : Type 0 where
  pub table : Table
  pub body : Body b e (requests_only table)
  pub ordered : Ordered 0 table
  pub few : every (uncrowded max_alternates) table ≡ true
  pub same : (w : Request) (u : Table) → Ordered top (w ∷ u) → w.key.hash ≡ k → pairs_fit max_alternates (w ∷ u) p ≡ pairs_fit max_alternates (w ∷ u) table

pub record Below (b : List ℕ) (from e k : ℕ) : Type 0 where
  pub on : from ≤ e
  pub is : (p : Table) → Body b from (requests_only p) → Ordered 0 p → every (uncrowded max_alternates) p ≡ true → Passed b e k p

pub record PassesBelow (b : List ℕ) (from e k : ℕ) : Type 0 where
  pub on : from ≤ e
  pub is : (q : Rest) → Body b from q → length q.candidates ≤ max_alternates → Ordered 0 q.table → every (uncrowded max_alternates) q.table ≡ true → Passed b e k q.table

-- the requests of two lines with the candidates that are listed from two indices on; these end at e and d
pub record SideBySide (b : List ℕ) (from : ℕ) (r : line-request.Request) (to : ℕ) (w : line-request.Request) (fit : Bool) (e d : ℕ) : Type 0 where
  pub on : from ≤ e
  pub on2 : to ≤ d
  pub is : (q p : Rest) → Body b from q → Body b to p → fit ≡ (few_once max_alternates (q.candidates ++ p.candidates) && not (is_some r.owner && is_some w.owner))
  pub first : (q p : Rest) → Body b from q → Body b to p → fit ≡ true → Body b e (requests_only q.table)
  pub second : (q p : Rest) → Body b from q → Body b to p → fit ≡ true → Body b d (requests_only p.table)

-- requests p from index i on and Wtxid requests q from index j on: what is left of the test
pub record Facing (b : List ℕ) (i j : ℕ) (p q : Table) : Type 0 where
  pub front : Body b i (requests_only p)
  pub back : Body b j (requests_only q)
  pub ordered : Ordered 0 p
  pub above : Ordered top q
  pub few : every (uncrowded max_alternates) p ≡ true
  pub fewer : every (uncrowded max_alternates) q ≡ true

pub record Left (b : List ℕ) (i j : ℕ) (x : Bool) : Type 0 where
  pub p : Table
  pub q : Table
  pub facing : Facing b i j p q
  pub same : x ≡ pairs_fit max_alternates q p

-- the test goes on at e and d
pub record GoesOn (b : List ℕ) (i j e d : ℕ) : Type 0 where
  pub on : i ≤ e
  pub on2 : j ≤ d
  pub less : i + j < e + d
  pub is : (p q : Table) → Facing b i j p q → Left b e d (pairs_fit max_alternates q p)

abbrev pub ComparedAs : List ℕ → ℕ → ℕ → ℕ → ℕ → Pair → Type 0
ComparedAs b i j e d Unfit = (p q : Table) → Facing b i j p q → pairs_fit max_alternates q p ≡ false
ComparedAs b i j e d Done = (p q : Table) → Facing b i j p q → pairs_fit max_alternates q p ≡ true
ComparedAs b i j e d Next = GoesOn b i j e d

pub record Compared (b : List ℕ) (i j : ℕ) (r : Pair) (e d : ℕ) : Type 0 where
  pub is : ComparedAs b i j e d r

pub record PairsFit (b : List ℕ) (from : ℕ) (r : Bool) : Type 0 where
  pub is : (t : Table) → Body b from (requests_only t) → Ordered 0 t → every (uncrowded max_alternates) t ≡ true → r ≡ pairs_fit max_alternates t t
