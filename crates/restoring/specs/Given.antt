-- What the contracts say: how the lines of a listing come into a store, as lists of records.
use Rattle.std.specs.Prelude.{ℕ, ◌+◌, ◌≤◌, ◌≡◌, List, [], ◌∷◌, ◌++◌, length}
use Rattle.std.specs.Prelude.{Option as Maybe, Some, None}
use Rattle.std.proofs.Math.Option.{Option, none, some}
use Rattle.regions.specs.declared.Row.{Row}
use Rattle.places.specs.Places.{Place, PlaceShort}
use Rattle.machine.specs.State.{Candidate, Package, Request, State, on_table}
use Rattle.machine.specs.Sound.{Sound}
use Rattle.machine.specs.Table.{one}
use Rattle.machine.specs.Typed.{Each}
use Rattle.store.specs.Flat.{Flat, head_of, flat_of, row_of, places_for}
use Rattle.store.specs.Image.{Shows, Writes, need_of}
use Rattle.store.specs.Shown.{limit_in, rows_in, places_in, held_places_in, Shown, with_conns, with_places, Turns}
use Rattle.listed_lines.specs.declared.line.Head as line-head
use Rattle.listed_lines.specs.declared.line.Request as line-request
use Rattle.listed_lines.specs.declared.line.Line as line-line
use Rattle.listed_lines.specs.declared.line.Line.TheVariants.{Not as NoLine, Head as IsHead, Request as IsRequest, Candidate as IsCandidate}
use Rattle.listed_lines.specs.Given.{head_state, request_in, candidate_in}
use Rattle.listed_form.specs.Given.{Body, requests_only}

-- ---- a place

-- the place p comes behind the others
abbrev pub Appends : List ℕ → List ℕ → Place → Type 0
Appends b b' p = Turns b b' (λ f. with_places (f.places ++ (p ∷ [])) f)

-- the stage of a place, which has a package or none
abbrev pub stage_for : Option Package → ℕ
stage_for none = 1
stage_for (some p) = 2 + one p.enqueued

-- the place of a request's line, if it has one, finds room: for itself, and its lists for their hashes
pub record PlaceRoom (b : List ℕ) (r : Request) : Type 0 where
  pub is_shown : Shown b
  pub room : held_places_in b + length (places_for r) ≤ places_in b
  pub short : Each PlaceShort (places_for r)

-- ---- one line: what it adds to rows and places. A candidate's row is that of the last request

abbrev pub request_after : Maybe line-request.Request → line-line.Line → Maybe line-request.Request
request_after r NoLine = r
request_after r (IsHead h) = r
request_after r (IsRequest q) = Some q
request_after r (IsCandidate c) = r

-- the row of a candidate, if there is a request
abbrev pub row_under : Maybe line-request.Request → Candidate → List Row
row_under None c = []
row_under (Some r) c = row_of (request_in [] [] r) c ∷ []

abbrev pub rows_more : Maybe line-request.Request → line-line.Line → List Row
rows_more r NoLine = []
rows_more r (IsHead h) = []
rows_more r (IsRequest q) = []
rows_more r (IsCandidate c) = row_under r (candidate_in c)

-- the wtxids of the line stand in the bytes ws, its parents in ps
abbrev pub places_more : List ℕ → List ℕ → line-line.Line → List Place
places_more ws ps NoLine = []
places_more ws ps (IsHead h) = []
places_more ws ps (IsRequest q) = places_for (request_in ws ps q)
places_more ws ps (IsCandidate c) = []

abbrev pub grown : List Row → List Place → Flat → Flat
grown rs ps f = record { head = f.head; rows = f.rows ++ rs; conns = f.conns; places = f.places ++ ps }

-- there is room for what a line adds
pub record LineRoom (b ws ps : List ℕ) (r : Maybe line-request.Request) (l : line-line.Line) : Type 0 where
  pub is_shown : Shown b
  pub rows : rows_in b + length (rows_more r l) ≤ limit_in b
  pub places : held_places_in b + length (places_more ws ps l) ≤ places_in b
  pub short : Each PlaceShort (places_more ws ps l)

pub record TakesLine (b b' ws ps : List ℕ) (r : Maybe line-request.Request) (l : line-line.Line) (q : Maybe line-request.Request) : Type 0 where
  pub after : q ≡ request_after r l
  pub turns : Turns b b' (grown (rows_more r l) (places_more ws ps l))

-- ---- all lines

-- the flat state without rows, connections and places, and the one that lacks the connections only
abbrev pub bare : State → Flat
bare st = record { head = head_of st; rows = []; conns = []; places = [] }

abbrev pub untallied : State → Flat
untallied st = with_conns [] (flat_of st)

-- the lines from index e on list the requests of a sound state, of which the bytes b hold the header
pub record Headed (text : List ℕ) (e : ℕ) (b : List ℕ) : Type 0 where
  pub state : State
  pub sound : Sound state
  pub body : Body text e (requests_only state.table)
  pub shows : Shows b (bare state)

-- ---- the whole

-- the lines from index e on, behind the first line h, list a sound state, which needs n bytes
pub record Readable (text : List ℕ) (h : line-head.Head) (e n : ℕ) : Type 0 where
  pub state : State
  pub head : state ≡ on_table state.table (head_state h)
  pub body : Body text e (requests_only state.table)
  pub sound : Sound state
  pub needs : n ≡ need_of state

-- the bytes b write the state that they list
abbrev pub Restored : List ℕ → line-head.Head → ℕ → List ℕ → Type 0
Restored text h e b = (st : State) → Sound st → st ≡ on_table st.table (head_state h) → Body text e (requests_only st.table) → Writes b st
