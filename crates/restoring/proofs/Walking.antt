-- The walk over the lines behind the first: what is in the store, and what the lines that are left bring.
use Prim.Native.Nat.{ℕ, ◌+◌, ◌≤◌}
use mathlib.Core.Path.{◌≡◌, refl, sym, ap, subst, ◌∙◌}
use mathlib.Core.Bool.{Bool, true, false}
use mathlib.Core.List.{List, [], ◌∷◌, ◌++◌, map, append_assoc, append-nil}
use mathlib.Core.Option.{Option, none, some}
use Rattle.std.specs.Prelude.{Option as Maybe, Some}
use native.Mathlib.Omega.{arith}
use lib.ListN.{length, length-append}
use Rattle.regions.specs.declared.Row.{Row}
use Rattle.regions.specs.Regions.{each}
use Rattle.places.specs.Places.{Place, PlaceShort}
use Rattle.machine.specs.State.{Candidate, Package, Request, Table, State, with_candidates}
use Rattle.machine.specs.Sound.{Lawful, Packed, All, Sound}
use Rattle.machine.specs.Typed.{Each}
use Rattle.machine.specs.Listing.{Rest}
use Rattle.store.specs.Flat.{Flat, head_of, row_of, rows_for, rows_of, place_for, places_for, places_of}
use Rattle.store.specs.Image.{Shows}
use Rattle.store.proofs.Frame.{sizes, shown}
use Rattle.store.proofs.Counts.{held-rows, places-rows}
use Rattle.store.proofs.RowsAt.{places_with}
use Rattle.listed_lines.specs.declared.line.Request as line-request
use Rattle.listed_lines.specs.declared.line.Line as line-line
use Rattle.listed_lines.specs.declared.line.Line.TheVariants.{Not as NoLine, Head as IsHead, Request as IsRequest, Candidate as IsCandidate}
use Rattle.listed_lines.specs.Given.{LineAt, request_in, candidate_in, line_in, LineRead}
use Rattle.listed_form.specs.Given.{Body, requests_only}
use Rattle.listed_form.proofs.Stepping.{no-bad-line, no-head-line, after-candidate, after-request, body_end}
use Rattle.restoring.specs.Given.{request_after, row_under, rows_more, places_more, LineRoom, TakesLine, bare, untallied, Headed}

-- the rows that lines still bring: candidates of the last request r, then the requests behind them
abbrev rows_under : Maybe line-request.Request → List Candidate → List Row
rows_under r [] = []
rows_under r (c ∷ cs) = row_under r c ++ rows_under r cs

abbrev rows_left : Maybe line-request.Request → Rest → List Row
rows_left r q = rows_under r q.candidates ++ rows_of q.table

-- with the lines before index at, the bytes b have what the lines from there on do not bring
pub record Underway (text b : List ℕ) (at : ℕ) (r : Maybe line-request.Request) (st : State) : Type 0 where
  pub rest : Rest
  pub body : Body text at rest
  pub lawful : All Lawful rest.table
  pub rows : List Row
  pub places : List Place
  pub shows : Shows b (record { head = head_of st; rows = rows; conns = []; places = places })
  pub all_rows : rows ++ rows_left r rest ≡ rows_of st.table
  pub all_places : places ++ places_of rest.table ≡ places_of st.table

pub begun : {text b : List ℕ} {from : ℕ} (r : Maybe line-request.Request) (st : State) → Sound st → Body text from (requests_only st.table) → Shows b (bare st) → Underway text b from r st
begun r st s y h = record { rest = requests_only st.table; body = y; lawful = s.bounded.lawful; rows = []; places = []; shows = h; all_rows = refl; all_places = refl }

pub ended : {text b : List ℕ} {at : ℕ} {r : Maybe line-request.Request} {st : State} → Underway text b at r st → length text ≤ at → Shows b (untallied st)
unfolding each
ended {b = b} {r = r} {st = st} u l =
    let e = body_end u.body l in
    let er : u.rows ≡ rows_of st.table = sym (append-nil u.rows) ∙ ap (λ (q : Rest). u.rows ++ rows_left r q) (sym e) ∙ u.all_rows in
    let ep : u.places ≡ places_of st.table = sym (append-nil u.places) ∙ ap (λ (q : Rest). u.places ++ places_of q.table) (sym e) ∙ u.all_places in
    subst (λ (f : Flat). Shows b f) (λ i. record { head = head_of st; rows = er i; conns = []; places = ep i }) u.shows

-- ---- one line

-- what a line brings, and what then is left
pub record Step (text ws ps : List ℕ) (end : ℕ) (r : Maybe line-request.Request) (l : line-line.Line) (q : Rest) : Type 0 where
  pub rest : Rest
  pub body : Body text end rest
  pub lawful : All Lawful rest.table
  pub rows : rows_left r q ≡ rows_more r l ++ rows_left (request_after r l) rest
  pub places : places_of q.table ≡ places_more ws ps l ++ places_of rest.table
  pub short : Each PlaceShort (places_more ws ps l)

-- the rows of a request have its key, owner and mark
same_rows : (ws ps : List ℕ) (q : line-request.Request) (cs : List Candidate) → rows_for (with_candidates cs (request_in ws ps q)) ≡ rows_under (Some q) cs
unfolding rows_for
same_rows ws ps q cs = alike cs
  where
    one : (c : Candidate) → row_of (with_candidates cs (request_in ws ps q)) c ≡ row_of (request_in [] [] q) c
    one c = unfold row_of in refl

    alike : (ds : List Candidate) → map (row_of (with_candidates cs (request_in ws ps q))) ds ≡ rows_under (Some q) ds
    alike [] = refl
    alike (d ∷ ds) = (λ i. one d i ∷ alike ds i)

-- the lists of a lawful request are short
lawful-short : (r : Request) → Lawful r → Each PlaceShort (places_for r)
unfolding places_for
lawful-short r l = go r.info r.«package» l.packed
  where
    go : (i : Bool) (p : Option Package) → Packed r.key.kind r.owner i p r.parents → Each PlaceShort (place_for r i p)
    go true none h = (record { wtxids = omega arith; parents = l.parents.few }, tt)
    go true (some p) h = absurd h
    go false none h = tt
    go false (some p) h = (record { wtxids = h.2.few_wtxids; parents = l.parents.few }, tt)

first_rows : (r : Request) (t : Table) → rows_of (r ∷ t) ≡ rows_for r ++ rows_of t
unfolding each
first_rows r t = refl

first_places : (r : Request) (t : Table) → places_of (r ∷ t) ≡ places_for r ++ places_of t
unfolding each
first_places r t = refl

module _ {text ws ps : List ℕ} {at : ℕ} {l : LineAt} (p : LineRead text at ws ps l) {q : Rest} (y : Body text at q) (lawful : All Lawful q.table) (r : Maybe line-request.Request) where
  by_line : (m : line-line.Line) → l.value ≡ m → Step text ws ps l.end r m q
  by_line NoLine e = no-bad-line p y (ap (line_in ws ps) e)
  by_line (IsHead h) e = no-head-line p y (ap (line_in ws ps) e)
  by_line (IsRequest x) e =
      let d = after-request p y (request_in ws ps x) (ap (line_in ws ps) e) in
      let cs = d.candidates in
      let w = with_candidates cs (request_in ws ps x) in
      let a = subst (All Lawful) d.parts lawful in
      record {
        rest = record { candidates = cs; table = d.table };
        body = d.body;
        lawful = a.1;
        rows = ap (λ (z : List Candidate). rows_under r z ++ rows_of q.table) d.first ∙ ap rows_of d.parts ∙ first_rows w d.table
            ∙ ap (λ (z : List Row). z ++ rows_of d.table) (same_rows ws ps x cs);
        places = ap places_of d.parts ∙ first_places w d.table ∙ ap (λ (z : List Place). z ++ places_of d.table) (places_with (request_in ws ps x) cs);
        short = subst (Each PlaceShort) (places_with (request_in ws ps x) cs) (lawful-short w a.0);
      }
  by_line (IsCandidate c) e =
      let d = after-candidate p y (candidate_in c) (ap (line_in ws ps) e) in
      record {
        rest = record { candidates = d.candidates; table = q.table };
        body = d.body;
        lawful = lawful;
        rows = ap (λ (z : List Candidate). rows_under r z ++ rows_of q.table) d.parts ∙ append_assoc (row_under r (candidate_in c)) (rows_under r d.candidates) (rows_of q.table);
        places = refl;
        short = tt;
      }

  step : Step text ws ps l.end r l.value q
  step = by_line l.value refl

-- ---- room for it, and the store with it

module _ {text b ws ps : List ℕ} {at : ℕ} {r : Maybe line-request.Request} {st : State} (s : Sound st) (u : Underway text b at r st) {l : LineAt} (p : LineRead text at ws ps l) where
  abbrev d : Step text ws ps l.end r l.value u.rest
  d = step p u.body u.lawful r

  few_rows : length u.rows + length (rows_more r l.value) ≤ st.limit
  few_rows =
      let m = rows_more r l.value in
      let n = rows_left (request_after r l.value) d.rest in
      omega (
        arith,
        ap length u.all_rows,
        length-append u.rows (rows_left r u.rest),
        ap length d.rows,
        length-append m n,
        held-rows st.table,
        s.bounded.fits,
      )

  few_places : length u.places + length (places_more ws ps l.value) ≤ st.places
  few_places =
      let m = places_more ws ps l.value in
      let n = places_of d.rest.table in
      omega (
        arith,
        ap length u.all_places,
        length-append u.places (places_of u.rest.table),
        ap length d.places,
        length-append m n,
        places-rows st.table,
        s.bounded.room,
      )

  pub line-room : LineRoom b ws ps r l.value
  line-room =
      let z = sizes u.shows in
      record {
        is_shown = shown u.shows (record {
          limit = s.most-limit;
          places = s.most-places;
          rows_few = omega (arith, few_rows);
          conns_few = omega arith;
          places_few = omega (arith, few_places);
        }) tt;
        rows = omega (arith, few_rows, z.rows, z.limit);
        places = omega (arith, few_places, z.held-places, z.places);
        short = d.short;
      }

  pub line_taken : {b' : List ℕ} {r' : Maybe line-request.Request} → TakesLine b b' ws ps r l.value r' → Underway text b' l.end r' st
  line_taken {b'} {r'} t =
      let m = rows_more r l.value in
      let n = places_more ws ps l.value in
      record {
        rest = d.rest;
        body = d.body;
        lawful = d.lawful;
        rows = u.rows ++ m;
        places = u.places ++ n;
        shows = t.turns _ u.shows;
        all_rows = ap (λ (x : Maybe line-request.Request). (u.rows ++ m) ++ rows_left x d.rest) t.after ∙ append_assoc u.rows m (rows_left (request_after r l.value) d.rest)
            ∙ ap (λ (x : List Row). u.rows ++ x) (sym d.rows) ∙ u.all_rows;
        all_places = append_assoc u.places n (places_of d.rest.table) ∙ ap (λ (x : List Place). u.places ++ x) (sym d.places) ∙ u.all_places;
      }

-- ---- the loop's invariant

pub record Walked (text b₀ b : List ℕ) (from at : ℕ) (r : Maybe line-request.Request) : Type 0 where
  pub inside : at ≤ length text
  pub long : length b ≡ length b₀
  pub under : (st : State) → Sound st → Body text from (requests_only st.table) → Shows b₀ (bare st) → Underway text b at r st

pub walked_none : {text b : List ℕ} {from : ℕ} (r : Maybe line-request.Request) → from ≤ length text → Walked text b b from from r
walked_none r l = record { inside = l; long = refl; under = λ st s y h. begun r st s y h }

module _ {text b₀ b : List ℕ} {from at : ℕ} {r : Maybe line-request.Request} (w : Walked text b₀ b from at r) where
  pub walked-room : Headed text from b₀ → {ws ps : List ℕ} {l : LineAt} → LineRead text at ws ps l → LineRoom b ws ps r l.value
  walked-room h p = line-room h.sound (w.under h.state h.sound h.body h.shows) p

  pub walked_on : {b' ws ps : List ℕ} {l : LineAt} {r' : Maybe line-request.Request} → LineRead text at ws ps l → TakesLine b b' ws ps r l.value r' → length b' ≡ length b
      → Walked text b₀ b' from l.end r'
  walked_on p t n = record { inside = p.inside; long = n ∙ w.long; under = λ st s y h. line_taken s (w.under st s y h) p t }

  pub walked_all : length text ≤ at → (st : State) → Sound st → Body text from (requests_only st.table) → Shows b₀ (bare st) → Shows b (untallied st)
  walked_all l st s y h = ended (w.under st s y h) l
