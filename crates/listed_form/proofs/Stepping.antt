-- One line of a text that lists requests: what every pass over the lines of a listing goes by.
use Prim.Native.Nat.{ℕ, ◌≤◌}
use mathlib.Core.Path.{◌≡◌, refl, sym, ap, ◌∙◌}
use mathlib.Core.Bool.{false}
use mathlib.Core.List.{List, [], ◌∷◌}
use mathlib.Core.Option.{Option, none, some, some-injective}
use lib.ListN.{length, drop, drop_of_length-le}
use Rattle.machine.specs.State.{Candidate, Request, Table, State, with_candidates, is_some}
use Rattle.machine.specs.Listing.{Line, HeadLine, RequestLine, CandidateLine, Rest, falls, rest_of, one_more, text_lines, lines_in}
use Rattle.machine.proofs.Tests.{never}
use Rattle.machine.proofs.FrontLines.{request_first, candidate_first}
use Rattle.listed_lines.specs.Given.{LineAt, line_in, lines_of_text, LineRead}
use Rattle.listed_form.specs.Given.{Body, requests_only}

-- ---- the first of several lines

pub record Parted (x : Option Line) (o : Option (List Line)) (ls : List Line) : Type 0 where
  pub first : Line
  pub others : List Line
  pub is : x ≡ some first
  pub are : o ≡ some others
  pub parts : ls ≡ first ∷ others

pub parted : (x : Option Line) (o : Option (List Line)) {ls : List Line} → one_more x o ≡ some ls → Parted x o ls
parted none o e = never (ap is_some e)
parted (some m) none e = never (ap is_some e)
parted (some m) (some ms) e = record { first = m; others = ms; is = refl; are = refl; parts = cc }

-- ---- what it leaves

pub record AfterCandidate (b : List ℕ) (end : ℕ) (c : Candidate) (q : Rest) : Type 0 where
  pub candidates : List Candidate
  pub parts : q.candidates ≡ c ∷ candidates
  pub body : Body b end (record { candidates = candidates; table = q.table })

pub record AfterRequest (b : List ℕ) (end : ℕ) (r : Request) (q : Rest) : Type 0 where
  pub candidates : List Candidate
  pub table : Table
  pub first : q.candidates ≡ []
  pub parts : q.table ≡ with_candidates candidates r ∷ table
  pub rises : falls r.key table ≡ false
  pub body : Body b end (record { candidates = candidates; table = table })

-- behind a first line nothing stands
abbrev pub Leaves : List ℕ → ℕ → Line → Rest → Type 0
Leaves b end (HeadLine s) q = ⊥
Leaves b end (RequestLine r) q = AfterRequest b end r q
Leaves b end (CandidateLine c) q = AfterCandidate b end c q

-- the lines ls stand from an index on, behind the line l
pub leaves : (b : List ℕ) (end : ℕ) {ls : List Line} → end ≤ length b → lines_of_text (drop end b) ≡ some ls → (l : Line) {q : Rest} → rest_of (l ∷ ls) ≡ some q → Leaves b end l q
unfolding rest_of
leaves b end i a (HeadLine s) e = never (ap is_some e)
leaves b end {ls} i a (RequestLine r) e =
    let w = request_first r ls e in
    rw (← w.parts)
    (record {
      candidates = w.rest.candidates;
      table = w.rest.table;
      first = refl;
      parts = refl;
      rises = w.rises;
      body = record { inside = i; lines = ls; are = a; list = w.list };
    })
leaves b end {ls} i a (CandidateLine c) e =
    let w = candidate_first c ls e in
    rw (← w.parts) (record { candidates = w.rest.candidates; parts = refl; body = record { inside = i; lines = ls; are = a; list = w.list } })

module _ {b ws ps : List ℕ} {at : ℕ} {l : LineAt} (p : LineRead b at ws ps l) {q : Rest} (y : Body b at q) where
  line_there : Parted (line_in ws ps l.value) (lines_of_text (drop l.end b)) y.lines
  line_there = parted (line_in ws ps l.value) (lines_of_text (drop l.end b)) (sym p.is ∙ y.are)

  -- a line that is of no form, or a first line, is not among them
  pub no-bad-line : {X : Type 0} → line_in ws ps l.value ≡ none → X
  no-bad-line e = let d = line_there in never (ap is_some (sym e ∙ d.is))

  behind_line : (m : Line) → line_in ws ps l.value ≡ some m → Leaves b l.end m q
  behind_line m e =
      let d = line_there in
      let g : m ≡ d.first = some-injective m d.first (sym e ∙ d.is) in
      leaves b l.end p.inside d.are m (ap rest_of (ap (λ (x : Line). x ∷ d.others) g ∙ sym d.parts) ∙ y.list)

  pub no-head-line : {X : Type 0} {s : State} → line_in ws ps l.value ≡ some (HeadLine s) → X
  no-head-line {s = s} e = absurd (behind_line (HeadLine s) e)

  pub after-candidate : (c : Candidate) → line_in ws ps l.value ≡ some (CandidateLine c) → AfterCandidate b l.end c q
  after-candidate c e = behind_line (CandidateLine c) e

  pub after-request : (r : Request) → line_in ws ps l.value ≡ some (RequestLine r) → AfterRequest b l.end r q
  after-request r e = behind_line (RequestLine r) e

-- ---- behind the last line

pub body_end : {b : List ℕ} {at : ℕ} {q : Rest} → Body b at q → length b ≤ at → q ≡ requests_only []
unfolding rest_of lines_of_text text_lines lines_in
body_end {b} {at} {q} y h =
    let e : some [] ≡ some y.lines = sym (ap lines_of_text (drop_of_length-le b h)) ∙ y.are in
    let g : y.lines ≡ [] = cc in
    let d : some (requests_only []) ≡ some q = sym (ap rest_of g) ∙ y.list in
    cc
