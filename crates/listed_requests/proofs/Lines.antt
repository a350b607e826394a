-- The line that comes next, as a candidate's or as a request's.
use Prim.Native.Nat.{ℕ, ◌+◌, ◌-◌, ◌<◌, ◌≤◌}
use mathlib.Core.Path.{◌≡◌, refl, sym, ap, ◌∙◌}
use mathlib.Core.Bool.{true}
use mathlib.Core.List.{List, [], ◌∷◌}
use mathlib.Core.Logic.{inl, inr}
use mathlib.Core.Option.{Option, none, some}
use native.Mathlib.Omega.{arith}
use lib.Dec.{eqb, ltb}
use lib.ListN.{length, take, drop, length-drop, drop_of_length-le}
use borrow.Author.Tests.{eqb-true, eqb-false, ltb-true, ltb-false}
use Rattle.std.specs.Prelude.{Some, None}
use Rattle.machine.specs.State.{Request, Table, is_some}
use Rattle.machine.specs.Fields.{before, fields}
use Rattle.machine.specs.Listing.{Line, HeadLine, RequestLine, CandidateLine, short, Rest, rest_of, line_of, one_more}
use Rattle.machine.proofs.FrontLines.{request_first}
use Rattle.machine.proofs.Tests.{test, never}
use Rattle.machine.proofs.Parting.{take-before, before-skip, before-length}
use Rattle.listed_lines.specs.declared.line.Line as line-line
use Rattle.listed_lines.specs.declared.line.Line.TheVariants.{Not as NoLine, Head as IsHead, Request as IsRequest, Candidate as IsCandidate}
use Rattle.listed_lines.specs.declared.line.Request as line-request
use Rattle.listed_lines.specs.declared.line.Candidate as line-candidate
use Rattle.listed_lines.specs.Given.{LineAt, request_in, candidate_in, line_in, lines_of_text, LineRead}
use Rattle.listed_lines.specs.Starts.{keyed}
use Rattle.listed_lines.proofs.Ends.{no_end, line-ends}
use Rattle.listed_lines.proofs.Starts.{keyed-no-candidate}
use Rattle.listed_form.specs.Given.{Body, requests_only}
use Rattle.listed_form.proofs.Stepping.{parted, after-candidate, after-request, no-bad-line, no-head-line, body_end}
use Rattle.listed_requests.specs.Given.{NextCandidate, NextRequest}

module _ {b ws ps : List ℕ} {at : ℕ} {l : LineAt} (p : LineRead b at ws ps l) where
  pub candidate_next : {c : line-candidate.Candidate} → l.value ≡ IsCandidate c → NextCandidate b at (Some c) l.end
  candidate_next {c} e = record {
    takes = record {
      on = p.on;
      is = λ q y. let z = after-candidate p y (candidate_in c) (ap (line_in ws ps) e) in record { candidates = z.candidates; parts = z.parts; body = z.body };
    };
    stays = λ d. never (sym d);
  }

  -- before a line of another form no candidate is left
  pub other_next : ((c : line-candidate.Candidate) → l.value ≡ IsCandidate c → ⊥) → NextCandidate b at None at
  other_next other = record { takes = tt; stays = λ d. record { stays = refl; is = λ q y. by_line l.value refl y } }
    where
      by_line : (m : line-line.Line) → l.value ≡ m → {q : Rest} → Body b at q → q.candidates ≡ []
      by_line NoLine e y = no-bad-line p y (ap (line_in ws ps) e)
      by_line (IsHead h) e y = no-head-line p y (ap (line_in ws ps) e)
      by_line (IsRequest r) e y = (after-request p y (request_in ws ps r) (ap (line_in ws ps) e)).first
      by_line (IsCandidate c) e y = absurd (other c e)

  pub request_next : {r : line-request.Request} → l.value ≡ IsRequest r → NextRequest b at ws ps (Some r) l.end
  request_next {r} e = record {
    on = omega (arith, p.on);
    moves = λ h. p.on;
    takes = record {
      on = p.on;
      is = λ t y.
          let z = after-request p y (request_in ws ps r) (ap (line_in ws ps) e) in
          record { candidates = z.candidates; table = z.table; parts = z.parts; body = z.body };
    };
    missing = λ d. never (sym d);
  }

  pub no-request : ((r : line-request.Request) → l.value ≡ IsRequest r → ⊥) → NextRequest b at ws ps None l.end
  no-request other = record { on = omega (arith, p.on); moves = λ h. p.on; takes = tt; missing = λ d h t y. by_line l.value refl y }
    where
      by_line : (m : line-line.Line) → l.value ≡ m → {t : Table} → Body b at (requests_only t) → ⊥
      by_line NoLine e y = no-bad-line p y (ap (line_in ws ps) e)
      by_line (IsHead h) e y = no-head-line p y (ap (line_in ws ps) e)
      by_line (IsRequest r) e y = other r e
      by_line (IsCandidate c) e y = let z = ap length (after-candidate p y (candidate_in c) (ap (line_in ws ps) e)).parts in omega arith

-- in front of a line that begins with the letter of a key

keyed_front : (b : List ℕ) → keyed b ≡ true → keyed (before 10 b) ≡ true
keyed_front [] e = never e
keyed_front (c ∷ b) e =
    let n : c ≡ 10 → ⊥ = λ z. never (rw z at e) in
    ap keyed (before-skip 10 c b n) ∙ e

module _ {b : List ℕ} {at : ℕ} {q : Rest} (y : Body b at q) (h : at < length b) (k : keyed (drop at b) ≡ true) where
  keyed_line_left : (l : List ℕ) → l ≡ before 10 (drop at b) → (o : Option (List Line)) → one_more (line_of short (fields l)) o ≡ some y.lines → q.candidates ≡ []
  unfolding rest_of
  keyed_line_left l g o e =
      let d = parted (line_of short (fields l)) o e in
      by d.first d.others d.is (ap rest_of (sym d.parts) ∙ y.list)
    where
      by : (x : Line) (ls : List Line) → line_of short (fields l) ≡ some x → rest_of (x ∷ ls) ≡ some q → q.candidates ≡ []
      by (HeadLine s) ls i r = never (ap is_some r)
      by (RequestLine z) ls i r = sym (ap (λ (x : Rest). x.candidates) (request_first z ls r).parts)
      by (CandidateLine c) ls i r = absurd (keyed-no-candidate l (ap keyed g ∙ keyed_front (drop at b) k) c i)

  keyed_left : q.candidates ≡ []
  keyed_left =
      let end : ℕ = at + length (before 10 (drop at b)) in
      elim (test (eqb end (length b))) [
        | inl t ↦ never (ap is_some (sym (no_end b at h refl (eqb-true end (length b) t) none) ∙ y.are))
        | inr t ↦
            let n = eqb-false end (length b) t in
            let m : end < length b = omega (arith, before-length 10 (drop at b), length-drop at b) in
            let z : end - at ≡ length (before 10 (drop at b)) = omega arith in
            keyed_line_left (take (end - at) (drop at b)) (ap (λ (i : ℕ). take i (drop at b)) z ∙ take-before 10 (drop at b)) (lines_of_text (drop (end + 1) b))
            (sym (line-ends b at h refl m) ∙ y.are)
      ]

pub keyed_next : {b : List ℕ} {at : ℕ} → keyed (drop at b) ≡ true → NextCandidate b at None at
keyed_next {b} {at} k = record { takes = tt; stays = λ d. record { stays = refl; is = λ q y. by q y } }
  where
    by : (q : Rest) → Body b at q → q.candidates ≡ []
    by q y = elim (test (ltb at (length b))) [
      | inl t ↦ keyed_left y (ltb-true at (length b) t) k
      | inr t ↦ never (ap keyed (sym (drop_of_length-le b (ltb-false at (length b) t))) ∙ k)
    ]

-- behind the last line

pub none_next : {b : List ℕ} {at : ℕ} → length b ≤ at → NextCandidate b at None at
none_next h = record { takes = tt; stays = λ d. record { stays = refl; is = λ q y. ap (λ (x : Rest). x.candidates) (body_end y h) } }

pub none_listed : {b ws ps : List ℕ} {at end : ℕ} → length b ≤ at → end ≡ at → NextRequest b at ws ps None end
none_listed h e = record { on = omega (arith, e); moves = λ g. omega (arith, g); takes = tt; missing = λ d g t y. omega arith }
