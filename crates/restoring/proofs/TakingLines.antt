-- One line in the store, by its form.
use Prim.Native.Nat.{ℕ, ◌+◌, ◌≤◌, ◌<◌}
use mathlib.Core.Path.{◌≡◌, refl, sym, ap, subst, ◌∙◌}
use mathlib.Core.List.{List, [], ◌∷◌, ◌++◌, append-nil}
use native.Mathlib.Omega.{arith}
use lib.ListN.{length}
use Rattle.std.specs.Prelude.{Option as Maybe, Some, None}
use Rattle.regions.specs.declared.Row.{Row}
use Rattle.places.specs.Places.{Place, PlaceShort}
use Rattle.machine.specs.Typed.{Each}
use Rattle.store.specs.Flat.{Flat, row_of, places_for}
use Rattle.store.specs.Image.{Shows}
use Rattle.store.specs.Shown.{limit_in, rows_in, places_in, held_places_in, with_rows, with_places, Turns}
use Rattle.listed_lines.specs.declared.line.Head as line-head
use Rattle.listed_lines.specs.declared.line.Request as line-request
use Rattle.listed_lines.specs.declared.line.Candidate as line-candidate
use Rattle.listed_lines.specs.declared.line.Line as line-line
use Rattle.listed_lines.specs.declared.line.Line.TheVariants.{Not as NoLine, Head as IsHead, Request as IsRequest, Candidate as IsCandidate}
use Rattle.listed_lines.specs.Given.{request_in, candidate_in}
use Rattle.restoring.specs.Given.{PlaceRoom, request_after, rows_more, places_more, grown, LineRoom, TakesLine}

-- no record more
nothing : {b : List ℕ} → Turns b b (grown [] [])
nothing {b} f h =
    subst (λ (g : Flat). Shows b g) (λ i. record { head = f.head; rows = sym (append-nil f.rows) i; conns = f.conns; places = sym (append-nil f.places) i }) h

module _ {b ws ps : List ℕ} {r : Maybe line-request.Request} {l : line-line.Line} where
  pub place-room : {q : line-request.Request} → LineRoom b ws ps r l → l ≡ IsRequest q → PlaceRoom b (request_in ws ps q)
  place-room z e = record {
    is_shown = z.is_shown;
    room = subst (λ (m : line-line.Line). held_places_in b + length (places_more ws ps m) ≤ places_in b) e z.places;
    short = subst (λ (m : line-line.Line). Each PlaceShort (places_more ws ps m)) e z.short;
  }

  pub row_room : {q : line-request.Request} {c : line-candidate.Candidate} → LineRoom b ws ps r l → r ≡ Some q → l ≡ IsCandidate c → rows_in b < limit_in b
  row_room {q} z d e =
      let n = subst (λ (m : line-line.Line). rows_in b + length (rows_more r m) ≤ limit_in b) e z.rows in
      let k : rows_in b + 1 ≤ limit_in b = rw d at n in
      omega arith

  -- what a line of known form brings
  taking : {b' : List ℕ} {q : Maybe line-request.Request} (m : line-line.Line) → l ≡ m → q ≡ request_after r m → Turns b b' (grown (rows_more r m) (places_more ws ps m)) → TakesLine b b' ws ps r l q
  taking {b'} {q} m e g t = record {
    after = g ∙ ap (request_after r) (sym e);
    turns = subst (λ (x : line-line.Line). Turns b b' (grown (rows_more r x) (places_more ws ps x))) (sym e) t;
  }

  pub takes_not : l ≡ NoLine → TakesLine b b ws ps r l r
  takes_not e = taking NoLine e refl nothing

  pub takes-head : {h : line-head.Head} → l ≡ IsHead h → TakesLine b b ws ps r l r
  takes-head {h} e = taking (IsHead h) e refl nothing

  pub takes-request : {b' : List ℕ} {q : line-request.Request} → l ≡ IsRequest q → Turns b b' (λ f. with_places (f.places ++ places_for (request_in ws ps q)) f) → TakesLine b b' ws ps r l (Some q)
  takes-request {b'} {q} e t = taking (IsRequest q) e refl (λ f h.
      subst (λ (x : List Row). Shows b' (record { head = f.head; rows = x; conns = f.conns; places = f.places ++ places_for (request_in ws ps q) })) (sym (append-nil f.rows)) (t f h))

  pub takes-candidate : {b' : List ℕ} {q : line-request.Request} {c : line-candidate.Candidate} → r ≡ Some q → l ≡ IsCandidate c
      → Turns b b' (λ f. with_rows (f.rows ++ (row_of (request_in [] [] q) (candidate_in c) ∷ [])) f) → TakesLine b b' ws ps r l (Some q)
  takes-candidate {b'} {q} {c} d e t = taking (IsCandidate c) e (sym d) (rw d (λ f h.
      subst (λ (x : List Place). Shows b' (record { head = f.head; rows = f.rows ++ (row_of (request_in [] [] q) (candidate_in c) ∷ []); conns = f.conns; places = x }))
      (sym (append-nil f.places)) (t f h)))

  pub takes-no-row : {c : line-candidate.Candidate} → r ≡ None → l ≡ IsCandidate c → TakesLine b b ws ps r l r
  takes-no-row {c} d e = taking (IsCandidate c) e refl (rw d nothing)
