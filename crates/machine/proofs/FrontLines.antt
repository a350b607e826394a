-- Lines that list requests: the first of them, and what those behind it list.
use mathlib.Core.Path.{◌≡◌, refl, ap}
use mathlib.Core.Logic.{inl, inr}
use mathlib.Core.Bool.{false}
use mathlib.Core.List.{List, [], ◌∷◌}
use mathlib.Core.Option.{Option, none, some, some-injective}
use Rattle.machine.specs.State.{Candidate, Request, with_candidates, is_some}
use Rattle.machine.specs.Listing.{Line, RequestLine, CandidateLine, Rest, falls, candidate_then, request_then, rest_of}
use Rattle.machine.proofs.Tests.{test, never}

-- lines that list q: a request, and the lines ls
pub record RequestFirst (r : Request) (ls : List Line) (q : Rest) : Type 0 where
  pub rest : Rest
  pub list : rest_of ls ≡ some rest
  pub rises : falls r.key rest.table ≡ false
  pub parts : record { candidates = []; table = with_candidates rest.candidates r ∷ rest.table } ≡ q

pub request_first : (r : Request) (ls : List Line) {q : Rest} → rest_of (RequestLine r ∷ ls) ≡ some q → RequestFirst r ls q
unfolding rest_of
request_first r ls {q} e = go (rest_of ls) refl e
  where
    go : (o : Option Rest) → rest_of ls ≡ o → request_then r o ≡ some q → RequestFirst r ls q
    go none g d = never (ap is_some d)
    go (some z) g d = elim (test (falls r.key z.table)) [
      | inl t ↦ never (ap is_some (rw t at d))
      | inr t ↦ record { rest = z; list = g; rises = t; parts = some-injective _ _ (rw t at d) }
    ]

-- a candidate, and the lines ls
pub record CandidateFirst (c : Candidate) (ls : List Line) (q : Rest) : Type 0 where
  pub rest : Rest
  pub list : rest_of ls ≡ some rest
  pub parts : record { candidates = c ∷ rest.candidates; table = rest.table } ≡ q

pub candidate_first : (c : Candidate) (ls : List Line) {q : Rest} → rest_of (CandidateLine c ∷ ls) ≡ some q → CandidateFirst c ls q
unfolding rest_of
candidate_first c ls {q} e = go (rest_of ls) refl e
  where
    go : (o : Option Rest) → rest_of ls ≡ o → candidate_then c o ≡ some q → CandidateFirst c ls q
    go none g d = never (ap is_some d)
    go (some z) g d = record { rest = z; list = g; parts = some-injective _ _ d }
