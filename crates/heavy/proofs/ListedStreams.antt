-- A listing's lines have the connections and the owners of the table that they list, in the same order.
use Prim.Native.Nat.{ℕ}
use mathlib.Core.Path.{◌≡◌, ap, ◌∙◌}
use mathlib.Core.List.{List, [], ◌∷◌, ◌++◌}
use mathlib.Core.Option.{some, some-injective}
use Rattle.machine.specs.State.{is_some}
use Rattle.machine.specs.Listing.{Line, HeadLine, RequestLine, CandidateLine, Rest, rest_of}
use Rattle.machine.proofs.Tests.{never}
use Rattle.machine.proofs.FrontLines.{request_first, candidate_first}
use Rattle.heavy.specs.Streams.{connections_of, connections_in, owners_of, owners_in, line_connections, line_owners}

abbrev connections_left : Rest → List ℕ
connections_left q = connections_of q.candidates ++ connections_in q.table

pub lines-connections : (ls : List Line) (q : Rest) → rest_of ls ≡ some q → line_connections ls ≡ connections_left q
unfolding rest_of line_connections connections_in
lines-connections [] q d = ap connections_left (some-injective _ q d)
lines-connections (HeadLine s ∷ ls) q d = never (ap is_some d)
lines-connections (RequestLine r ∷ ls) q d = let w = request_first r ls d in lines-connections ls w.rest w.list ∙ ap connections_left w.parts
lines-connections (CandidateLine c ∷ ls) q d =
    let w = candidate_first c ls d in
    ap (λ (ys : List ℕ). c.connection ∷ ys) (lines-connections ls w.rest w.list) ∙ ap connections_left w.parts

pub lines-owners : (ls : List Line) (q : Rest) → rest_of ls ≡ some q → line_owners ls ≡ owners_in q.table
unfolding rest_of line_owners owners_in
lines-owners [] q d = ap (λ (p : Rest). owners_in p.table) (some-injective _ q d)
lines-owners (HeadLine s ∷ ls) q d = never (ap is_some d)
lines-owners (RequestLine r ∷ ls) q d =
    let w = request_first r ls d in
    ap (λ (ys : List ℕ). owners_of r.owner ++ ys) (lines-owners ls w.rest w.list) ∙ ap (λ (p : Rest). owners_in p.table) w.parts
lines-owners (CandidateLine c ∷ ls) q d =
    let w = candidate_first c ls d in
    lines-owners ls w.rest w.list ∙ ap (λ (p : Rest). owners_in p.table) w.parts
