-- A table's connections and owners, one after the other as a listing has them: the lists that the two passes go through.
use Rattle.std.specs.Prelude.{ℕ, List, [], ◌∷◌, ◌++◌, map}
use Rattle.std.proofs.Math.Option.{Option, none, some}
use Rattle.machine.specs.State.{Candidate, Owner, Table}
use Rattle.machine.specs.Listing.{Line, HeadLine, RequestLine, CandidateLine}

abbrev pub connections_of : List Candidate → List ℕ
connections_of cs = map (λ c. c.connection) cs

unfoldable pub connections_in : Table → List ℕ
connections_in [] = []
connections_in (r ∷ t) = connections_of r.candidates ++ connections_in t

abbrev pub owners_of : Option Owner → List ℕ
owners_of none = []
owners_of (some o) = o.connection ∷ []

unfoldable pub owners_in : Table → List ℕ
owners_in [] = []
owners_in (r ∷ t) = owners_of r.owner ++ owners_in t

-- the same of a listing's lines, behind the first
unfoldable pub line_connections : List Line → List ℕ
line_connections [] = []
line_connections (HeadLine s ∷ ls) = line_connections ls
line_connections (RequestLine r ∷ ls) = line_connections ls
line_connections (CandidateLine c ∷ ls) = c.connection ∷ line_connections ls

unfoldable pub line_owners : List Line → List ℕ
line_owners [] = []
line_owners (HeadLine s ∷ ls) = line_owners ls
line_owners (RequestLine r ∷ ls) = owners_of r.owner ++ line_owners ls
line_owners (CandidateLine c ∷ ls) = line_owners ls
