-- The tests of document 01's table that calls share, each by itself: its number, or 0 if it has nothing against the call.
use Rattle.std.specs.Prelude.{ℕ, zero, suc, Bool, ◌&&◌, List, ltb, leb, if◌then◌else◌}
use Rattle.machine.specs.Limits.{max_parents}
use Rattle.machine.specs.Claim.{elem}
use Rattle.machine.specs.Call.{any_late, wrong_hashes}

-- "in turn": the first that refuses
abbrev pub first_of : ℕ → ℕ → ℕ
first_of zero b = b
first_of (suc a) b = suc a

-- "connection 0"
unfoldable pub of_connections : List ℕ → ℕ
of_connections ns = if elem 0 ns then 4 else 0

-- "clock above 2^64 − 60,001"
unfoldable pub of_clocks : List ℕ → ℕ
of_clocks ts = if any_late ts then 5 else 0

-- "more than 100 parents given"
unfoldable pub of_parents : ℕ → ℕ
of_parents n = if ltb max_parents n then 6 else 0

-- "Hashes that are too many or not strictly ascending" (document 02, request e)
unfoldable pub of_hashes : List ℕ → ℕ
of_hashes hs = if wrong_hashes hs then 13 else 0

-- "answer buffer shorter than its need"
unfoldable pub of_buffer : ℕ → ℕ → ℕ
of_buffer long needs = if ltb long needs then 7 else 0

-- "a solicitation that would reply 1, with all Q package places held"
unfoldable pub of_place : Bool → ℕ → ℕ → ℕ
of_place takes places held = if takes && leb places held then 8 else 0

-- tests 4 to 7 in turn, of what a call names: connections, clocks, so many parents, a buffer of so many bytes and its need
abbrev pub in_turn : List ℕ → List ℕ → ℕ → ℕ → ℕ → ℕ
in_turn ns ts parents long needs = first_of (first_of (of_connections ns) (of_clocks ts)) (first_of (of_parents parents) (of_buffer long needs))

-- tests 13 and 7 in turn, of a call that names hashes, a buffer of so many bytes and its need, and nothing else
abbrev pub hashes_in_turn : List ℕ → ℕ → ℕ → ℕ
hashes_in_turn hs long needs = first_of (of_hashes hs) (of_buffer long needs)
