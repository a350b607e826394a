-- A state without its packages: every request has lost flag, package and parents, and nothing else.
use Rattle.std.specs.Prelude.{ℕ, Bool, not, [], ◌∷◌, eqb}
use Rattle.places.specs.Places.{Place}
use Rattle.machine.specs.State.{Request, Table, State, Answer}
use Rattle.machine.specs.Fail.{Listed}
use Rattle.package_stages.specs.Changes.{closed}

-- "owner, flag, package and parents": the last three gone, the owner stays
abbrev pub bare_request : Request → Request
bare_request r = closed r

unfoldable pub bare : Table → Table
bare [] = []
bare (r ∷ t) = bare_request r ∷ bare t

-- it holds no place, so that one is room enough
abbrev pub bare_state : State → State
bare_state st = record { limit = st.limit; places = 1; table = bare st.table; next_poll = st.next_poll; known_cursor = st.known_cursor; ready_cursor = st.ready_cursor }

-- what a call answers, with the table that it leaves bare
abbrev pub bare_answer : Answer → Answer
bare_answer a = record { reply = a.reply; table = bare a.table }

abbrev pub bare_listed : Listed → Listed
bare_listed l = record { keys = l.keys; table = bare l.table }

-- a place of another hash
abbrev pub other_than : ℕ → Place → Bool
other_than h p = not (eqb p.hash h)
