-- The request machine: when to look again (document 02, request c).
use Rattle.std.specs.Prelude.{ℕ, zero, suc, min, Bool, false, ◌||◌, List, [], ◌∷◌, ◌++◌, map, ltb, leb, if◌then◌else◌}
use Rattle.std.proofs.Math.Option.{Option, none, some}
use Rattle.ident.specs.Number.{Key, txid, wtxid}
use Rattle.machine.specs.State.{Candidate, Owner, Request, Table}
use Rattle.machine.specs.Table.{at}

-- ---- the least time later than now

-- the lesser of two times, where there are any
abbrev pub earlier : Option ℕ → Option ℕ → Option ℕ
earlier none y = y
earlier (some a) none = some a
earlier (some a) (some b) = some (min a b)

-- a time, if it is "later than now"
abbrev pub later : ℕ → ℕ → Option ℕ
later now x = if ltb now x then some x else none

unfoldable pub least_later : ℕ → List ℕ → Option ℕ
least_later now [] = none
least_later now (x ∷ l) = earlier (later now x) (least_later now l)

-- ---- what the part that picks a candidate tells

abbrev pub ready_times : List Candidate → List ℕ
ready_times cs = map (λ (c : Candidate). c.ready) cs

unfoldable pub any_ready : ℕ → List Candidate → Bool
any_ready now [] = false
any_ready now (c ∷ cs) = leb c.ready now || any_ready now cs

-- "Where no candidate of a key is ready, .. the earliest later ready time among its candidates." A candidate that is ready while its connection has
-- its 100 is ready: no time would help.
abbrev pub wait_in : ℕ → List Candidate → Option ℕ
wait_in now cs = if any_ready now cs then none else least_later now (ready_times cs)

-- of the two keys of a hash, the earlier
unfoldable pub wait_for : ℕ → Table → Key → Option ℕ
wait_for now t k = earlier (wait_in now (at (txid k.hash) t).candidates) (wait_in now (at (wtxid k.hash) t).candidates)

-- ---- what the plan's reply ends in

-- "ready times of unowned keys and deadlines of owned ones"
abbrev pub times_in : Option Owner → List Candidate → List ℕ
times_in none cs = ready_times cs
times_in (some o) cs = o.deadline ∷ []

unfoldable pub times : Table → List ℕ
times [] = []
times (r ∷ t) = times_in r.owner r.candidates ++ times t

-- "the least time later than now among" them
abbrev pub next_look : ℕ → Table → Option ℕ
next_look now t = least_later now (times t)

-- in a number that code hands on 0 stands for none: a time later than now is 1 or more
abbrev pub time_of : ℕ → Option ℕ
time_of zero = none
time_of (suc n) = some (suc n)
