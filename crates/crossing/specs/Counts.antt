-- What the numbers of the exported `counts` say.
use Rattle.std.specs.Prelude.{ℕ, zero, suc, List, Result}
use Rattle.public_requests.specs.declared.Counts.{Counts}
use Rattle.public_requests.specs.Counting.{Counted, NotCounted, Are, CountsOf}
use Rattle.crossing.specs.Status.{Stays}
use Rattle.crossing.specs.Handed.{handed}

-- the numbers that an answer hands out; refused, what stood there stays
abbrev pub announced_out : {E : Type 0} → Result Counts E → ℕ → ℕ
announced_out a was = handed (λ (c : Counts). c.announced) a was

abbrev pub owned_out : {E : Type 0} → Result Counts E → ℕ → ℕ
owned_out a was = handed (λ (c : Counts). c.owned) a was

-- the answer of a status, and of what was handed out
abbrev pub counts_said : ℕ → ℕ → ℕ → Counted
counts_said zero announced owned = Are announced owned
counts_said (suc k) announced owned = NotCounted (suc k)

-- What `counts` says of the bytes b and the connection n, said by the status and by the two numbers handed out, which stood at `was_a` and `was_o`. Refused, it hands nothing out.
abbrev pub HandsCounts : List ℕ → ℕ → ℕ → ℕ → ℕ → ℕ → ℕ → Type 0
HandsCounts b n status was_a announced was_o owned = CountsOf b n (counts_said status announced owned) × Stays status was_a announced × Stays status was_o owned
