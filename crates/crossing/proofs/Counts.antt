-- From the answer of `counts` to the status and the numbers that its export hands out.
use Prim.Native.Nat.{ℕ, zero, suc}
use mathlib.Core.Path.{◌≡◌, refl}
use mathlib.Core.List.{List}
use Rattle.std.specs.Prelude.{Result, Ok, Err}
use Rattle.outcome.specs.declared.refusal.Refusal.{Refusal}
use Rattle.outcome.specs.Refusals.{number_of}
use Rattle.outcome.proofs.Turns.{never_none}
use Rattle.public_requests.specs.declared.Counts.{Counts}
use Rattle.public_requests.specs.Counting.{NotCounted, counts_of, CountsOf}
use Rattle.crossing.specs.Counts.{announced_out, owned_out, counts_said, HandsCounts}
use Rattle.crossing.specs.Status.{StatusIs}
use Rattle.crossing.proofs.Statuses.{stays}

-- a refusal's number is not 0
some_said : (k a o : ℕ) → (k ≡ 0 → ⊥) → counts_said k a o ≡ NotCounted k
some_said zero a o h = absurd (h refl)
some_said (suc k) a o h = refl

refused-said : (e : Refusal) (a o : ℕ) → counts_said (number_of e) a o ≡ NotCounted (number_of e)
refused-said e a o = some_said (number_of e) a o (never_none e)

pub hands-counts : (n : ℕ) (c : Result Counts Refusal) (was was' : ℕ) {b : List ℕ} {r a o : ℕ} → CountsOf b n (counts_of c)
    → StatusIs c r × (a ≡ announced_out c was) × (o ≡ owned_out c was') → HandsCounts b n r was a was' o
hands-counts n (Err x) was was' d e = rw (e.0.told, e.1, e.2) (rw (refused-said x was was') d, stays (number_of x) was, stays (number_of x) was')
hands-counts n (Ok c) was was' d e = rw (e.0.told, e.1, e.2) (d, tt, tt)
