-- announce and request_parent of an item: by its key, or refused where it has none.
use Prim.Native.Nat.{ℕ}
use mathlib.Core.Path.{refl}
use mathlib.Core.Bool.{Bool, false}
use mathlib.Core.Option.{Option, none, some}
use mathlib.Core.List.{List}
use Rattle.ident.specs.Number.{Key}
use Rattle.machine.specs.Limits.{Limits}
use Rattle.machine.specs.State.{Candidate, Table, Answer}
use Rattle.machine.specs.Announce.{announce_at, announce_keyed, request_parent_at, request_parent_keyed}
use Rattle.announcing.specs.Answers.{Answered}

-- without a key the call is refused, with one it is the call at that key
pub record ByKey (At : Limits → Key → Candidate → Table → Answer) (By : Limits → Option Key → Candidate → Table → Answer) : Type 0 where
  pub keyless : (b : List ℕ) (c : Candidate) → Answered b b false (λ m t. By m none c t)
  pub keyed : (b b' : List ℕ) (r : Bool) (k : Key) (c : Candidate) → Answered b b' r (λ m t. At m k c t) → Answered b b' r (λ m t. By m (some k) c t)

pub announces : ByKey announce_at announce_keyed
unfolding announce_keyed
announces = record { keyless = λ b c. record { reply = λ st s w. refl; table = λ st s w. w }; keyed = λ b b' r k c a. a }

pub requests : ByKey request_parent_at request_parent_keyed
unfolding request_parent_keyed
requests = record { keyless = λ b c. record { reply = λ st s w. refl; table = λ st s w. w }; keyed = λ b b' r k c a. a }
