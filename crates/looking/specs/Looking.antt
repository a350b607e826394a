-- What the contracts of the next look say: what the rows from here on have come to.
use Rattle.std.specs.Prelude.{ℕ, ◌≡◌, List, [], ◌∷◌}
use Rattle.std.proofs.Math.Option.{Option, none, some}
use Rattle.machine.specs.State.{Candidate, Owner, Table}
use Rattle.machine.specs.Later.{least_later, ready_times, next_look}
use Rattle.choosing.specs.Choosing.{option_of}
use Rattle.looking.specs.declared.Look.{Look}

abbrev pub deadline_of : Option Owner → Option ℕ
deadline_of none = none
deadline_of (some o) = some o.deadline

-- the key at hand has the owner o and the candidates cs so far; the requests behind it are t
pub record Looks (now : ℕ) (o : Option Owner) (cs : List Candidate) (t : Table) (v : Look) : Type 0 where
  pub owner : deadline_of o ≡ option_of v.due
  pub free : option_of v.free ≡ least_later now (ready_times cs)
  pub rest : option_of v.rest ≡ next_look now t

-- the key at hand is the first of these requests
abbrev pub LooksAt : ℕ → Table → Look → Type 0
LooksAt now [] v = Looks now none [] [] v
LooksAt now (r ∷ t) v = Looks now r.owner r.candidates t v
