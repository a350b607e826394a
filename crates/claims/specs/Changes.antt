-- What the contracts of the calls that give package claims up say.
use Rattle.std.specs.Prelude.{ℕ, List}
use Rattle.machine.specs.Limits.{Limits}
use Rattle.machine.specs.State.{Table, State, limits_of, on_table}
use Rattle.machine.specs.Sound.{Sound}
use Rattle.store.specs.Image.{Writes}

-- whatever sound state the bytes b write, b' write it with g of its table, which may ask for the limits
abbrev pub Becomes : List ℕ → List ℕ → (Limits → Table → Table) → Type 0
Becomes b b' g = (st : State) → Sound st → Writes b st → Writes b' (on_table (g (limits_of st) st.table) st)
