-- How many rows wait.
use Rattle.std.specs.Prelude.{ℕ, ◌+◌}
use Rattle.gathering.specs.declared.beside.Fare.{Fare}
use Rattle.gathering.specs.declared.beside.Fare.TheVariants.{Nothing, Waits, Alone}

-- those that wait once an announcement fared so beside m of them
abbrev pub then_wait : ℕ → Fare → ℕ
then_wait m Nothing = m
then_wait m Waits = m + 1
then_wait m Alone = m
