-- What the contracts of the wrappers say.
use Rattle.std.specs.Prelude.{ℕ, ◌+◌, ◌*◌, ◌≤◌, List, length}
use Rattle.ident.specs.Number.{Key}
use Rattle.machine.specs.Limits.{Limits, max_parents}
use Rattle.machine.specs.State.{Table}
use Rattle.machine.specs.Table.{at, places_held}
use Rattle.machine.specs.Fail.{Listed, parents_for}
use Rattle.machine.specs.Package.{listed_after, failed_package_info}
use Rattle.machine.specs.Call.{key_bytes}
use Rattle.requests.specs.Changes.{Tells}

-- the buffer u has room for a key, and for the parents of every place that is held
abbrev pub Roomy : List ℕ → List ℕ → Type 0
Roomy b u = Tells b (λ t. key_bytes * (1 + max_parents * places_held t) ≤ length u)

-- package information that is not found: what fails is listed with its parents (Wrapper.not_found_one)
abbrev pub info_listed : Limits → Key → ℕ → ℕ → Table → Listed
info_listed m k n now t = listed_after m k n now (parents_for n (at k t)) (failed_package_info k n now t)
