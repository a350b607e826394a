-- What the contracts say of keys that are listed, and of candidates made ready.
use Rattle.std.specs.Prelude.{ℕ, ◌∷◌, map}
use Rattle.ident.specs.Number.{Key}
use Rattle.machine.specs.State.{Request, with_candidates, ready_at}
use Rattle.machine.specs.Fail.{Listed}

-- keys listed behind the key k
abbrev pub led : Key → Listed → Listed
led k p = record { keys = k ∷ p.keys; table = p.table }

-- every candidate gets the ready time
abbrev pub readied : ℕ → Request → Request
readied now r = with_candidates (map (ready_at now) r.candidates) r
