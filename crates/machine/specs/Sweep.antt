-- The request machine: the keys after a cursor, and sweep (known_batch).
use Rattle.std.specs.Prelude.{ℕ, Bool, true, false, List, [], ◌∷◌, ◌++◌, ltb, leb, take, if◌then◌else◌}
use Rattle.std.proofs.Math.Option.{Option, none, some}
use Rattle.ident.specs.Number.{Key, place}
use Rattle.machine.specs.Limits.{max_known_checks}

-- the keys whose places pass a test
unfoldable pub only : (ℕ → Bool) → List Key → List Key
only p [] = []
only p (k ∷ ks) = if p (place k) then k ∷ only p ks else only p ks

-- "after the .. cursor and round to it"
unfoldable pub round : Option Key → List Key → List Key
round none ks = ks
round (some c) ks = only (λ n. ltb (place c) n) ks ++ only (λ n. leb n (place c)) ks

unfoldable pub last_of : List Key → Option Key
last_of [] = none
last_of (k ∷ []) = some k
last_of (k ∷ (j ∷ ks)) = last_of (j ∷ ks)

-- "the next 1,024 keys after the known cursor, round to it"; the cursor becomes the last of them
unfoldable pub handed : Option Key → List Key → List Key
handed c ks = take max_known_checks (round c ks)
