-- A change at the first request of a table, or behind it; a request that has a candidate, or not that one.
use Prim.Native.Nat.{ℕ, ◌≤◌, ◌<◌}
use mathlib.Core.Path.{◌≡◌, refl}
use mathlib.Core.Bool.{false}
use mathlib.Core.List.{List, [], ◌∷◌}
use native.Mathlib.Omega.{arith}
use lib.Dec.{eqb}
use lib.ListN.{length}
use borrow.Author.Tests.{le-ltb, eq-eqb, ne_eqb}
use Rattle.ident.specs.Number.{Key, place}
use Rattle.machine.specs.State.{Candidate, Request, Table}
use Rattle.machine.specs.Table.{change, keep, has}
use Rattle.machine.specs.Announce.{without}
use Rattle.machine.proofs.Tests.{or_left, or_right}

pub keep_some : (r : Request) (cs : List Candidate) (t : Table) → 1 ≤ length cs → keep r cs t ≡ r ∷ t
unfolding keep
keep_some r [] t h = absurd (omega arith)
keep_some r (c ∷ cs) t h = refl

pub change_first : (k : Key) (f : Request → Request) (r : Request) (t : Table) → place k ≡ place r.key → change k f (r ∷ t) ≡ keep (f r) (f r).candidates t
unfolding change
change_first k f r t e = rw (le-ltb (place k) (place r.key) (omega arith), eq-eqb (place k) (place r.key) e)

pub change-later : (k : Key) (f : Request → Request) (r : Request) (t : Table) → place r.key < place k → change k f (r ∷ t) ≡ r ∷ change k f t
unfolding change
change-later k f r t h = rw (le-ltb (place k) (place r.key) (omega arith), ne_eqb (place k) (place r.key) (λ e. omega arith))

pub without-absent : (n : ℕ) (cs : List Candidate) → has n cs ≡ false → without n cs ≡ cs
unfolding has without
without-absent n [] h = refl
without-absent n (c ∷ cs) h = rw (or_left (eqb c.connection n) (has n cs) h, without-absent n cs (or_right (eqb c.connection n) (has n cs) h))
