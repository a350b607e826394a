-- How often a connection is met in a table's lists is what the machine counts.
use Prim.Native.Nat.{ℕ, ◌+◌, ◌≤◌}
use mathlib.Core.Path.{◌≡◌, refl, sym, ap, ◌∙◌}
use mathlib.Core.List.{List, [], ◌∷◌, ◌++◌}
use mathlib.Core.Option.{Option, none, some}
use native.Mathlib.Omega.{arith}
use lib.Dec.{eqb}
use Rattle.ident.specs.Number.{Key}
use Rattle.machine.specs.State.{Candidate, Owner, Table}
use Rattle.machine.specs.Table.{one, count_in, total, by, owner_in, held_by, owned_by}
use Rattle.heavy.specs.Counters.{times, Few}
use Rattle.heavy.specs.Streams.{connections_of, connections_in, owners_of, owners_in}
use Rattle.heavy.proofs.Frequent.{times_more}

times_none : (n : ℕ) → times n [] ≡ 0
unfolding times
times_none n = refl

times-append : (n : ℕ) (xs ys : List ℕ) → times n (xs ++ ys) ≡ times n xs + times n ys
times-append n [] ys = omega (arith, times_none n)
times-append n (x ∷ xs) ys = omega (arith, times_more x n (xs ++ ys), times_more x n xs, times-append n xs ys)

count-times : (n : ℕ) (k : Key) (cs : List Candidate) → count_in (by n k) cs ≡ times n (connections_of cs)
unfolding count_in
count-times n k [] = sym (times_none n)
count-times n k (c ∷ cs) = ap (λ (m : ℕ). one (eqb c.connection n) + m) (count-times n k cs) ∙ sym (times_more c.connection n (connections_of cs))

pub held_times : (n : ℕ) (t : Table) → held_by n t ≡ times n (connections_in t)
unfolding total connections_in
held_times n [] = sym (times_none n)
held_times n (r ∷ t) = omega (arith, count-times n r.key r.candidates, held_times n t, times-append n (connections_of r.candidates) (connections_in t))

owner-times : (n : ℕ) (k : Key) (o : Option Owner) → owner_in (by n k) o ≡ times n (owners_of o)
owner-times n k none = sym (times_none n)
owner-times n k (some o) = omega (arith, times_more o.connection n [], times_none n)

pub owned-times : (n : ℕ) (t : Table) → owned_by n t ≡ times n (owners_in t)
unfolding total owners_in
owned-times n [] = sym (times_none n)
owned-times n (r ∷ t) = omega (arith, owner-times n r.key r.owner, owned-times n t, times-append n (owners_of r.owner) (owners_in t))

-- ---- what the verdict of the two passes says of the table

pub held_few : (most : ℕ) (t : Table) → Few most (connections_in t) → (n : ℕ) → held_by n t ≤ most
held_few most t f n = rw (held_times n t) (f.few n)

pub few_held : (most : ℕ) (t : Table) → ((n : ℕ) → held_by n t ≤ most) → Few most (connections_in t)
few_held most t h = record { few = λ n. rw (held_times n t) at (h n) }

pub owned_few : (most : ℕ) (t : Table) → Few most (owners_in t) → (n : ℕ) → owned_by n t ≤ most
owned_few most t f n = rw (owned-times n t) (f.few n)

pub few_owned : (most : ℕ) (t : Table) → ((n : ℕ) → owned_by n t ≤ most) → Few most (owners_in t)
few_owned most t h = record { few = λ n. rw (owned-times n t) at (h n) }
