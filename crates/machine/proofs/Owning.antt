-- The state of the edge `delayed`, in which connection 7 owns n requests, is sound up to the most that a connection owns.
use Prim.Native.Nat.{ℕ, zero, suc, ◌+◌, ◌≤◌, ◌<◌}
use mathlib.Core.Path.{◌≡◌, refl}
use mathlib.Core.Logic.{inl, inr}
use mathlib.Core.Bool.{Bool, true, false, ◌&&◌}
use native.Mathlib.Omega.{arith}
use lib.Dec.{lit<, eqb}
use borrow.Author.Tests.{eqb-true, ne_eqb}
use Rattle.ident.specs.Number.{top, Key, place, txid}
use Rattle.machine.specs.Limits.{max_in_flight}
use Rattle.machine.specs.State.{limits_of}
use Rattle.machine.specs.Table.{one, count_in, total, has, count, owners, places_held, any, by, under, by_under}
use Rattle.machine.specs.Sound.{Ordered, All, Filled, Lawful, Bounded, Sound}
use Rattle.machine.specs.Edges.{owned, owning}
use Rattle.machine.proofs.Tests.{test, and_left}

-- ---- counts: each request has one candidate, its owner

pub one_most : (b : Bool) → one b ≤ 1
one_most true = omega arith
one_most false = omega arith

owned-most : (p : Key → ℕ → Bool) (h n : ℕ) → count p (owned h n) ≤ n
unfolding total count_in
owned-most p h zero = omega arith
owned-most p h (suc n) = omega (arith, one_most (p (txid h) 7), owned-most p (suc h) n)

owned-owners : (p : Key → ℕ → Bool) (h n : ℕ) → owners p (owned h n) ≡ count p (owned h n)
unfolding total count_in
owned-owners p h zero = refl
owned-owners p h (suc n) = omega (arith, owned-owners p (suc h) n)

owned-places : (h n : ℕ) → places_held (owned h n) ≡ 0
unfolding total
owned-places h zero = refl
owned-places h (suc n) = omega (arith, owned-places (suc h) n)

-- the hashes ascend, so that one of them stands at most once
below : (g h n : ℕ) → g < h → count (under g) (owned h n) ≡ 0
unfolding total count_in
below g h zero l = refl
below g h (suc n) l = rw (ne_eqb h g (λ e. omega arith)) (omega (arith, below g (suc h) n (omega arith)))

owned_once : (g h n : ℕ) → count (under g) (owned h n) ≤ 1
unfolding total count_in
owned_once g h zero = omega arith
owned_once g h (suc n) =
    elim (test (eqb h g)) [
      | inl e ↦ omega (arith, one_most (eqb h g), below g (suc h) n (omega (arith, eqb-true h g e)))
      | inr e ↦ rw e (omega (arith, owned_once g (suc h) n))
    ]

narrower : (a b : Bool) → one (a && b) ≤ one a
narrower true b = one_most b
narrower false b = omega arith

owned_narrower : (m g h n : ℕ) → count (by_under m g) (owned h n) ≤ count (under g) (owned h n)
unfolding total count_in
owned_narrower m g h zero = omega arith
owned_narrower m g h (suc n) = omega (arith, narrower (eqb h g) (eqb 7 m), owned_narrower m g (suc h) n)

-- ---- the requests

owned-ordered : (lo h n : ℕ) → lo ≤ h → h + n ≤ top → Ordered lo (owned h n)
owned-ordered lo h zero l g = tt
owned-ordered lo h (suc n) l g = (omega arith, omega arith, owned-ordered (suc (place (txid h))) (suc h) n (omega arith) (omega arith))

owned-filled : (h n : ℕ) → All Filled (owned h n)
owned-filled h zero = tt
owned-filled h (suc n) = (omega arith, owned-filled (suc h) n)

owned-lawful : (h n : ℕ) → All Lawful (owned h n)
unfolding has
owned-lawful h zero = tt
owned-lawful h (suc n) = (
  record {
    candidates = (record { item = refl; positive = omega arith; connection = omega arith; ready = omega arith; priority = omega arith }, tt);
    owner = (refl, omega arith);
    packed = refl;
    parents = record { hashes = tt; distinct = tt; few = omega arith };
    mark = tt;
  },
  owned-lawful (suc h) n,
)

-- ---- the state

hundred_below : max_in_flight + 1 < top
unfolding top
hundred_below = lit< tt

pub owning-sound : (n : ℕ) → n ≤ max_in_flight → Sound (owning n)
owning-sound n l =
    record {
      some_limit = omega arith;
      most-limit = omega arith;
      some_place = omega arith;
      most-places = omega arith;
      bounded = record {
        ordered = owned-ordered 0 1 n (omega arith) (omega (arith, hundred_below));
        filled = owned-filled 1 n;
        lawful = owned-lawful 1 n;
        fits = omega (arith, owned-most any 1 n);
        each = λ m. omega (arith, owned-most (by m) 1 n);
        alternates = λ g. omega (arith, owned_once g 1 n);
        once = λ m g. omega (arith, owned_narrower m g 1 n, owned_once g 1 n);
        owned = λ m. omega (arith, owned-owners (by m) 1 n, owned-most (by m) 1 n);
        single = λ g. omega (arith, owned-owners (under g) 1 n, owned_once g 1 n);
        room = omega (arith, owned-places 1 n);
      };
      poll = tt;
      known = tt;
      ready = tt;
    }
