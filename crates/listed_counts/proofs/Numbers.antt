-- The number that a line adds, and counters with one number more.
use Prim.Native.Nat.{ℕ, suc, ◌≤◌}
use mathlib.Core.Path.{◌≡◌}
use mathlib.Core.List.{List}
use mathlib.Core.Option.{Option, none, some}
use mathlib.Core.Logic.{inl, inr}
use native.Mathlib.Omega.{arith}
use lib.ListN.{length}
use borrow.Author.Tests.{ltb-true, ltb-false}
use Rattle.machine.proofs.Tests.{test}
use Rattle.heavy.specs.Counters.{index_of, is_in, counts_with, counted_with, sum}
use Rattle.heavy.proofs.Held.{sum-raised, sum-taken, sum-lowered}
use Rattle.listed_counts.specs.Passes.{counts_added, counted_added, Notes, Counts}

-- ---- the counts in all grow by one at most

module _ (ns ks : List ℕ) (e : length ns ≡ length ks) where
  sum_with : (x : ℕ) → sum (counts_with x ns ks) ≤ suc (sum ks)
  unfolding counts_with
  sum_with x = elim (test (is_in x ns)) [
    | inl t ↦ rw t (omega (arith, sum-raised (index_of x ns) ks (omega (arith, e, ltb-true (index_of x ns) (length ns) t))))
    | inr t ↦ elim (test (is_in 0 ks)) [
      | inl u ↦ rw (t, u) (omega (arith, sum-taken ks (ltb-true (index_of 0 ks) (length ks) u)))
      | inr u ↦ rw (t, u) (omega (arith, sum-lowered ks (ltb-false (index_of 0 ks) (length ks) u)))
    ]
  ]

  sum-counted : (x : ℕ) → sum (counted_with x ns ks) ≤ suc (sum ks)
  unfolding counted_with
  sum-counted x = elim (test (is_in x ns)) [
    | inl t ↦ rw t (omega (arith, sum-raised (index_of x ns) ks (omega (arith, e, ltb-true (index_of x ns) (length ns) t))))
    | inr t ↦ rw t (omega arith)
  ]

  pub sum-noted : {n : Option ℕ} {ns' ks' : List ℕ} → Notes n ns ks ns' ks' → sum ks' ≤ suc (sum ks)
  sum-noted {n} h = rw h.counts (by n)
    where
      by : (o : Option ℕ) → sum (counts_added o ns ks) ≤ suc (sum ks)
      by none = omega arith
      by (some x) = sum_with x

  pub sum_more : {n : Option ℕ} {ks' : List ℕ} → Counts n ns ks ks' → sum ks' ≤ suc (sum ks)
  sum_more {n} h = rw h.counts (by n)
    where
      by : (o : Option ℕ) → sum (counted_added o ns ks) ≤ suc (sum ks)
      by none = omega arith
      by (some x) = sum-counted x
