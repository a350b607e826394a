-- Where the rows of a key end: they are walked from the first of them.
use Prim.Native.Nat.{ℕ, zero, suc, ◌+◌, ◌≤◌, ◌<◌}
use mathlib.Core.Path.{◌≡◌, refl}
use mathlib.Core.Logic.{inl, inr}
use mathlib.Core.Bool.{true, false}
use mathlib.Core.List.{List, [], ◌∷◌}
use native.Mathlib.Omega.{arith}
use lib.Dec.{ltb}
use lib.ListN.{length, get_or, length-map}
use borrow.Author.Tests.{ltb-true, ltb-false}
use Rattle.std.specs.Prelude as rust
use Rattle.std.specs.Prelude.{Some, None}
use Rattle.std.specs.Option.{MatchOption, unwrap_or}
use Rattle.regions.specs.declared.Row.{Row}
use Rattle.regions.specs.Order.{Sorted}
use Rattle.regions.specs.Rows.{quad_of, key_number, key_of}
use Rattle.machine.proofs.Tests.{test}
use Rattle.store.specs.Flat.{Flat}
use Rattle.store.specs.Image.{Shows}
use Rattle.store.specs.Shown.{rows_in, row_numbers}
use Rattle.store.proofs.Frame.{sizes}
use Rattle.requests.specs.Windows.{EndsAt}

abbrev number_of : Row → ℕ
number_of r = key_number (key_of r)

nothing : Row
nothing = record { hash = quad_of 0; conn = 0; ready = 0; prio = 0; deadline = 0; bits = 0 }

number_at : (xs : List Row) (p : ℕ) (d : Row) → p < length xs → get_or (row_numbers xs) p 0 ≡ number_of (get_or xs p d)
number_at [] p d h = absurd (omega arith)
number_at (x ∷ xs) zero d h = refl
number_at (x ∷ xs) (suc p) d h = number_at xs p d (omega arith)

-- the i-th row comes after the key whose number is x, or does not
abbrev pub Behind : List ℕ → ℕ → ℕ → Type 0
Behind b x i = (f : Flat) (d : Row) → Shows b f → ltb x (number_of (get_or f.rows i d)) ≡ true

abbrev pub Before : List ℕ → ℕ → ℕ → Type 0
Before b x i = (f : Flat) (d : Row) → Shows b f → ltb x (number_of (get_or f.rows i d)) ≡ false

module _ {b : List ℕ} {x from i : ℕ} (l : from ≤ i) (m : i ≤ rows_in b) (upto : (j : ℕ) → from ≤ j → j < i → Before b x j) where
  pub ends_at : ((f : Flat) → Shows b f → Sorted (row_numbers f.rows) → (k : ℕ) → i ≤ k → k < length (row_numbers f.rows) → x + 1 ≤ get_or (row_numbers f.rows) k 0) → EndsAt b x from i
  ends_at above = record {
    least = l;
    most = m;
    bound = λ f w s o.
        let z = sizes w in
        let n = length-map f.rows number_of in
        record {
          most = omega (arith, m);
          below = λ k q. elim (test (ltb k from)) [
            | inl t ↦ omega (arith, o.below k (ltb-true k from t))
            | inr t ↦
                omega (arith, number_at f.rows k nothing (omega (arith, m)), ltb-false x (number_of (get_or f.rows k nothing)) (upto k (ltb-false k from t) q f nothing w))
          ];
          above = above f w s;
        };
  }

-- no row before the next is above a sorted list's
above-from : (ks : List ℕ) → Sorted ks → {j x : ℕ} → x < get_or ks j 0 → (k : ℕ) → j ≤ k → k < length ks → x + 1 ≤ get_or ks k 0
unfolding Sorted
above-from ks s {j} h k a c = omega (arith, s j k a c)

-- the first that comes after it, or their number
pub end_is : (b : List ℕ) {x from n i : ℕ} → from ≤ rows_in b → n ≡ rows_in b → (o : rust.Option ℕ) → MatchOption o ((k : ℕ) → from ≤ k → k < n → Before b x k)
    (λ j. (from ≤ j) × (j < n) × Behind b x j × ((k : ℕ) → from ≤ k → k < j → Before b x k)) → i ≡ unwrap_or o n → EndsAt b x from i
end_is b l e None p q = rw q (ends_at (omega arith) (omega arith) p (λ f w s k a c. absurd (omega (arith, sizes w, length-map f.rows number_of))))
end_is b {x} l e (Some j) p q =
    rw q (ends_at p.0 (omega (arith, p.1)) p.3 (λ f w s.
    let z = sizes w in
    above-from (row_numbers f.rows) s (omega (arith, p.1, number_at f.rows j nothing (omega (arith, p.1)), ltb-true x (number_of (get_or f.rows j nothing)) (p.2 f nothing w)))))
