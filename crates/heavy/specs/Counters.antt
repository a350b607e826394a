-- Which numbers come often in a list, found with a few counters: each has a name and a count.
use Rattle.std.specs.Prelude.{ℕ, suc, ◌+◌, ◌-◌, ◌≤◌, ◌≡◌, Bool, true, ◌&&◌, List, [], ◌∷◌, ltb, leb, eqb, length, get_or, set, if◌then◌else◌}
use Rattle.std.specs.Prelude as answer
use Rattle.std.specs.Iterator.{AlwaysYields}
use Rattle.heavy.specs.declared.Counter.{Counter}

unfoldable pub names_in : List Counter → List ℕ
names_in [] = []
names_in (c ∷ cs) = c.name ∷ names_in cs

unfoldable pub counts_in : List Counter → List ℕ
counts_in [] = []
counts_in (c ∷ cs) = c.count ∷ counts_in cs

-- how often x stands in a list
unfoldable pub times : ℕ → List ℕ → ℕ
times x [] = 0
times x (y ∷ ys) = if eqb y x then suc (times x ys) else times x ys

-- where x first stands; the length if it does not
unfoldable pub index_of : ℕ → List ℕ → ℕ
index_of x [] = 0
index_of x (n ∷ ns) = if eqb n x then 0 else suc (index_of x ns)

abbrev pub is_in : ℕ → List ℕ → Bool
is_in x ns = ltb (index_of x ns) (length ns)

unfoldable pub lowered : List ℕ → List ℕ
lowered [] = []
lowered (c ∷ ks) = (c - 1) ∷ lowered ks

-- x is met: its counter goes up; else a counter at 0 becomes x's; else every counter goes down
abbrev pub raised : ℕ → List ℕ → List ℕ
raised i ks = set ks i (get_or ks i 0 + 1)

unfoldable pub names_with : ℕ → List ℕ → List ℕ → List ℕ
names_with x ns ks = if is_in x ns then ns else if is_in 0 ks then set ns (index_of 0 ks) x else ns

unfoldable pub counts_with : ℕ → List ℕ → List ℕ → List ℕ
counts_with x ns ks = if is_in x ns then raised (index_of x ns) ks else if is_in 0 ks then set ks (index_of 0 ks) 1 else lowered ks

-- the names that are left of a list
unfoldable pub names_of : List ℕ → List ℕ → List ℕ → List ℕ
names_of [] ns ks = ns
names_of (x ∷ xs) ns ks = names_of xs (names_with x ns ks) (counts_with x ns ks)

-- x is counted if it has a name
unfoldable pub counted_with : ℕ → List ℕ → List ℕ → List ℕ
counted_with x ns ks = if is_in x ns then raised (index_of x ns) ks else ks

unfoldable pub counts_of : List ℕ → List ℕ → List ℕ → List ℕ
counts_of [] ns ks = ks
counts_of (x ∷ xs) ns ks = counts_of xs ns (counted_with x ns ks)

unfoldable pub none_above : ℕ → List ℕ → Bool
none_above most [] = true
none_above most (c ∷ ks) = leb c most && none_above most ks

unfoldable pub sum : List ℕ → ℕ
sum [] = 0
sum (c ∷ ks) = c + sum ks

-- every number stands at most so often in the list
pub record Few (most : ℕ) (xs : List ℕ) : Type 0 where
  pub few : (x : ℕ) → times x xs ≤ most

-- names and counts with x met
pub record Notes (ns ks ns' ks' : List ℕ) (x : ℕ) : Type 0 where
  pub names : ns' ≡ names_with x ns ks
  pub counts : ks' ≡ counts_with x ns ks

-- the same of the counts that an iterator yields: `steps` is what a call of it may give
pub record NoneAbove {S : Type 0} (steps : S → answer.Option ℕ → S → Type 0) (s : S) (most : ℕ) (r : Bool) : Type 0 where
  pub is : (ks : List ℕ) → AlwaysYields steps (λ k. k) s ks → r ≡ none_above most ks
