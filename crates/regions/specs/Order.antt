-- Searches, stated over the list of the records' keys as numbers.
use Rattle.std.specs.Prelude.{ℕ, ◌≤◌, ◌<◌, Bool, ltb, ◌≡◌, List, length, get_or}
use Rattle.std.specs.Prelude.{Option, Some, None}

-- numbers in order
unfoldable pub Sorted : List ℕ → Type 0
Sorted ks = (p q : ℕ) → p ≤ q → q < length ks → get_or ks p 0 ≤ get_or ks q 0

-- r is the place of x among numbers in order: those before r are below x, and those from r on are not
pub record Bound (ks : List ℕ) (x r : ℕ) : Type 0 where
  pub most : r ≤ length ks
  pub below : (k : ℕ) → k < r → get_or ks k 0 < x
  pub above : (k : ℕ) → r ≤ k → k < length ks → x ≤ get_or ks k 0

-- what a binary search among n keys gives
pub record Sought (ks : List ℕ) (n x r : ℕ) : Type 0 where
  pub most : r ≤ n
  pub bound : Sorted ks → Bound ks x r

-- r is where a binary search of the indices below n ends that asks a test `short`: among keys, where the test tells which of them are below x
pub record IsLowerBound (short : ℕ → Bool → Type 0) (n r : ℕ) : Type 0 where
  pub most : r ≤ n
  pub bound : (ks : List ℕ) (x : ℕ) → length ks ≡ n → ((i : ℕ) (b : Bool) → i < n → short i b → b ≡ ltb (get_or ks i 0) x) → Sought ks n x r

-- r is the first of the indices from .. to at which ks has x, or to
pub record First (ks : List ℕ) (from to x r : ℕ) : Type 0 where
  pub least : from ≤ r
  pub most : r ≤ to
  pub none : (j : ℕ) → from ≤ j → j < r → get_or ks j 0 ≡ x → ⊥
  pub found : r < to → get_or ks r 0 ≡ x

-- the same, found or not: no index from .. to, where ks has x nowhere among them
abbrev pub FoundFirst : List ℕ → ℕ → ℕ → ℕ → Option ℕ → Type 0
FoundFirst ks from to x None = First ks from to x to
FoundFirst ks from to x (Some i) = First ks from to x i × (i < to)
