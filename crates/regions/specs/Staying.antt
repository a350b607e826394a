-- Records taken out of a region in one pass, whatever the records: those that pass a test q stay, in their order.
use Rattle.std.specs.Prelude.{ℕ, ◌≤◌, ◌≡◌, Bool, List, [], ◌∷◌, length, take, if◌then◌else◌}
use Rattle.regions.specs.Regions.{Holds}

-- the elements that pass a test, in their order
unfoldable pub filter : {A : Type 0} → (A → Bool) → List A → List A
filter p [] = []
filter p (a ∷ l) = if p a then a ∷ filter p l else filter p l

-- the records that pass q stand in front of some that stood there, as many as there were
pub record Fronted {A : Type 0} (k : ℕ) (enc : A → List ℕ) (q : A → Bool) (L : ℕ) (xs : List A) (w' : List ℕ) (m : ℕ) : Type 0 where
  pub all : List A
  pub long : length all ≡ length xs
  pub front : take m all ≡ filter q xs
  pub holds : Holds k enc L all w'

-- of n records the m that stay come to the front, by each test that `asked` says is the one that was asked
pub record Sifted {A : Type 0} (k : ℕ) (enc : A → List ℕ) (asked : (A → Bool) → Type 0) (w w' : List ℕ) (n m : ℕ) : Type 0 where
  pub most : m ≤ n
  pub region : (q : A → Bool) → asked q → (L : ℕ) (xs : List A) → length xs ≡ n → Holds k enc L xs w → Fronted k enc q L xs w' m

-- of n records the m that stay are left, by each test that `asked` says is the one that was asked
pub record Retained {A : Type 0} (k : ℕ) (enc : A → List ℕ) (asked : (A → Bool) → Type 0) (w w' : List ℕ) (n m : ℕ) : Type 0 where
  pub most : m ≤ n
  pub count : (q : A → Bool) → asked q → (L : ℕ) (xs : List A) → length xs ≡ n → Holds k enc L xs w → m ≡ length (filter q xs)
  pub region : (q : A → Bool) → asked q → (L : ℕ) (xs : List A) → length xs ≡ n → Holds k enc L xs w → Holds k enc L (filter q xs) w'
