-- A region: records of k words each, then zeros up to its capacity. What inserting, removing, replacing and reading a record do to it.
use Rattle.std.specs.Prelude.{ℕ, suc, ◌+◌, ◌-◌, ◌*◌, ◌<◌, ◌≡◌, List, [], ◌∷◌, ◌++◌, length, take, drop, get_or, set, replicate}
use Rattle.words.specs.Words.{splice}

-- ---- lists of records as words

-- g of each, one after the other
unfoldable pub each : {A B : Type 0} → (A → List B) → List A → List B
each g [] = []
each g (a ∷ l) = g a ++ each g l

-- the first n words of w with zeros behind it: always n words
unfoldable pub padded : ℕ → List ℕ → List ℕ
padded n w = take n (w ++ replicate n 0)

-- the words w are a region of capacity L that holds the records xs, of k words each
abbrev pub Holds : {A : Type 0} → ℕ → (A → List ℕ) → ℕ → List A → List ℕ → Type 0
Holds k enc L xs w = w ≡ padded (k * L) (each enc xs)

-- ---- lists with one element more or less

unfoldable pub insert_at : {A : Type 0} → ℕ → A → List A → List A
insert_at i x xs = take i xs ++ (x ∷ drop i xs)

unfoldable pub remove_at : {A : Type 0} → ℕ → List A → List A
remove_at i xs = take i xs ++ drop (suc i) xs

unfoldable pub remove_range : {A : Type 0} → ℕ → ℕ → List A → List A
remove_range from to xs = take from xs ++ drop to xs

-- ---- words with a part put in or taken out

-- x put in at a: what stood from a to b moves up
unfoldable pub opened : ℕ → ℕ → List ℕ → List ℕ → List ℕ
opened a b x w = take a w ++ (x ++ (drop a (take b w) ++ drop (b + length x) w))

-- d words taken out at a: what stood from a + d to b moves down, and zeros follow it
unfoldable pub shut : ℕ → ℕ → ℕ → List ℕ → List ℕ
shut d a b w = take a w ++ (drop (a + d) (take b w) ++ (replicate d 0 ++ drop b w))

-- ---- parts of contracts: of any words, and of a region that holds n records

module _ {A : Type 0} (k : ℕ) (enc : A → List ℕ) (w : List ℕ) where
  pub record Inserted (w' : List ℕ) (n i : ℕ) (x : A) : Type 0 where
    pub words_are : w' ≡ opened (k * i) (k * n) (enc x) w
    pub region : (L : ℕ) (xs : List A) → length xs ≡ n → Holds k enc L xs w → Holds k enc L (insert_at i x xs) w'

  pub record Removed (w' : List ℕ) (n i : ℕ) : Type 0 where
    pub words_are : w' ≡ shut k (k * i) (k * n) w
    pub region : (L : ℕ) (xs : List A) → length xs ≡ n → Holds k enc L xs w → Holds k enc L (remove_at i xs) w'

  -- the records from .. to taken out
  pub record RangeRemoved (w' : List ℕ) (n from to : ℕ) : Type 0 where
    pub words_are : w' ≡ shut (k * (to - from)) (k * from) (k * n) w
    pub region : (L : ℕ) (xs : List A) → length xs ≡ n → Holds k enc L xs w → Holds k enc L (remove_range from to xs) w'

  pub record Replaced (w' : List ℕ) (i : ℕ) (x : A) : Type 0 where
    pub words_are : w' ≡ splice w (k * i) (enc x)
    pub region : (L : ℕ) (xs : List A) → i < length xs → Holds k enc L xs w → Holds k enc L (set xs i x) w'

  -- all records from the m-th of n on gone
  pub record Truncated (w' : List ℕ) (n m : ℕ) : Type 0 where
    pub words_are : w' ≡ splice w (k * m) (replicate (k * (n - m)) 0)
    pub region : (L : ℕ) (xs : List A) → length xs ≡ n → Holds k enc L xs w → Holds k enc L (take m xs) w'

  -- the record at `from` copied over the one at `to`
  pub record Copied (w' : List ℕ) (to from : ℕ) : Type 0 where
    pub words_are : w' ≡ splice w (k * to) (take k (drop (k * from) w))
    pub region : (L : ℕ) (xs : List A) (d : A) → from < length xs → Holds k enc L xs w → Holds k enc L (set xs to (get_or xs from d)) w'

  -- the words j .. of a record replaced by y, which makes the record x into f x
  pub record Changed (w' : List ℕ) (i j : ℕ) (y : List ℕ) (f : A → A) : Type 0 where
    pub words_are : w' ≡ splice w (k * i + j) y
    pub region : (L : ℕ) (xs : List A) (d : A) → i < length xs → Holds k enc L xs w → Holds k enc L (set xs i (f (get_or xs i d))) w'

  pub record Found (dec : List ℕ → A) (i : ℕ) (x : A) : Type 0 where
    pub words_are : x ≡ dec (take k (drop (k * i) w))
    pub region : (L : ℕ) (xs : List A) (d : A) → i < length xs → Holds k enc L xs w → x ≡ get_or xs i d

-- ---- kinds of records

-- a record has k words, at least one
pub record RecordLaws {A : Type 0} (k : ℕ) (enc : A → List ℕ) : Type 0 where
  pub some_words : 0 < k
  pub sized : (x : A) → length (enc x) ≡ k

-- of a record that is read and written whole: it is read from its own words alone, and what was written is read back
pub record WholeLaws {A : Type 0} (k : ℕ) (enc : A → List ℕ) (dec : List ℕ → A) : Type 0 where
  pub sized : (x : A) → length (enc x) ≡ k
  pub own : (w : List ℕ) → dec (take k w) ≡ dec w
  pub back : (x : A) → dec (enc x) ≡ x
