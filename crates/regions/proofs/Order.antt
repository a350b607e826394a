-- Numbers of 64-bit digits compared from the top, and binary search.
use Prim.Native.Nat.{ℕ, ◌+◌, ◌-◌, ◌*◌, ◌/◌, ◌%◌, ◌^◌, ◌≤◌, ◌<◌}
use mathlib.Core.Path.{◌≡◌, refl, sym, ap, subst, ◌∙◌}
use mathlib.Core.Logic.{◌⊎◌, inl, inr}
use mathlib.Core.Bool.{Bool, true, false}
use mathlib.Core.List.{List, [], ◌∷◌}
use native.Mathlib.Omega.{arith}
use lib.Dec.{ltb}
use lib.ListN.{length, get_or}
use borrow.Author.Tests.{ltb-true, ltb-false, lt-ltb, le-ltb}
use Rattle.ident.specs.Number.{kind_number}
use Rattle.words.specs.Words.{number}
use Rattle.words.proofs.Digits.{number_append}
use Rattle.regions.specs.declared.Quad.{Quad}
use Rattle.regions.specs.declared.Key.{Key}
use Rattle.regions.specs.Order.{Sorted, Sought, IsLowerBound, First}
use Rattle.regions.specs.Rows.{quad_words, quad_number, quad_of, key_number}

pub test : (b : Bool) → (b ≡ true) ⊎ (b ≡ false)
test true = inl refl
test false = inr refl

-- the same test of other numbers
same_test : (x y x' y' : ℕ) → (x < y → x' < y') → (y ≤ x → y' ≤ x') → ltb x y ≡ ltb x' y'
same_test x y x' y' f g = elim (test (ltb x y)) [
  | inl e ↦ e ∙ sym (lt-ltb x' y' (f (ltb-true x y e)))
  | inr e ↦ e ∙ sym (le-ltb x' y' (g (ltb-false x y e)))
]

-- ---- digit by digit (`omega` takes no numeral of more than 38 digits)

-- r is the order of two numbers that differ
pub record Differ (x y : ℕ) (r : Bool) : Type 0 where
  pub apart : x ≡ y → ⊥
  pub order : r ≡ ltb x y

-- numbers whose high digits are equal are in the order of the next digit
pub differ_at : (d e : ℕ) {h h' : ℕ} → h ≡ h' → (d ≡ e → ⊥) → Differ (d + 2 ^ 64 * h) (e + 2 ^ 64 * h') (ltb d e)
differ_at d e {h} {h'} q n = record {
  apart = λ z. n (omega arith);
  order = same_test d e (d + 2 ^ 64 * h) (e + 2 ^ 64 * h') (λ l. omega arith) (λ l. omega arith);
}

-- lower digits do not matter
pub differ_above : (lo lo' : ℕ) {x y : ℕ} {r : Bool} → lo < 2 ^ 64 → lo' < 2 ^ 64 → Differ x y r → Differ (lo + 2 ^ 64 * x) (lo' + 2 ^ 64 * y) r
differ_above lo lo' {x} {y} p q d = record {
  apart = λ z. d.apart (omega arith);
  order = d.order ∙ same_test x y (lo + 2 ^ 64 * x) (lo' + 2 ^ 64 * y) (λ l. omega arith) (λ l. let n : (x ≡ y → ⊥) = d.apart in let m : y < x = strict y x l (λ e. n (sym e)) in omega arith);
}
  where
    strict : (a b : ℕ) → a ≤ b → (a ≡ b → ⊥) → a < b
    strict a b h n = elim (test (ltb a b)) [ inl e ↦ ltb-true a b e | inr e ↦ absurd (n (omega (arith, ltb-false a b e))) ]

-- the last digit decides where all above are equal
pub last_digit : (d e : ℕ) {h h' : ℕ} → h ≡ h' → ltb d e ≡ ltb (d + 2 ^ 64 * h) (e + 2 ^ 64 * h')
last_digit d e {h} {h'} q = same_test d e (d + 2 ^ 64 * h) (e + 2 ^ 64 * h') (λ l. omega arith) (λ l. omega arith)

pub same_above : (x y c : ℕ) → ltb x y ≡ ltb (x + c) (y + c)
same_above x y c = same_test x y (x + c) (y + c) (λ l. omega arith) (λ l. omega arith)

-- ---- hashes and keys

pub record Small (q : Quad) : Type 0 where
  pub w0 : q.w0 < 2 ^ 64
  pub w1 : q.w1 < 2 ^ 64
  pub w2 : q.w2 < 2 ^ 64
  pub w3 : q.w3 < 2 ^ 64

-- ---- a hash and its number, digit by digit to the base 2^64 (omega reads no numeral of 2^256's length)

digit : (x : ℕ) → x % 2 ^ 64 + 2 ^ 64 * (x / 2 ^ 64) ≡ x
digit x = omega arith

low : (a x : ℕ) → a < 2 ^ 64 → (a + 2 ^ 64 * x) % 2 ^ 64 ≡ a
low a x h = omega arith

high : (a x : ℕ) → a < 2 ^ 64 → (a + 2 ^ 64 * x) / 2 ^ 64 ≡ x
high a x h = omega arith

unfoldable pub four : ℕ → ℕ → ℕ → ℕ → ℕ
four a b c d = a + 2 ^ 64 * (b + 2 ^ 64 * (c + 2 ^ 64 * d))

pub quad_four : (q : Quad) → quad_number q ≡ four q.w0 q.w1 q.w2 q.w3
unfolding quad_number number four
quad_four q = let e : q.w3 + 2 ^ 64 * 0 ≡ q.w3 = omega arith in rw e

pub zero_number : quad_number (record { w0 = 0; w1 = 0; w2 = 0; w3 = 0 }) ≡ 0
unfolding quad_number number
zero_number = refl

pub number_quad : (h : ℕ) → quad_number (quad_of h) ≡ h
unfolding quad_of four
number_quad h = quad_four (quad_of h) ∙ rw (digit (h / 2 ^ 64 / 2 ^ 64), digit (h / 2 ^ 64), digit h)

module _ (a b c d : ℕ) (p : a < 2 ^ 64) (q : b < 2 ^ 64) (r : c < 2 ^ 64) where
  quad_of_four : quad_of (four a b c d) ≡ record { w0 = a; w1 = b; w2 = c; w3 = d }
  unfolding quad_of four
  quad_of_four =
      rw (high a (b + 2 ^ 64 * (c + 2 ^ 64 * d)) p, low a (b + 2 ^ 64 * (c + 2 ^ 64 * d)) p, high b (c + 2 ^ 64 * d) q, low b (c + 2 ^ 64 * d) q, high c d r, low c d r)

pub quad-number : (q : Quad) → Small q → quad_of (quad_number q) ≡ q
quad-number q f = ap quad_of (quad_four q) ∙ quad_of_four q.w0 q.w1 q.w2 q.w3 f.w0 f.w1 f.w2

module _ {a b : Quad} (p : Small a) (q : Small b) where
  above_hash : {x y : ℕ} {r : Bool} → Differ x y r
      → Differ (a.w0 + 2 ^ 64 * (a.w1 + 2 ^ 64 * (a.w2 + 2 ^ 64 * (a.w3 + 2 ^ 64 * x)))) (b.w0 + 2 ^ 64 * (b.w1 + 2 ^ 64 * (b.w2 + 2 ^ 64 * (b.w3 + 2 ^ 64 * y)))) r
  above_hash d =
      differ_above a.w0 b.w0 p.w0 q.w0 (differ_above a.w1 b.w1 p.w1 q.w1 (differ_above a.w2 b.w2 p.w2 q.w2 (differ_above a.w3 b.w3 p.w3 q.w3 d)))

  pub by_w3 : (a.w3 ≡ b.w3 → ⊥) → ltb a.w3 b.w3 ≡ ltb (quad_number a) (quad_number b)
  unfolding quad_number number
  by_w3 n =
      (differ_above a.w0 b.w0 p.w0 q.w0
      (differ_above a.w1 b.w1 p.w1 q.w1 (differ_above a.w2 b.w2 p.w2 q.w2 (differ_at a.w3 b.w3 {h = 0} {h' = 0} refl n)))).order

  module _ (e₃ : a.w3 ≡ b.w3) where
    pub by_w2 : (a.w2 ≡ b.w2 → ⊥) → ltb a.w2 b.w2 ≡ ltb (quad_number a) (quad_number b)
    unfolding quad_number number
    by_w2 n =
        let h : a.w3 + 2 ^ 64 * 0 ≡ b.w3 + 2 ^ 64 * 0 = rw e₃ in
        (differ_above a.w0 b.w0 p.w0 q.w0 (differ_above a.w1 b.w1 p.w1 q.w1 (differ_at a.w2 b.w2 h n))).order

    module _ (e₂ : a.w2 ≡ b.w2) where
      top_two : a.w2 + 2 ^ 64 * (a.w3 + 2 ^ 64 * 0) ≡ b.w2 + 2 ^ 64 * (b.w3 + 2 ^ 64 * 0)
      top_two = rw (e₃, e₂)

      pub by_w1 : (a.w1 ≡ b.w1 → ⊥) → ltb a.w1 b.w1 ≡ ltb (quad_number a) (quad_number b)
      unfolding quad_number number
      by_w1 n = (differ_above a.w0 b.w0 p.w0 q.w0 (differ_at a.w1 b.w1 top_two n)).order

      pub by_w0 : a.w1 ≡ b.w1 → ltb a.w0 b.w0 ≡ ltb (quad_number a) (quad_number b)
      unfolding quad_number number
      by_w0 e₁ = last_digit a.w0 b.w0 (rw (top_two, e₁))

-- a key's kind stands above its hash
pub key-number : (k : Key) → key_number k ≡ quad_number k.hash + (2 ^ 64) ^ 4 * number (2 ^ 64) (kind_number k.kind ∷ [])
unfolding key_number quad_number
key-number k = number_append (2 ^ 64) (quad_words k.hash) (kind_number k.kind ∷ [])

module _ (a b : Key) where
  pub by_kind : Small a.hash → Small b.hash → (kind_number a.kind ≡ kind_number b.kind → ⊥) → ltb (kind_number a.kind) (kind_number b.kind) ≡ ltb (key_number a) (key_number b)
  unfolding key_number number
  by_kind p q n = (above_hash p q (differ_at (kind_number a.kind) (kind_number b.kind) {h = 0} {h' = 0} refl n)).order

  pub by_hash : {r : Bool} → kind_number a.kind ≡ kind_number b.kind → r ≡ ltb (quad_number a.hash) (quad_number b.hash) → r ≡ ltb (key_number a) (key_number b)
  by_hash e f = f ∙ rw (key-number a, key-number b, e) (same_above (quad_number a.hash) (quad_number b.hash) _)

-- ---- binary search

-- x has its place among the n keys ks, if they are in order, from lo to hi
pub record Searching (ks : List ℕ) (n x lo hi : ℕ) : Type 0 where
  pub long : length ks ≡ n
  pub lo-le : lo ≤ hi
  pub hi-le : hi ≤ n
  pub below : Sorted ks → (k : ℕ) → k < lo → get_or ks k 0 < x
  pub above : Sorted ks → (k : ℕ) → hi ≤ k → k < n → x ≤ get_or ks k 0

pub search_start : (ks : List ℕ) (n x : ℕ) → length ks ≡ n → Searching ks n x 0 n
search_start ks n x l =
    record { long = l; lo-le = omega arith; hi-le = omega arith; below = λ s k h. absurd (omega arith); above = λ s k h m. absurd (omega arith) }

module _ {ks : List ℕ} {n x lo hi : ℕ} (b : Searching ks n x lo hi) where
  module _ (m : ℕ) (p : lo ≤ m) (q : m < hi) where
    pub search_up : get_or ks m 0 < x → Searching ks n x (m + 1) hi
    unfolding Sorted
    search_up h = record {
      long = b.long;
      lo-le = omega arith;
      hi-le = b.hi-le;
      below = λ s k l. omega (arith, s k m (omega arith) (omega arith));
      above = b.above;
    }

    pub search_down : x ≤ get_or ks m 0 → Searching ks n x lo m
    unfolding Sorted
    search_down h = record {
      long = b.long;
      lo-le = p;
      hi-le = omega arith;
      below = b.below;
      above = λ s k l l'. omega (arith, s m k l (omega arith));
    }

  pub search_end : hi ≤ lo → Sought ks n x lo
  search_end h = record {
    most = omega arith;
    bound = λ s. record { most = omega arith; below = b.below s; above = λ k l l'. b.above s k (omega arith) (omega arith) };
  }

-- the same, where a test tells which keys are below x
module _ (short : ℕ → Bool → Type 0) (n : ℕ) where
  pub record Bisecting (lo hi : ℕ) : Type 0 where
    pub lo-le : lo ≤ hi
    pub hi-le : hi ≤ n
    pub among : (ks : List ℕ) (x : ℕ) → length ks ≡ n → ((i : ℕ) (b : Bool) → i < n → short i b → b ≡ ltb (get_or ks i 0) x) → Searching ks n x lo hi

  pub bisect_start : Bisecting 0 n
  bisect_start = record { lo-le = omega arith; hi-le = omega arith; among = λ ks x l t. search_start ks n x l }

module _ {short : ℕ → Bool → Type 0} {n lo hi : ℕ} (b : Bisecting short n lo hi) where
  module _ (m : ℕ) (p : lo ≤ m) (q : m < hi) where
    pub bisect_up : short m true → Bisecting short n (m + 1) hi
    bisect_up s = record {
      lo-le = omega arith;
      hi-le = b.hi-le;
      among = λ ks x l t. search_up (b.among ks x l t) m p q (ltb-true (get_or ks m 0) x (sym (t m true (omega arith) s)));
    }

    pub bisect_down : short m false → Bisecting short n lo m
    bisect_down s = record {
      lo-le = p;
      hi-le = omega arith;
      among = λ ks x l t. search_down (b.among ks x l t) m p q (ltb-false (get_or ks m 0) x (sym (t m false (omega arith) s)));
    }

  pub bisect_end : hi ≤ lo → IsLowerBound short n lo
  bisect_end h = record { most = omega arith; bound = λ ks x l t. search_end (b.among ks x l t) h }

-- ---- search from the front

-- none of the keys from .. i is x
pub record Passing (ks : List ℕ) (from to x i : ℕ) : Type 0 where
  pub least : from ≤ i
  pub most : i ≤ to
  pub none : (j : ℕ) → from ≤ j → j < i → get_or ks j 0 ≡ x → ⊥

module _ {ks : List ℕ} {from to x i : ℕ} (p : Passing ks from to x i) where
  pub passing_more : i < to → (get_or ks i 0 ≡ x → ⊥) → Passing ks from to x (i + 1)
  passing_more h n = record {
    least = omega arith;
    most = omega arith;
    none = λ j a b e.
        elim (test (ltb j i)) [
          | inl t ↦ p.none j a (ltb-true j i t) e
          | inr t ↦ let q : j ≡ i = omega (arith, ltb-false j i t) in n (rw q at e)
        ];
  }

  pub passing_found : get_or ks i 0 ≡ x → First ks from to x i
  passing_found e = record { least = p.least; most = p.most; none = p.none; found = λ _. e }

-- ---- a guess that is tested

module _ {short : ℕ → Bool → Type 0} {n : ℕ} (i : ℕ) (p : 0 < i) (before : short (i - 1) true) where
  upto : i ≤ n → Bisecting short n i n
  upto h = let e : i - 1 + 1 ≡ i = omega arith in subst (λ (m : ℕ). Bisecting short n m n) e (bisect_up (bisect_start short n) (i - 1) (omega arith) (omega arith) before)

  pub bound_last : i ≡ n → IsLowerBound short n i
  bound_last e = bisect_end (upto (omega arith)) (omega arith)

  pub bound_met : i < n → short i false → IsLowerBound short n i
  bound_met h s = bisect_end (bisect_down (upto (omega arith)) i (omega arith) h s) (omega arith)
