-- A hash read in words of 16 digits.
use Prim.Native.Nat.{ℕ, zero, suc, ◌+◌, ◌-◌, ◌*◌, ◌^◌, ◌<◌, ◌≤◌}
use mathlib.Core.Path.{◌≡◌, refl, sym, ap, ◌∙◌}
use mathlib.Core.Bool.{Bool, true, false, ◌&&◌, not}
use mathlib.Core.Logic.{◌⊎◌, inl, inr}
use mathlib.Core.List.{List, [], ◌∷◌}
use mathlib.Core.Option.{none, some}
use native.Mathlib.Nat.{pos_of_ne-zero}
use native.Mathlib.Numerals.{add-one}
use native.Mathlib.Omega.{arith}
use lib.Dec.{ltb, leb, eqb, lit≤, lit<}
use lib.ListN.{length, take, drop, get_or, drop_of_length-le, length-drop}
use lib.Seq.{drop-cons, drop-drop, length-take-le}
use borrow.Author.Tests.{lt-ltb, le-ltb, ltb-true, ltb-false, leb-true, eqb-true, eqb-false, eq-eqb, not-true, not-false}
use Rattle.std.specs.Prelude as answer
use Rattle.std.specs.Prelude.{Some, None, if◌then◌else◌}
use Rattle.ident.specs.Number.{top}
use Rattle.machine.specs.Fields.{digit_of, follows, further, hash_of, with_value}
use Rattle.machine.proofs.Tests.{test, and_left, and_right}
use Rattle.machine.proofs.Numerals.{further_step, further_stop, further_end, follows-yes, follows-parts, numeral_of_first, numeral_of_not}
use Rattle.regions.specs.Rows.{quad_number}
use Rattle.regions.proofs.Order.{four, quad_four}
use Rattle.lines.specs.Values.{number_in}
use Rattle.lines.specs.Hexadecimal.{hex_from, hex_of}

-- ---- a number with k zeros behind its digits

unfoldable pub up : ℕ → ℕ → ℕ
up zero a = a
up (suc k) a = up k (a * 16)

up-more : (k a b : ℕ) → a ≤ b → up k a ≤ up k b
unfolding up
up-more zero a b h = h
up-more (suc k) a b h = up-more k (a * 16) (b * 16) (omega arith)

up-least : (k a : ℕ) → a ≤ up k a
unfolding up
up-least zero a = omega arith
up-least (suc k) a = omega (arith, up-least k (a * 16))

-- of more digits
up-further : (k j : ℕ) → k ≤ j → up k 1 ≤ up j 1
unfolding up
up-further zero j h = up-least j 1
up-further (suc k) zero h = absurd (omega arith)
up-further (suc k) (suc j) h = further_on k j 16 (omega arith)
  where
    further_on : (k j a : ℕ) → k ≤ j → up k a ≤ up j a
    further_on zero j a h = up-least j a
    further_on (suc k) zero a h = absurd (omega arith)
    further_on (suc k) (suc j) a h = further_on k j (a * 16) (omega arith)

pub up-word : (a : ℕ) → up 16 a ≡ a * 2 ^ 64
unfolding up
up-word a = omega arith

up-top : up 64 1 ≡ top
unfolding up top
up-top = refl

up-nought : (k : ℕ) → up k 0 ≡ 0
unfolding up
up-nought zero = refl
up-nought (suc k) = up-nought k

-- ---- digits one by one

hex-end : (a : ℕ) → hex_from a [] ≡ some a
unfolding hex_from
hex-end a = refl

hex-step : (a c : ℕ) (cs : List ℕ) → digit_of c < 16 → hex_from a (c ∷ cs) ≡ hex_from (a * 16 + digit_of c) cs
unfolding hex_from
hex-step a c cs h = rw (lt-ltb (digit_of c) 16 h)

hex-stop : (a c : ℕ) (cs : List ℕ) → 16 ≤ digit_of c → hex_from a (c ∷ cs) ≡ none
unfolding hex_from
hex-stop a c cs h = rw (le-ltb (digit_of c) 16 h)

-- what is read of 16 digits fits a word
pub record Reading (f : List ℕ) (i a : ℕ) : Type 0 where
  pub left : hex_of f ≡ hex_from a (drop i f)
  pub room : up (length f - i) (a + 1) ≤ 2 ^ 64

pub reading-all : (f : List ℕ) → length f ≤ 16 → Reading f 0 0
reading-all f h =
    let z : length f - 0 ≡ length f = omega arith in
    let g : up (length f) 1 ≤ 2 ^ 64 = omega (arith, up-further (length f) 16 h, up-word 1) in
    record { left = refl; room = rw z g }

module _ {f : List ℕ} {i a : ℕ} (r : Reading f i a) where
  pub reading-done : length f ≤ i → some a ≡ hex_of f
  reading-done h = sym (r.left ∙ rw (drop_of_length-le f h) (hex-end a))

  module _ (h : i < length f) where
    pub reading-none : 16 ≡ digit_of (get_or f i 0) → none ≡ hex_of f
    reading-none e = sym (r.left ∙ rw (drop-cons f i 0 h) (hex-stop a (get_or f i 0) (drop (suc i) f) (omega (arith, e))))

    module _ {d : ℕ} (e : d ≡ digit_of (get_or f i 0)) (l : d < 16) where
      one_more : up (length f - (i + 1)) (a * 16 + d + 1) ≤ 2 ^ 64
      unfolding up
      one_more =
          let k : length f - i ≡ suc (length f - (i + 1)) = omega arith in
          let m : up (suc (length f - (i + 1))) (a + 1) ≤ 2 ^ 64 = rw k at r.room in
          omega (arith, m, up-more (length f - (i + 1)) (a * 16 + d + 1) ((a + 1) * 16) (omega arith))

      pub reading-fits : a * 16 + d < 2 ^ 64
      reading-fits = omega (arith, one_more, up-least (length f - (i + 1)) (a * 16 + d + 1))

      pub reading-on : Reading f (i + 1) (a * 16 + d)
      reading-on = record {
        left = r.left ∙ rw (drop-cons f i 0 h, add-one, e) (hex-step a (get_or f i 0) (drop (suc i) f) (omega (arith, e)));
        room = one_more;
      }

-- ---- one part more, of k digits behind those of v

hex-part : (k a : ℕ) (s : List ℕ) → k ≤ length s → hex_from a s ≡ with_value (hex_from a (take k s)) (λ x. hex_from x (drop k s))
unfolding hex_from
hex-part zero a s h = refl
hex-part (suc k) a [] h = absurd (omega arith)
hex-part (suc k) a (c ∷ s) h = elim (test (ltb (digit_of c) 16)) [
  | inl t ↦ rw t (hex-part k (a * 16 + digit_of c) s (omega arith))
  | inr t ↦ rw t
]

hex-up : (s : List ℕ) (a b : ℕ) → hex_from (a + b) s ≡ with_value (hex_from b s) (λ y. some (up (length s) a + y))
unfolding hex_from up
hex-up [] a b = refl
hex-up (c ∷ s) a b = elim (test (ltb (digit_of c) 16)) [
  | inl t ↦ let e : (a + b) * 16 + digit_of c ≡ a * 16 + (b * 16 + digit_of c) = omega arith in rw (t, e) (hex-up s (a * 16) (b * 16 + digit_of c))
  | inr t ↦ rw t
]

module _ (f : List ℕ) (i j v : ℕ) (e : hex_of f ≡ hex_from v (drop i f)) (h : i ≤ j) (l : j ≤ length f) (s : List ℕ) (g : s ≡ take (j - i) (drop i f)) (r : answer.Option ℕ)
    (w : number_in r ≡ hex_of s) where
  parts : hex_of f ≡ with_value (hex_from v s) (λ x. hex_from x (drop j f))
  parts =
      let q : i + (j - i) ≡ j = omega arith in
      let d : drop (j - i) (drop i f) ≡ drop j f = rw (drop-drop, q) in
      e ∙ hex-part (j - i) v (drop i f) (omega (arith, length-drop i f)) ∙ rw (g, d)

  shifted : hex_from v s ≡ with_value (hex_of s) (λ y. some (up (length s) v + y))
  shifted = let z : v + 0 ≡ v = omega arith in rw z at (hex-up s v 0)

  long : length s ≡ j - i
  long = ap length g ∙ length-take-le (j - i) (drop i f) (omega (arith, length-drop i f))

  part-none : r ≡ None → none ≡ hex_of f
  part-none d = let u : hex_of s ≡ none = sym w ∙ ap number_in d in sym (parts ∙ rw (shifted, u))

  part-some : (x : ℕ) → r ≡ Some x → hex_of f ≡ hex_from (up (j - i) v + x) (drop j f)
  part-some x d = let u : hex_of s ≡ some x = sym w ∙ ap number_in d in parts ∙ rw (shifted, u, long)

  part-nought : (x : ℕ) → r ≡ Some x → j ≡ 0 → x ≡ 0
  part-nought x d z =
      let k : j - i ≡ 0 = omega arith in
      let u : some x ≡ hex_of (take 0 (drop i f)) = sym (ap number_in d) ∙ w ∙ ap hex_of g ∙ ap (λ (m : ℕ). hex_of (take m (drop i f))) k in
      let t : some x ≡ some 0 = u ∙ hex-end 0 in
      cc

-- ---- words

-- the digits of f up to index i write v; none was there, if that is its start
pub record Upto (f : List ℕ) (i v : ℕ) : Type 0 where
  pub is : hex_of f ≡ hex_from v (drop i f)
  pub low : i ≡ 0 → v ≡ 0

pub upto_none : (f : List ℕ) → Upto f 0 0
upto_none f = record { is = refl; low = λ z. refl }

-- what is left of m digits in front of the last 16 is nothing, or the last are 16
pub cut : (m i : ℕ) → i ≡ m - 16 → (m - i ≡ 16) ⊎ (i ≡ 0)
cut m i e = elim (test (ltb m 16)) [
  | inl t ↦ inr (omega (arith, ltb-true m 16 t))
  | inr t ↦ inl (omega (arith, ltb-false m 16 t))
]

widened : (k v x : ℕ) {i : ℕ} → (k ≡ 16) ⊎ (i ≡ 0) → (i ≡ 0 → v ≡ 0) → up k v + x ≡ v * 2 ^ 64 + x
widened k v x (inl e) l = rw (e, up-word v)
widened k v x (inr z) l = rw (l z, up-nought k)

module _ {f : List ℕ} {i v : ℕ} (u : Upto f i v) (j : ℕ) (h : i ≤ j) (l : j ≤ length f) (c : (j - i ≡ 16) ⊎ (i ≡ 0)) {s : List ℕ} (g : s ≡ take (j - i) (drop i f)) {r : answer.Option ℕ}
    (w : number_in r ≡ hex_of s) where
  pub word-none : r ≡ None → none ≡ hex_of f
  word-none d = part-none f i j v u.is h l s g r w d

  pub word-some : {x : ℕ} → r ≡ Some x → Upto f j (v * 2 ^ 64 + x)
  word-some {x} d = record {
    is = part-some f i j v u.is h l s g r w x d ∙ ap (λ (n : ℕ). hex_from n (drop j f)) (widened (j - i) v x c u.low);
    low = λ z.
        let y : v ≡ 0 = u.low (omega arith) in
        let t : x ≡ 0 = part-nought f i j v u.is h l s g r w x d z in
        omega arith;
  }

pub words-are : {f : List ℕ} {i : ℕ} (x₃ x₂ x₁ x₀ : ℕ) → length f ≤ i → Upto f i ((((0 * 2 ^ 64 + x₃) * 2 ^ 64 + x₂) * 2 ^ 64 + x₁) * 2 ^ 64 + x₀)
    → some (quad_number (record { w3 = x₃; w2 = x₂; w1 = x₁; w0 = x₀ })) ≡ hex_of f
unfolding four
words-are {f} {i} x₃ x₂ x₁ x₀ h u =
    let q : quad_number (record { w3 = x₃; w2 = x₂; w1 = x₁; w0 = x₀ }) ≡ (((0 * 2 ^ 64 + x₃) * 2 ^ 64 + x₂) * 2 ^ 64 + x₁) * 2 ^ 64 + x₀ = quad_four _ ∙ omega arith in
    rw q (sym (u.is ∙ rw (drop_of_length-le f h) (hex-end _)))

-- ---- what is read as a hash: at most 64 digits, none behind a leading zero

-- fewer digits than the limit has are read without it
within : (cs : List ℕ) (a : ℕ) → 0 < a → up (length cs) (a + 1) ≤ top → further 16 top a cs ≡ hex_from a cs
unfolding up
within [] a o h = further_end 16 top a ∙ sym (hex-end a)
within (c ∷ cs) a o h = elim (test (ltb (digit_of c) 16)) [
  | inl t ↦
      let d = ltb-true (digit_of c) 16 t in
      let m : up (length cs) (a * 16 + digit_of c + 1) ≤ top = omega (arith, h, up-more (length cs) (a * 16 + digit_of c + 1) ((a + 1) * 16) (omega arith)) in
      further_step 16 top a c cs (follows-yes 16 top a c o d (omega (arith, m, up-least (length cs) (a * 16 + digit_of c + 1))))
      ∙ within cs (a * 16 + digit_of c) (omega arith) m ∙ sym (hex-step a c cs d)
  | inr t ↦ further_stop 16 top a c cs (no-digit (ltb 0 a) _ _ (le-ltb (digit_of c) 16 (ltb-false (digit_of c) 16 t))) ∙ sym (hex-stop a c cs (ltb-false (digit_of c) 16 t))
]
  where
    no-digit : (p : Bool) (q s : Bool) → q ≡ false → (p && (q && s)) ≡ false
    no-digit true q s e = rw e
    no-digit false q s e = refl

-- more are not read
beyond : (cs : List ℕ) (a : ℕ) → a < top → top ≤ up (length cs) a → further 16 top a cs ≡ none
unfolding up
beyond [] a l h = absurd (omega arith)
beyond (c ∷ cs) a l h = elim (test (follows 16 top a c)) [
  | inl t ↦
      let p = follows-parts 16 top a c t in
      further_step 16 top a c cs t ∙ beyond cs (a * 16 + digit_of c) p.2 (omega (arith, h, up-more (length cs) (a * 16) (a * 16 + digit_of c) (omega arith)))
  | inr t ↦ further_stop 16 top a c cs t
]

zero-digit : (c : ℕ) → digit_of c ≡ 0 → c ≡ 48
unfolding digit_of
zero-digit c e = by (leb 48 c && leb c 57) (leb 97 c && leb c 102) refl refl e
  where
    by : (p q : Bool) → (leb 48 c && leb c 57) ≡ p → (leb 97 c && leb c 102) ≡ q → (if p then c - 48 else if q then c - 87 else 16) ≡ 0 → c ≡ 48
    by true q t u g = let l = leb-true 48 c (and_left (leb 48 c) (leb c 57) t) in omega arith
    by false true t u g = let l = leb-true 97 c (and_left (leb 97 c) (leb c 102) u) in absurd (omega arith)
    by false false t u g = absurd (omega arith)

-- nothing follows a zero
zero-ends : (cs : List ℕ) → 0 < length cs → further 16 top 0 cs ≡ none
zero-ends [] h = absurd (omega arith)
zero-ends (c ∷ cs) h = further_stop 16 top 0 c cs refl

nought : digit_of 48 < 16
unfolding digit_of
nought = lit< tt

up-most : (k a : ℕ) → a ≤ 16 → up k a ≤ up (suc k) 1
unfolding up
up-most k a l = up-more k a 16 l

sixteen-below : 16 ≤ top
unfolding top
sixteen-below = lit≤ tt

module _ {f cs : List ℕ} {c : ℕ} (g : f ≡ c ∷ cs) where
  pub hash-long : 64 < length f → none ≡ hash_of f
  hash-long h = elim (test (ltb (digit_of c) 16)) [
    | inl t ↦ let d = ltb-true (digit_of c) 16 t in
        elim (test (ltb 0 (digit_of c))) [
          | inl o ↦
              let k = ltb-true 0 (digit_of c) o in
              let m : top ≤ up (length cs) (digit_of c) = omega (arith, up-further 64 (length cs) (omega (arith, ap length g)), up-top, up-more (length cs) 1 (digit_of c) k) in
              rw g (sym (numeral_of_first 16 top c cs d ∙ beyond cs (digit_of c) (omega (arith, sixteen-below)) m))
          | inr o ↦
              let z : digit_of c ≡ 0 = omega (arith, ltb-false 0 (digit_of c) o) in
              rw g (sym (numeral_of_first 16 top c cs d ∙ rw z (zero-ends cs (omega (arith, ap length g)))))
        ]
    | inr t ↦ rw g (sym (numeral_of_not 16 top c cs (ltb-false (digit_of c) 16 t)))
  ]

  pub hash-zero : c ≡ 48 → 0 < length cs → none ≡ hash_of f
  unfolding digit_of
  hash-zero e h = rw (g, e) (sym (numeral_of_first 16 top 48 cs nought ∙ zero-ends cs h))

  pub hash-words : length f ≤ 64 → (c ≡ 48 → length cs ≡ 0) → hex_of f ≡ hash_of f
  hash-words h n = elim (test (ltb (digit_of c) 16)) [
    | inl t ↦ let d = ltb-true (digit_of c) 16 t in
        elim (test (ltb 0 (digit_of c))) [
          | inl o ↦
              let k = ltb-true 0 (digit_of c) o in
              let l : length f ≡ suc (length cs) = ap length g in
              let m : up (length cs) (digit_of c + 1) ≤ top = omega (arith, up-most (length cs) (digit_of c + 1) (omega arith), up-further (suc (length cs)) 64 (omega arith), up-top) in
              let w : 0 * 16 + digit_of c ≡ digit_of c = omega arith in
              rw g (hex-step 0 c cs d ∙ ap (λ (n : ℕ). hex_from n cs) w ∙ sym (numeral_of_first 16 top c cs d ∙ within cs (digit_of c) k m))
          | inr o ↦
              let z : digit_of c ≡ 0 = omega (arith, ltb-false 0 (digit_of c) o) in
              let y : cs ≡ [] = empty cs (n (zero-digit c z)) in
              let w : 0 * 16 + digit_of c ≡ 0 = omega arith in
              rw (g, y) (hex-step 0 c [] d ∙ ap (λ (n : ℕ). hex_from n []) w ∙ hex-end 0 ∙ sym (numeral_of_first 16 top c [] d ∙ rw z (further_end 16 top 0)))
        ]
    | inr t ↦ let b = ltb-false (digit_of c) 16 t in rw g (hex-stop 0 c cs b ∙ sym (numeral_of_not 16 top c cs b))
  ]
    where
      empty : (s : List ℕ) → length s ≡ 0 → s ≡ []
      empty [] e = refl
      empty (a ∷ s) e = absurd (omega arith)

-- the test for a zero that something follows
module _ (c n : ℕ) {b : Bool} (e : b ≡ eqb n 0) where
  pub led : (eqb c 48 && not b) ≡ true → (c ≡ 48) × (0 < n)
  led t = (eqb-true c 48 (and_left (eqb c 48) (not b) t), pos_of_ne-zero (eqb-false n 0 (sym e ∙ not-true b (and_right (eqb c 48) (not b) t))))

  pub not_led : (eqb c 48 && not b) ≡ false → c ≡ 48 → n ≡ 0
  not_led t z = let u : (true && not b) ≡ false = rw (eq-eqb c 48 z) at t in eqb-true n 0 (sym e ∙ not-false b u)
