-- The count in front of a payload: its bytes, and what a payload that begins with it holds.
use Prim.Native.Nat.{ℕ, ◌+◌, ◌*◌, ◌^◌, ◌≤◌, ◌<◌}
use mathlib.Core.Path.{◌≡◌, refl, ◌∙◌}
use mathlib.Core.Logic.{inl, inr}
use mathlib.Core.Bool.{Bool, ◌&&◌}
use mathlib.Core.List.{List, [], ◌∷◌}
use mathlib.Core.Option.{none, some}
use native.Mathlib.Omega.{arith}
use lib.Dec.{ltb, leb, eqb}
use lib.ListN.{length, take, drop, get_or, length-drop}
use borrow.Author.Tests.{ltb-true, ltb-false, eqb-true, eqb-false, lt-ltb, le-ltb, le-leb, lt-leb, eq-eqb, ne_eqb}
use Rattle.std.specs.Prelude.{if◌then◌else◌}
use Rattle.words.specs.Words.{number, digits, recs}
use Rattle.words.proofs.Digits.{length_digits}
use Rattle.machine.proofs.Tests.{test, and_right}
use Rattle.wire.specs.Payload.{max_items, wire_bytes, compact_size, wire_item, items_after, items_of}
use Rattle.wire.specs.Steps.{Begins, Holds}

-- ---- a count's bytes

pub size_one : (n : ℕ) → n < 253 → compact_size n ≡ n ∷ []
unfolding compact_size
size_one n h = rw (lt-ltb n 253 h)

pub size-three : (n : ℕ) → 253 ≤ n → n < 2 ^ 16 → compact_size n ≡ 253 ∷ digits 256 2 n
unfolding compact_size
size-three n h l = rw (le-ltb n 253 h, lt-ltb n (2 ^ 16) l)

pub length_one : (n : ℕ) → n < 253 → length (compact_size n) ≡ 1
length_one n h = rw (size_one n h)

pub length_three : (n : ℕ) → 253 ≤ n → n < 2 ^ 16 → length (compact_size n) ≡ 3
length_three n h l = rw (size-three n h l, length_digits 256 2 n)

pub few_bytes : (n : ℕ) → n ≤ max_items → length (compact_size n) ≤ 3
few_bytes n h =
    elim (test (ltb n 253)) [
      | inl e ↦ omega (arith, length_one n (ltb-true n 253 e))
      | inr e ↦ omega (arith, length_three n (ltb-false n 253 e) (omega arith))
    ]

-- a longer count is above 50,000
long-count : (n : ℕ) → 3 < length (compact_size n) → 2 ^ 16 ≤ n
long-count n h =
    elim (test (ltb n (2 ^ 16))) [
      | inl e ↦ elim (test (ltb n 253)) [
        | inl f ↦ absurd (omega (arith, length_one n (ltb-true n 253 f)))
        | inr f ↦ absurd (omega (arith, length_three n (ltb-false n 253 f) (ltb-true n (2 ^ 16) e)))
      ]
      | inr e ↦ ltb-false n (2 ^ 16) e
    ]

-- ---- what stands behind a count

pub after_some : (n : ℕ) (b : List ℕ) → n ≤ max_items → length b ≡ wire_bytes * n → items_after n b ≡ some (recs wire_bytes wire_item n b)
after_some n b h l = rw (le-leb n max_items h, eq-eqb (length b) (wire_bytes * n) l)

after-many : (n : ℕ) (b : List ℕ) → max_items < n → items_after n b ≡ none
after-many n b h = rw (lt-leb n max_items h)

after_other : (n : ℕ) (b : List ℕ) → (length b ≡ wire_bytes * n → ⊥) → items_after n b ≡ none
after_other n b h = rw (ne_eqb (length b) (wire_bytes * n) h) (elim (test (leb n max_items)) [ inl e ↦ rw e | inr e ↦ rw e ])

-- ---- a payload by its first byte

pub none_empty : (b : List ℕ) → length b ≡ 0 → items_of b ≡ none
unfolding items_of
none_empty [] e = refl
none_empty (c ∷ b) e = absurd (omega arith)

pub items_one : (c : ℕ) (b : List ℕ) → c < 253 → items_of (c ∷ b) ≡ items_after c b
unfolding items_of
items_one c b l = rw (lt-ltb c 253 l, le-leb 0 (length b) (omega arith), size_one c l)

pub items-three : (b : List ℕ) → 2 ≤ length b → 253 ≤ number 256 (take 2 b) → number 256 (take 2 b) < 2 ^ 16 → items_of (253 ∷ b) ≡ items_after (number 256 (take 2 b)) (drop 2 b)
unfolding items_of
items-three b h l m = rw (le-leb 2 (length b) h, length_three (number 256 (take 2 b)) l m)

pub none_cut : (b : List ℕ) → length b < 2 → items_of (253 ∷ b) ≡ none
unfolding items_of
none_cut b h = rw (lt-leb 2 (length b) h)

pub none_low : (b : List ℕ) → 2 ≤ length b → number 256 (take 2 b) < 253 → items_of (253 ∷ b) ≡ none
unfolding items_of
none_low b h l = rw (le-leb 2 (length b) h, length_one (number 256 (take 2 b)) l)

none_above_lem : (k v : ℕ) (t : Bool) (b : List ℕ) → 4 ≤ k → (if t && eqb (length (compact_size v)) (k + 1) then items_after v b else none) ≡ none
none_above_lem k v t b h =
    elim (test (t && eqb (length (compact_size v)) (k + 1))) [
      | inl e ↦ rw e (after-many v b (omega (arith, long-count v (omega (arith, eqb-true (length (compact_size v)) (k + 1) (and_right t (eqb (length (compact_size v)) (k + 1)) e))))))
      | inr e ↦ rw e
    ]

pub none_long : (c : ℕ) (b : List ℕ) → 253 < c → items_of (c ∷ b) ≡ none
unfolding items_of
none_long c b h =
    rw (le-ltb c 253 (omega arith), ne_eqb c 253 (λ e. omega arith))
    (elim (test (eqb c 254)) [
      | inl e ↦ rw e (none_above_lem 4 (number 256 (take 4 b)) (leb 4 (length b)) (drop 4 b) (omega arith))
      | inr e ↦ rw e (none_above_lem 8 (number 256 (take 8 b)) (leb 8 (length b)) (drop 8 b) (omega arith))
    ])

-- ---- the same, as the code looks at it

two_bytes : (b : List ℕ) → 2 ≤ length b → number 256 (take 2 b) ≡ get_or b 0 0 + get_or b 1 0 * 256
unfolding number
two_bytes [] h = absurd (omega arith)
two_bytes (x ∷ []) h = absurd (omega arith)
two_bytes (x ∷ y ∷ b) h = omega arith

pub begins_one : (b : List ℕ) {c : ℕ} → 0 < length b → c ≡ get_or b 0 0 → c < 253 → Begins b c 1
begins_one [] h e l = absurd (omega arith)
begins_one (x ∷ b) h e l = record { start = omega arith; inside = omega arith; items = rw e (items_one x b (omega arith)) }

pub long_first : (b : List ℕ) {c : ℕ} → 0 < length b → c ≡ get_or b 0 0 → 253 < c → items_of b ≡ none
long_first [] h e l = absurd (omega arith)
long_first (x ∷ b) h e l = none_long x b (omega arith)

pub cut-count : (b : List ℕ) → 0 < length b → get_or b 0 0 ≡ 253 → length b < 3 → items_of b ≡ none
cut-count [] h e l = absurd (omega arith)
cut-count (x ∷ b) h e l = rw e (none_cut b (omega arith))

-- a first byte from 253 on, and fewer than two behind it
pub none-short : (b : List ℕ) → 0 < length b → 253 ≤ get_or b 0 0 → length b < 3 → items_of b ≡ none
none-short b h g l =
    elim (test (eqb (get_or b 0 0) 253)) [
      | inl e ↦ cut-count b h (eqb-true (get_or b 0 0) 253 e) l
      | inr e ↦ long_first b h refl (omega (arith, eqb-false (get_or b 0 0) 253 e))
    ]

pub low_count : (b : List ℕ) → 3 ≤ length b → get_or b 0 0 ≡ 253 → get_or b 1 0 + get_or b 2 0 * 256 < 253 → items_of b ≡ none
low_count [] h e l = absurd (omega arith)
low_count (x ∷ b) h e l = rw e (none_low b (omega arith) (omega (arith, two_bytes b (omega arith))))

pub begins-three : (b : List ℕ) {n : ℕ} → 3 ≤ length b → get_or b 0 0 ≡ 253 → n ≡ get_or b 1 0 + get_or b 2 0 * 256 → 253 ≤ n → n < 2 ^ 16 → Begins b n 3
begins-three [] h e q l m = absurd (omega arith)
begins-three (x ∷ b) {n} h e q l m =
    let v : number 256 (take 2 b) ≡ n = omega (arith, two_bytes b (omega arith)) in
    record { start = omega arith; inside = omega arith; items = rw e (rw v at (items-three b (omega arith) (omega arith) (omega arith))) }

-- ---- does the count match

pub matches : {b : List ℕ} {n a : ℕ} → Begins b n a → n ≤ max_items → length b ≡ a + n * wire_bytes → Holds b n a
matches {b} {n} {a} g h l =
    let d : length (drop a b) ≡ wire_bytes * n = simp length-drop (omega arith) in
    record { few = h; start = g.start; whole = omega arith; items = g.items ∙ after_some n (drop a b) h d }

pub too_many : {b : List ℕ} {n a : ℕ} → Begins b n a → max_items < n → items_of b ≡ none
too_many {b} {n} {a} g h = g.items ∙ after-many n (drop a b) h

pub unmatched : {b : List ℕ} {n a : ℕ} → Begins b n a → (length b ≡ a + n * wire_bytes → ⊥) → items_of b ≡ none
unmatched {b} {n} {a} g h = g.items ∙ after_other n (drop a b) (λ e. let d = length-drop a b in h (omega (arith, g.inside)))
