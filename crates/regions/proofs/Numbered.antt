-- Where rows begin by a number for a kind.
use Prim.Native.Nat.{ℕ, zero, suc, ◌+◌, ◌*◌, ◌^◌, ◌≤◌, ◌<◌, min}
use mathlib.Core.Path.{◌≡◌, refl, sym, ap, ◌∙◌}
use mathlib.Core.Logic.{inl, inr}
use mathlib.Core.List.{List, [], ◌∷◌}
use native.Mathlib.Nat.{mul_comm, mul-suc, mul-le-mul_left, mul-le-mul_right}
use native.Mathlib.Omega.{arith}
use lib.Dec.{lit<, ltb}
use lib.ListN.{length, get_or, take, drop}
use lib.Seq.{get_or-drop, get_or-take}
use borrow.Author.Tests.{ltb-true, ltb-false, lt-ltb, le-ltb}
use Rattle.std.proofs.Math.Nat.{min-eq_left, min-eq_right, min-le_left}
use Rattle.ident.specs.declared.Kind.{Kind}
use Rattle.ident.specs.declared.Kind.TheVariants.{Txid, Wtxid}
use Rattle.ident.specs.Number.{top, kind_is, kind_number}
use Rattle.words.specs.Words.{number, recs, words}
use Rattle.words.proofs.Digits.{number_append, number_below}
use Rattle.words.proofs.Words.{word_sum}
use Rattle.words.proofs.Records.{length-recs, recs_at}
use Rattle.regions.specs.declared.Quad.{Quad}
use Rattle.regions.specs.declared.Key.{Key}
use Rattle.regions.specs.Numbered.{numbered}
use Rattle.regions.specs.Order.{Bound, Sought}
use Rattle.regions.specs.Rows.{quad_words, quad_number, key_number, row_size, row_key, read_row, key_of}
use Rattle.regions.proofs.Order.{Small, test}

-- a hash is below 2^256, and a number above it counts so many of these
fits : (q : Quad) → Small q → (i : ℕ) → i < 4 → get_or (quad_words q) i 0 < 2 ^ 64
fits q s zero h = s.w0
fits q s (suc zero) h = s.w1
fits q s (suc (suc zero)) h = s.w2
fits q s (suc (suc (suc zero))) h = s.w3
fits q s (suc (suc (suc (suc i)))) h = absurd (omega arith)

pub quad_below : (q : Quad) → Small q → quad_number q < top
unfolding quad_number top
quad_below q s = number_below (2 ^ 64) (quad_words q) (λ i h. fits q s i h)

numbered_above : (n : ℕ) (q : Quad) → numbered n q ≡ quad_number q + top * n
unfolding numbered quad_number number top
numbered_above n q = number_append (2 ^ 64) (quad_words q) (n ∷ []) ∙ ap (λ (m : ℕ). number (2 ^ 64) (quad_words q) + 2 ^ 256 * m) (omega arith)

key_numbered : (k : Key) → key_number k ≡ numbered (kind_number k.kind) k.hash
unfolding key_number numbered
key_numbered k = refl

-- ---- of two numbers

numbered_less : (m n : ℕ) (p q : Quad) → Small p → m < n → numbered m p < numbered n q
numbered_less m n p q s h =
    let l : top * suc m ≤ top * n = mul-le-mul_left top h in
    omega (arith, l, mul-suc top m, quad_below p s, numbered_above m p, numbered_above n q)

pub apart_numbered : (m n : ℕ) (p q : Quad) → Small p → Small q → (m ≡ n → ⊥) → ltb m n ≡ ltb (numbered m p) (numbered n q)
apart_numbered m n p q s t d = elim (test (ltb m n)) [
  | inl e ↦ e ∙ sym (lt-ltb (numbered m p) (numbered n q) (numbered_less m n p q s (ltb-true m n e)))
  | inr e ↦
      let l = numbered_less n m q p t (omega (arith, ltb-false m n e, d)) in
      e ∙ sym (le-ltb (numbered m p) (numbered n q) (omega (arith, l)))
]

pub same_numbered : (m n : ℕ) (p q : Quad) → m ≡ n → ltb (quad_number p) (quad_number q) ≡ ltb (numbered m p) (numbered n q)
same_numbered m n p q d = elim (test (ltb (quad_number p) (quad_number q))) [
  | inl e ↦ e ∙ sym (lt-ltb (numbered m p) (numbered n q) (rw d (omega (arith, ltb-true (quad_number p) (quad_number q) e, numbered_above n p, numbered_above n q))))
  | inr e ↦ e ∙ sym (le-ltb (numbered m p) (numbered n q) (rw d (omega (arith, ltb-false (quad_number p) (quad_number q) e, numbered_above n p, numbered_above n q))))
]

-- ---- of a kind's number

-- the key of a kind's number has that number
pub key_of_number : (n : ℕ) (q : Quad) → n ≤ 1 → key_number (record { kind = kind_is n; hash = q }) ≡ numbered n q
key_of_number zero q h = key_numbered (record { kind = Txid; hash = q })
key_of_number (suc zero) q h = key_numbered (record { kind = Wtxid; hash = q })
key_of_number (suc (suc n)) q h = absurd (omega arith)

pub below_two : (n : ℕ) (q : Quad) → Small q → n ≤ 1 → numbered n q < 2 * top
below_two zero q s h = let b = quad_below q s in omega (arith, b, numbered_above 0 q)
below_two (suc zero) q s h = let b = quad_below q s in omega (arith, b, numbered_above 1 q)
below_two (suc (suc n)) q s h = absurd (omega arith)

hash_kind_below : (n : Kind) (q : Quad) → Small q → numbered (kind_number n) q < 2 * top
hash_kind_below Txid q s = below_two 0 q s (omega arith)
hash_kind_below Wtxid q s = below_two 1 q s (omega arith)

pub key_below : (k : Key) → Small k.hash → key_number k < 2 * top
key_below k s = rw (key_numbered k) (hash_kind_below k.kind k.hash s)

-- ---- of a greater number

above_two : (n : ℕ) (q : Quad) → 1 < n → 2 * top ≤ numbered n q
above_two n q h = let m : 2 * top ≤ n * top = mul-le-mul_right top h in rw (numbered_above n q, mul_comm top n) (omega (arith, m))

last_number : key_number (record { kind = Wtxid; hash = record { w3 = 18446744073709551615; w2 = 18446744073709551615; w1 = 18446744073709551615; w0 = 18446744073709551615 } }) + 1 ≡ 2 * top
unfolding key_number number top
last_number = refl

pub behind_all : {n : ℕ} (q : Quad) → 2 ≤ n → (m : ℕ) → numbered n q ≤ m
    → key_number (record { kind = Wtxid; hash = record { w3 = 18446744073709551615; w2 = 18446744073709551615; w1 = 18446744073709551615; w0 = 18446744073709551615 } }) + 1 ≡ min m (2 * top)
behind_all {n} q h m l = last_number ∙ sym (min-eq_right (omega (arith, above_two n q (omega arith), l)))

-- ---- what a search then gives

-- no key is as great as that, so the place that it gives is that of the number itself
pub bound_numbered : {ks : List ℕ} {x r : ℕ} → ((i : ℕ) → i < length ks → get_or ks i 0 < 2 * top) → Bound ks (min x (2 * top)) r → Bound ks x r
bound_numbered {ks} {x} {r} f b = record {
  most = b.most;
  below = λ k h. omega (arith, b.below k h, min-le_left x (2 * top));
  above = λ k h l. above (get_or ks k 0) (f k l) (b.above k h l);
}
  where
    above : (y : ℕ) → y < 2 * top → min x (2 * top) ≤ y → x ≤ y
    above y l h = elim (test (ltb (2 * top) x)) [
      | inl t ↦ absurd (omega (arith, ltb-true (2 * top) x t, rw (min-eq_right {n = 2 * top} {m = x} (omega (arith, ltb-true (2 * top) x t))) at h, l))
      | inr t ↦ rw (min-eq_left {n = x} {m = 2 * top} (ltb-false (2 * top) x t)) at h
    ]

pub sought_numbered : {ks : List ℕ} {n x r : ℕ} → ((i : ℕ) → i < length ks → get_or ks i 0 < 2 * top) → Sought ks n (min x (2 * top)) r → Sought ks n x r
sought_numbered f s = record { most = s.most; bound = λ o. bound_numbered f (s.bound o) }

-- and a key stands before it exactly if it stands before the number
pub short_numbered : (y x : ℕ) → y < 2 * top → ltb y (min x (2 * top)) ≡ ltb y x
short_numbered y x h = elim (test (ltb (2 * top) x)) [
  | inl t ↦ let g = ltb-true (2 * top) x t in rw (min-eq_right {n = 2 * top} {m = x} (omega arith)) (lt-ltb y (2 * top) h ∙ sym (lt-ltb y x (omega arith)))
  | inr t ↦ rw (min-eq_left {n = x} {m = 2 * top} (ltb-false (2 * top) x t)) refl
]

-- the keys of rows that bytes hold are such
module _ (s : List ℕ) (f : (i : ℕ) → i < length s → get_or s i 0 < 256) where
  word_fits : (j : ℕ) → 8 * j + 8 ≤ length s → get_or (words s) j 0 < 2 ^ 64
  word_fits j h =
      let at : (m : ℕ) → m < 8 → get_or s (j * 8 + m) 0 < 256 = λ m l. f (j * 8 + m) (omega arith) in
      omega (arith, word_sum s j h, f (j * 8) (omega arith), at 1 (lit< tt), at 2 (lit< tt), at 3 (lit< tt), at 4 (lit< tt), at 5 (lit< tt), at 6 (lit< tt), at 7 (lit< tt))

  module _ (n : ℕ) (room : 8 * (row_size * n) ≤ length s) where
    part_fits : (i j : ℕ) → i < n → j < row_size → get_or (take row_size (drop (row_size * i) (words s))) j 0 < 2 ^ 64
    part_fits i j h l =
        rw (get_or-take row_size (drop (row_size * i) (words s)) j 0 l, get_or-drop (row_size * i) (words s) j 0) (word_fits (row_size * i + j) (omega (arith, room, h, l)))

    pub row-keys_below : (i : ℕ) → i < n → get_or (recs row_size row_key n (words s)) i 0 < 2 * top
    unfolding read_row
    row-keys_below i h =
        rw (recs_at row_size row_key n (words s) i 0 h)
        (key_below (key_of (read_row (take row_size (drop (row_size * i) (words s)))))
        (record { w0 = part_fits i 0 h (lit< tt); w1 = part_fits i 1 h (lit< tt); w2 = part_fits i 2 h (lit< tt); w3 = part_fits i 3 h (lit< tt) }))

    -- so that `seek_row` from where `start_at` says finds the place of any number
    pub rows-sought : {x r : ℕ} → Sought (recs row_size row_key n (words s)) n (min x (2 * top)) r → Sought (recs row_size row_key n (words s)) n x r
    rows-sought = sought_numbered (λ i h. row-keys_below i (rw (length-recs row_size row_key n (words s)) at h))
