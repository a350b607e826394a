-- Entries in bytes: those at the front, and a part of them.
use Prim.Native.Nat.{ℕ, zero, suc, ◌+◌, ◌*◌, ◌-◌, ◌/◌, ◌%◌, ◌≤◌}
use mathlib.Core.Path.{◌≡◌, refl, sym, ap, ◌∙◌}
use mathlib.Core.Bool.{not}
use mathlib.Core.List.{List, [], ◌∷◌, ◌++◌}
use native.Mathlib.Omega.{arith}
use lib.Dec.{eqb}
use lib.ListN.{length, take, drop, get_or, length-append}
use lib.Seq.{take-add, take-take, take_at, drop_at, length-take-le}
use Rattle.ident.specs.Number.{item_kind_of}
use Rattle.words.specs.Words.{number, words}
use Rattle.words.proofs.Words.{word_at}
use Rattle.machine.specs.State.{Entry}
use Rattle.machine.specs.Call.{entry_bytes}
use Rattle.store.specs.Gather.{kind_is}
use Rattle.claiming.specs.Claiming.{entry_from, entries_from, entries_in}

-- ---- a window of the front

window : (n m k : ℕ) (u : List ℕ) → m + n ≤ k → m ≤ length u → take n (drop m (take k u)) ≡ take n (drop m u)
window n m k u h l =
    let e : k ≡ m + (k - m) = omega arith in
    ap (λ (j : ℕ). take n (drop m (take j u))) e ∙ ap (λ (x : List ℕ). take n (drop m x)) (take-add m (k - m) u)
    ∙ ap (take n) (drop_at (take m u) (take (k - m) (drop m u)) m (length-take-le m u l)) ∙ take-take n (k - m) (drop m u) (omega arith)

module _ (u : List ℕ) (k : ℕ) (inside : k ≤ length u) where
  word_front : (j : ℕ) → 8 * j + 8 ≤ k → get_or (words (take k u)) j 0 ≡ get_or (words u) j 0
  word_front j h =
      word_at (take k u) j (omega (arith, length-take-le k u inside)) ∙ ap (number 256) (window 8 (8 * j) k u h (omega arith)) ∙ sym (word_at u j (omega arith))

  hash_front : (w : ℕ) → w * 8 + 32 ≤ k → number 256 (take 32 (drop (w * 8) (take k u))) ≡ number 256 (take 32 (drop (w * 8) u))
  hash_front w h = ap (number 256) (window 32 (w * 8) k u h (omega arith))

  entry_front : (i : ℕ) → entry_bytes * i + entry_bytes ≤ k → entry_from (take k u) i ≡ entry_from u i
  unfolding entry_from
  entry_front i h =
      let kind = ap kind_is (word_front (i * 14) (omega arith)) in
      let hash = hash_front (i * 14 + 1) (omega arith) in
      let connection = word_front (i * 14 + 5) (omega arith) in
      let type = ap (λ (x : ℕ). item_kind_of (x % 4294967296)) (word_front (i * 14 + 6) (omega arith)) in
      let item = hash_front (i * 14 + 6 + 1) (omega arith) in
      let ready = word_front (i * 14 + 11) (omega arith) in
      let preferred = ap (λ (x : ℕ). not (eqb x 0)) (word_front (i * 14 + 12) (omega arith)) in
      let priority = word_front (i * 14 + 13) (omega arith) in
      λ j. record {
        key = record { kind = kind j; hash = hash j };
        candidate = record { connection = connection j; item = record { kind = type j; hash = item j }; ready = ready j; preferred = preferred j; priority = priority j };
      }

  entries_front : (n i : ℕ) → entry_bytes * (i + n) ≤ k → entries_from (take k u) i n ≡ entries_from u i n
  unfolding entries_from
  entries_front zero i h = refl
  entries_front (suc n) i h = λ j. entry_front i (omega arith) j ∷ entries_front n (i + 1) (omega arith) j

-- the first n entries, and those that so many bytes hold
pub entries-of : (u : List ℕ) (n : ℕ) → n * entry_bytes ≤ length u → entries_in (take (n * entry_bytes) u) ≡ entries_from u 0 n
entries-of u n h =
    let l : length (take (n * entry_bytes) u) ≡ n * entry_bytes = length-take-le (n * entry_bytes) u h in
    let e : length (take (n * entry_bytes) u) / entry_bytes ≡ n = omega (arith, l) in
    ap (entries_from (take (n * entry_bytes) u) 0) e ∙ entries_front u (n * entry_bytes) h n 0 (omega arith)

none_of : (b : List ℕ) (i : ℕ) → ◌≡◌ {A = List Entry} [] (entries_from b i 0)
unfolding entries_from
none_of b i = refl

first_of : (b : List ℕ) (n m i : ℕ) → take n (entries_from b (i + 1) m) ≡ entries_from b (i + 1 + 0) n → take (suc n) (entries_from b i (suc m)) ≡ entries_from b (i + 0) (suc n)
unfolding entries_from
first_of b n m i e =
    let z : i + 0 ≡ i = omega arith in
    let s : i + 1 + 0 ≡ i + 1 = omega arith in
    ap (λ (l : List Entry). entry_from b i ∷ l) (e ∙ ap (λ (j : ℕ). entries_from b j n) s) ∙ ap (λ (j : ℕ). entry_from b j ∷ entries_from b (j + 1) n) (sym z)

past_first : (b : List ℕ) (first n m i : ℕ) → take n (drop (suc first) (entries_from b i (suc m))) ≡ take n (drop first (entries_from b (i + 1) m))
unfolding entries_from
past_first b first n m i = refl

-- a part of them
pub entries_part : (b : List ℕ) (first n m i : ℕ) → first + n ≤ m → take n (drop first (entries_from b i m)) ≡ entries_from b (i + first) n
entries_part b zero zero m i h = none_of b (i + 0)
entries_part b zero (suc n) zero i h = absurd (omega (arith, h))
entries_part b zero (suc n) (suc m) i h = first_of b n m i (entries_part b zero n m (i + 1) (omega (arith, h)))
entries_part b (suc first) n zero i h = absurd (omega (arith, h))
entries_part b (suc first) n (suc m) i h =
    let e : i + 1 + first ≡ i + suc first = omega arith in
    past_first b first n m i ∙ entries_part b first n m (i + 1) (omega (arith, h)) ∙ ap (λ (j : ℕ). entries_from b j n) e

-- ---- a list that is kept

-- what was copied to the front of a list's bytes
pub copied : (b u : List ℕ) (n : ℕ) {v : List ℕ} → n * entry_bytes ≤ length u → v ≡ take (n * entry_bytes) u → entries_from (v ++ b) 0 n ≡ entries_from u 0 n
copied b u n {v} h e =
    let l : length v ≡ n * entry_bytes = ap length e ∙ length-take-le (n * entry_bytes) u h in
    sym (entries-of (v ++ b) n (omega (arith, l, length-append v b))) ∙ ap entries_in (take_at v b (n * entry_bytes) l ∙ e) ∙ entries-of u n h

-- none of any bytes
pub no_entries : (b : List ℕ) → entries_from b 0 0 ≡ []
no_entries b = sym (none_of b 0)
