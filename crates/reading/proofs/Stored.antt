-- The elements of a list, stored in bytes as they are read.
use Prim.Native.Nat.{ℕ, zero, suc, ◌+◌, ◌*◌, ◌/◌, ◌≤◌, ◌<◌, ◌^◌}
use mathlib.Core.Path.{◌≡◌, refl, ap, ◌∙◌}
use mathlib.Core.List.{List, [], ◌∷◌, ◌++◌}
use native.Mathlib.Nat.{mul_comm, mul-suc, mul-le-mul_left, mul-div_cancel_left}
use native.Mathlib.Omega.{arith}
use lib.Dec.{lit≤}
use lib.ListN.{length, take, drop, get_or}
use lib.Seq.{take_at, drop_at, length-take-le}
use Rattle.ident.specs.Number.{top}
use Rattle.ident.specs.declared.Hash.{Hash}
use Rattle.ident.specs.Words.{hash_bytes, hash_num}
use Rattle.regions.specs.declared.Quad.{Quad}
use Rattle.regions.specs.Rows.{quad_words, quad_number}
use Rattle.words.specs.Words.{number, digits, recs, splice}
use Rattle.words.proofs.Digits.{length_digits, number_digits, number_below}
use Rattle.words.proofs.Records.{recs-add, recs_front, recs-take}
use denote.Ref.{Bor}
use Rattle.std.specs.Prelude.{Some}
use Rattle.reading.specs.Line.{Reader}
use Rattle.reading.specs.Given.{hashes_of, Stored, IsList, WholeList}

-- ---- one record more in the bytes

at_most : {a b : ℕ} → a ≡ b → b ≤ a
at_most e = omega (arith, e)

module _ {A : Type 0} (k : ℕ) (f : List ℕ → A) (i : ℕ) (b x : List ℕ) (h : k * i ≤ length b) (l : length x ≡ k) where
  pub record-put : recs k f (i + 1) (splice b (k * i) x) ≡ recs k f i b ++ (f x ∷ [])
  unfolding recs splice
  record-put =
      let y : List ℕ = drop (k * i + length x) b in
      let p : List ℕ = take (k * i) b in
      let m : length p ≡ k * i = length-take-le (k * i) b h in
      recs-add k f i 1 (p ++ (x ++ y)) ∙ rw (recs_front k f i p (x ++ y) (at_most m), recs-take k f i b h, drop_at p (x ++ y) (k * i) m, take_at x y k l)

-- there is room for one record of k bytes more
pub record_inside : (k : ℕ) {i n m : ℕ} → i < n → k * n ≤ m → k * i + k ≤ m
record_inside k {i} {n} h r = omega (arith, r, mul-suc k i, mul-le-mul_left {m = suc i} {n = n} k (omega arith))

pub quad_below : (q : Quad) → q.w0 < 2 ^ 64 → q.w1 < 2 ^ 64 → q.w2 < 2 ^ 64 → q.w3 < 2 ^ 64 → quad_number q < top
unfolding quad_number top
quad_below q h₀ h₁ h₂ h₃ = number_below (2 ^ 64) (quad_words q) (λ i _. fits i)
  where
    fits : (i : ℕ) → get_or (quad_words q) i 0 < 2 ^ 64
    fits zero = h₀
    fits (suc zero) = h₁
    fits (suc (suc zero)) = h₂
    fits (suc (suc (suc zero))) = h₃
    fits (suc (suc (suc (suc i)))) = lit≤ tt

module _ (b : List ℕ) (i : ℕ) (r : hash_bytes * i + hash_bytes ≤ length b) where
  put-number : (h : ℕ) → h < top → hashes_of (i + 1) (splice b (i * hash_bytes) (digits 256 hash_bytes h)) ≡ hashes_of i b ++ (h ∷ [])
  unfolding top
  put-number h u =
      let a : i * hash_bytes ≡ hash_bytes * i = omega arith in
      rw a (record-put hash_bytes (number 256) i b (digits 256 hash_bytes h) (omega arith) (length_digits 256 hash_bytes h)
      ∙ ap (λ (z : ℕ). hashes_of i b ++ (z ∷ [])) (number_digits 256 (lit≤ tt) hash_bytes h u))

  pub hash-put : (q : Quad) → quad_number q < top → {b' : List ℕ} (h : Hash) → hash_num h ≡ quad_number q → b' ≡ splice b (i * hash_bytes) (digits 256 hash_bytes (hash_num h))
      → Stored hash_bytes (number 256) b b' i (quad_number q)
  hash-put q u h e p = record { is = rw (p, e) (put-number (quad_number q) u) }

-- ---- the records of a list

-- none yet
pub none_stored : {A : Type 0} (k : ℕ) (f : List ℕ → A) (b : List ℕ) → recs k f 0 b ≡ []
unfolding recs
none_stored k f b = refl

-- the first n records, as their bytes are lent
pub list_lent : {A : Type 0} {read : Reader A} (k : ℕ) (f : List ℕ → A) {l : List ℕ} {e n most : ℕ} (b : List ℕ) {s : Bor (List ℕ)}
    → n ≤ most → k * n ≤ length b → s.now ≡ take (n * k) b → IsList read l e (recs k f n b) → WholeList read k f l e most (Some s)
list_lent k f {n = n} b few room g is =
    record { is = (n, few, rw (g, mul_comm n k) (length-take-le (k * n) b room), rw (g, mul_comm n k, recs-take k f n b room) is) }

-- all records of bytes, counted by their length
pub all_counted : {A : Type 0} (k : ℕ) (f : List ℕ → A) (n : ℕ) (b : List ℕ) → 1 ≤ k → length b ≡ n * k → recs k f (length b / k) b ≡ recs k f n b
all_counted k f n b o h = ap (λ (m : ℕ). recs k f m b) (rw (h, mul_comm n k) (mul-div_cancel_left n o))

pub all_stored : {A : Type 0} (k : ℕ) (f : List ℕ → A) (n : ℕ) (b : List ℕ) → 1 ≤ k → k * n ≤ length b → recs k f (length (take (n * k) b) / k) (take (n * k) b) ≡ recs k f n b
all_stored k f n b o h = all_counted k f n (take (n * k) b) o (rw (mul_comm n k) (length-take-le (k * n) b h)) ∙ rw (mul_comm n k) (recs-take k f n b h)
