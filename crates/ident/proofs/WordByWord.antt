-- A hash read, stored and compared word by word, as the code does it.
use Prim.Native.Nat.{ℕ, ◌+◌, ◌-◌, ◌^◌, ◌≤◌, ◌<◌}
use mathlib.Core.Path.{◌≡◌, refl, sym, ap, ◌∙◌}
use mathlib.Core.List.{List, [], ◌∷◌, ◌++◌}
use native.Mathlib.Omega.{arith}
use lib.Dec.{lit<}
use lib.ListN.{length, take, drop, get_or, length-drop}
use lib.Seq.{length-take-le}
use Rattle.words.specs.Words.{number, digits, words, bytes_of, splice, Put}
use Rattle.words.proofs.Digits.{length_digits, number_digits}
use Rattle.words.proofs.Words.{length-words, number-words, digits-words, length-bytes, put_first, put_next}
use Rattle.words.proofs.Splice.{splice_whole, splice_back}
use Rattle.ident.specs.declared.Hash.{Hash}
use Rattle.std.specs.declared.cmp.Ordering.{Ordering}
use Rattle.std.specs.declared.cmp.Ordering.TheVariants.{Less, Equal, Greater}
use Rattle.ident.specs.Number.{top}
use Rattle.ident.specs.Words.{hash_bytes, hash_num}
use Rattle.ident.specs.Compare.{high_first}
use Rattle.std.specs.Ordering.{nat_cmp, ordering_then}
use Rattle.ident.proofs.Compare.{by_digit}
use Rattle.ident.proofs.Words.{Four}

four-list : (s : List ℕ) → length s ≡ 4 → s ≡ get_or s 0 0 ∷ get_or s 1 0 ∷ get_or s 2 0 ∷ get_or s 3 0 ∷ []
four-list [] e = absurd (omega arith)
four-list (a ∷ []) e = absurd (omega arith)
four-list (a ∷ b ∷ []) e = absurd (omega arith)
four-list (a ∷ b ∷ c ∷ []) e = absurd (omega arith)
four-list (a ∷ b ∷ c ∷ d ∷ []) e = refl
four-list (a ∷ b ∷ c ∷ d ∷ x ∷ s) e = absurd (omega arith)

-- ---- the part of a slice that a hash takes

module _ (s : List ℕ) (a : ℕ) (l : a + hash_bytes ≤ length s) where
  abbrev part : List ℕ
  part = take (a + hash_bytes - a) (drop a s)

  part_is : part ≡ take hash_bytes (drop a s)
  part_is =
      let e : a + hash_bytes - a ≡ hash_bytes = omega arith in
      rw e

  length_part : length part ≡ hash_bytes
  length_part = ap length part_is ∙ length-take-le hash_bytes (drop a s) (simp length-drop (omega arith))

  -- as `hash_at` reads it
  pub hash_read : {w x y z : ℕ} → w ≡ get_or (words part) 0 0 → x ≡ get_or (words part) 1 0 → y ≡ get_or (words part) 2 0 → z ≡ get_or (words part) 3 0
      → number (2 ^ 64) (w ∷ x ∷ y ∷ z ∷ []) ≡ number 256 (take hash_bytes (drop a s))
  hash_read e₀ e₁ e₂ e₃ =
      let f : length (words part) ≡ 4 = omega (arith, length-words part, length_part) in
      rw (e₀, e₁, e₂, e₃) (ap (number (2 ^ 64)) (sym (four-list (words part) f)) ∙ number-words part (omega (arith, length_part)) ∙ ap (number 256) part_is)

  -- as `put_hash` stores it
  pub hash-put : {p₁ p₂ p₃ p₄ : List ℕ} (h : Hash) → Four h
      → Put part p₁ 0 (get_or h.words 0 0) → Put p₁ p₂ 1 (get_or h.words 1 0) → Put p₂ p₃ 2 (get_or h.words 2 0) → Put p₃ p₄ 3 (get_or h.words 3 0)
      → take a s ++ (p₄ ++ drop (a + hash_bytes - a) (drop a s)) ≡ splice s a (digits 256 hash_bytes (hash_num h))
  hash-put {p₁} {p₂} {p₃} {p₄} h f q₀ q₁ q₂ q₃ =
      let w : ℕ = get_or h.words 0 0 in
      let x : ℕ = get_or h.words 1 0 in
      let y : ℕ = get_or h.words 2 0 in
      let z : ℕ = get_or h.words 3 0 in
      let g = length_part in
      let e₁ = put_first w q₀ in
      let e₂ = put_next part (w ∷ []) x (omega arith) e₁ q₁ in
      let e₃ = put_next part (w ∷ x ∷ []) y (omega arith) e₂ q₂ in
      let e₄ = put_next part (w ∷ x ∷ y ∷ []) z (omega arith) e₃ q₃ in
      let d : digits 256 hash_bytes (hash_num h) ≡ bytes_of h.words = rw f.four at (digits-words h.words (λ i _. f.fits i)) in
      let b : p₄ ≡ digits 256 hash_bytes (hash_num h) = e₄ ∙ splice_whole part (bytes_of (w ∷ x ∷ y ∷ z ∷ [])) (g ∙ sym (length-bytes (w ∷ x ∷ y ∷ z ∷ []))) ∙
      ap bytes_of (sym (four-list h.words f.four)) ∙ sym d in
      let k : length (digits 256 hash_bytes (hash_num h)) ≡ a + hash_bytes - a = omega (arith, length_digits 256 hash_bytes (hash_num h)) in
      rw b (splice_back s a (a + hash_bytes) (digits 256 hash_bytes (hash_num h)) (omega arith) k)

-- as `hash_to_bytes` answers
pub written : {r : List ℕ} (s : List ℕ) (n : ℕ) → length s ≡ hash_bytes → n < top → r ≡ splice s 0 (digits 256 hash_bytes n) → number 256 r ≡ n
unfolding top
written s n l h e =
    ap (number 256) (e ∙ splice_whole s (digits 256 hash_bytes n) (l ∙ sym (length_digits 256 hash_bytes n))) ∙ number_digits 256 (lit< tt) hash_bytes n h

-- ---- the order of two hashes

number_one : (b d : ℕ) → number b (d ∷ []) ≡ d
unfolding number
number_one b d = omega arith

by_four : (b w x y z w' x' y' z' : ℕ) → w < b → x < b → y < b → w' < b → x' < b → y' < b
    → ordering_then (ordering_then (ordering_then (nat_cmp z z') (nat_cmp y y')) (nat_cmp x x')) (nat_cmp w w') ≡ nat_cmp (number b (w ∷ x ∷ y ∷ z ∷ [])) (number b (w' ∷ x' ∷ y' ∷ z' ∷ []))
by_four b w x y z w' x' y' z' gw gx gy gw' gx' gy' =
    let e : nat_cmp z z' ≡ nat_cmp (number b (z ∷ [])) (number b (z' ∷ [])) = rw (number_one b z, number_one b z') in
    ap (λ (o : Ordering). ordering_then (ordering_then (ordering_then o (nat_cmp y y')) (nat_cmp x x')) (nat_cmp w w')) e ∙
    ap (λ (o : Ordering). ordering_then (ordering_then o (nat_cmp x x')) (nat_cmp w w')) (by_digit b y y' (z ∷ []) (z' ∷ []) gy gy') ∙
    ap (λ (o : Ordering). ordering_then o (nat_cmp w w')) (by_digit b x x' (y ∷ z ∷ []) (y' ∷ z' ∷ []) gx gx') ∙
    by_digit b w w' (x ∷ y ∷ z ∷ []) (x' ∷ y' ∷ z' ∷ []) gw gw'

-- the number of a hash is that of its four words
pub hash-words : (h : Hash) → Four h → hash_num h ≡ number (2 ^ 64) (get_or h.words 0 0 ∷ get_or h.words 1 0 ∷ get_or h.words 2 0 ∷ get_or h.words 3 0 ∷ [])
hash-words h f = ap (number (2 ^ 64)) (four-list h.words f.four)

abbrev at : Hash → Hash → ℕ → Ordering
at a b i = nat_cmp (get_or a.words i 0) (get_or b.words i 0)

-- as the order of hashes computes it: from the most significant word down
pub by_words : (a b : Hash) → Four a → Four b → ordering_then (ordering_then (ordering_then (at a b 3) (at a b 2)) (at a b 1)) (at a b 0) ≡ nat_cmp (hash_num a) (hash_num b)
by_words a b f g =
    let s : List ℕ = a.words in
    let t : List ℕ = b.words in
    cc (
      by_four (2 ^ 64) (get_or s 0 0) (get_or s 1 0) (get_or s 2 0) (get_or s 3 0) (get_or t 0 0) (get_or t 1 0) (get_or t 2 0) (get_or t 3 0) (f.fits 0) (f.fits 1) (f.fits 2) (g.fits 0) (g.fits 1)
          (g.fits 2),
      hash-words a f,
      hash-words b g,
    )

-- the same, as lists turned round: as the code answers it
pub by_words_back : (a b : Hash) → length a.words ≡ 4 → length b.words ≡ 4 → ordering_then (ordering_then (ordering_then (at a b 3) (at a b 2)) (at a b 1)) (at a b 0) ≡ high_first a.words b.words
by_words_back a b f g = flat (at a b 3) (at a b 2) (at a b 1) (at a b 0) ∙ rw (four-list a.words f, four-list b.words g)
  where
    flat : (o p q r : Ordering) → ordering_then (ordering_then (ordering_then o p) q) r ≡ ordering_then o (ordering_then p (ordering_then q (ordering_then r Equal)))
    flat Equal Equal Equal Equal = refl
    flat Equal Equal Equal Less = refl
    flat Equal Equal Equal Greater = refl
    flat Equal Equal Less r = refl
    flat Equal Equal Greater r = refl
    flat Equal Less q r = refl
    flat Equal Greater q r = refl
    flat Less p q r = refl
    flat Greater p q r = refl

-- the order of hashes is that of their numbers
pub by_number : (a b : Hash) → Four a → Four b → high_first a.words b.words ≡ nat_cmp (hash_num a) (hash_num b)
by_number a b f g = sym (by_words_back a b f.four g.four) ∙ by_words a b f g
