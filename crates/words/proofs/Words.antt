-- The laws of `words` and `bytes_of`, and one word read and stored as `get` and `put` do it.
use Prim.Native.Nat.{ℕ, zero, suc, ◌+◌, ◌*◌, ◌/◌, ◌%◌, ◌^◌, ◌≤◌, ◌<◌}
use mathlib.Core.Path.{◌≡◌, refl, sym, ap, ◌∙◌}
use mathlib.Core.List.{List, [], ◌∷◌, ◌++◌, append_assoc, append-nil}
use native.Mathlib.Nat.{add-zero, mul-zero}
use native.Mathlib.Numerals.{towards_suc}
use native.Mathlib.Omega.{arith}
use lib.Dec.{lit<}
use lib.ListN.{length, take, drop, get_or, set, length-append, length-drop, take-append-drop}
use lib.Seq.{sets-eq, length-take-le, get_or-drop, get_or-take}
use Rattle.std.specs.Int.{w64, to_le_bytes}
use Rattle.words.specs.Words.{number, digits, recs, words, bytes_of, splice, Put}
use Rattle.words.proofs.Splice.{length-splice, splice_more}
use Rattle.words.proofs.Digits.{length_digits, number_digits, digits_number, digits-add, number_step, number_append}
use Rattle.words.proofs.Records.{length-recs, recs_at, recs-set}

pub length-words : (s : List ℕ) → length (words s) ≡ length s / 8
unfolding words
length-words s = length-recs 8 (number 256) (length s / 8) s

pub word_at : (s : List ℕ) (i : ℕ) → 8 * i + 8 ≤ length s → get_or (words s) i 0 ≡ number 256 (take 8 (drop (8 * i) s))
unfolding words
word_at s i h = recs_at 8 (number 256) (length s / 8) s i 0 (omega arith)

eight-digits : (s : List ℕ) (a : ℕ) → a + 8 ≤ length s
    → number 256 (take 8 (drop a s)) ≡ get_or s a 0 + 256 *
    (get_or s (a + 1) 0 + 256 * (get_or s (a + 2) 0 + 256 * (get_or s (a + 3) 0 + 256 * (get_or s (a + 4) 0 + 256 * (get_or s (a + 5) 0 + 256 * (get_or s (a + 6) 0 + 256 * get_or s (a + 7) 0))))))
unfolding number
eight-digits s a h =
    omega (
      arith,
      rw add-zero at (number_step 256 s a 0 7 (omega arith)),
      number_step 256 s a 1 6 (omega arith),
      number_step 256 s a 2 5 (omega arith),
      number_step 256 s a 3 4 (omega arith),
      number_step 256 s a 4 3 (omega arith),
      number_step 256 s a 5 2 (omega arith),
      number_step 256 s a 6 1 (omega arith),
      number_step 256 s a 7 0 (omega arith),
    )

-- as `get` computes it
pub word_sum : (s : List ℕ) (i : ℕ) → 8 * i + 8 ≤ length s
    → get_or (words s) i 0 ≡ get_or s (i * 8) 0 + 256 * (get_or s (i * 8 + 1) 0 + 256 *
    (get_or s (i * 8 + 2) 0 + 256 * (get_or s (i * 8 + 3) 0 + 256 * (get_or s (i * 8 + 4) 0 + 256 * (get_or s (i * 8 + 5) 0 + 256 * (get_or s (i * 8 + 6) 0 + 256 * get_or s (i * 8 + 7) 0))))))
word_sum s i h =
    let e : 8 * i ≡ i * 8 = omega arith in
    rw e at (word_at s i h) ∙ eight-digits s (i * 8) (omega arith)

pub words-splice : (s : List ℕ) (i : ℕ) (x : List ℕ) → 8 * i + 8 ≤ length s → length x ≡ 8
    → words (splice s (8 * i) x) ≡ set (words s) i (number 256 x)
unfolding words
words-splice s i x h e =
    let l : length (splice s (8 * i) x) ≡ length s = length-splice s (8 * i) x (omega arith) in
    rw l (recs-set 8 (number 256) (length s / 8) s i x (omega arith) (omega arith) e)

-- as `put` stores it
stores_eight : (s : List ℕ) (a b0 b1 b2 b3 b4 b5 b6 b7 : ℕ) → a + 8 ≤ length s
    → set (set (set (set (set (set (set (set s a b0) (a + 1) b1) (a + 2) b2) (a + 3) b3) (a + 4) b4) (a + 5) b5) (a + 6) b6) (a + 7) b7
    ≡ splice s a (b0 ∷ b1 ∷ b2 ∷ b3 ∷ b4 ∷ b5 ∷ b6 ∷ b7 ∷ [])
unfolding splice
stores_eight s a b0 b1 b2 b3 b4 b5 b6 b7 h =
    simp towards_suc
    (simp towards_suc at (sets-eq (b0 ∷ b1 ∷ b2 ∷ b3 ∷ b4 ∷ b5 ∷ b6 ∷ b7 ∷ []) s a h ∙ append_assoc (take a s) (b0 ∷ b1 ∷ b2 ∷ b3 ∷ b4 ∷ b5 ∷ b6 ∷ b7 ∷ []) (drop (a + 8) s)))

put_made : (s s' : List ℕ) (i v : ℕ) → 8 * i + 8 ≤ length s → v < 2 ^ 64 → s' ≡ splice s (i * 8) (digits 256 8 v) → Put s s' i v
put_made s s' i v h l e =
    let c : i * 8 ≡ 8 * i = omega arith in
    let e' : s' ≡ splice s (8 * i) (digits 256 8 v) = rw c at e in
    record {
      bytes = e';
      word = rw e' (words-splice s i (digits 256 8 v) h (length_digits 256 8 v) ∙ rw (number_digits 256 (lit< tt) 8 v l));
    }

-- the bytes of a number, as the library has them, are its digits
bytes-digits : (v : ℕ) → to_le_bytes w64 v ≡ digits 256 8 v
unfolding digits
bytes-digits v =
    let e₂ : v / 256 ^ 2 ≡ v / 256 / 256 = omega arith in
    let e₃ : v / 256 ^ 3 ≡ v / 256 / 256 / 256 = omega arith in
    let e₄ : v / 256 ^ 4 ≡ v / 256 / 256 / 256 / 256 = omega arith in
    let e₅ : v / 256 ^ 5 ≡ v / 256 / 256 / 256 / 256 / 256 = omega arith in
    let e₆ : v / 256 ^ 6 ≡ v / 256 / 256 / 256 / 256 / 256 / 256 = omega arith in
    let e₇ : v / 256 ^ 7 ≡ v / 256 / 256 / 256 / 256 / 256 / 256 / 256 = omega arith in
    rw (e₂, e₃, e₄, e₅, e₆, e₇)

pub put-eight : (s : List ℕ) (i v : ℕ) {b : List ℕ} → 8 * i + 8 ≤ length s → v < 2 ^ 64 → b ≡ to_le_bytes w64 v
    → Put s (set (set (set (set (set (set (set (set s (i * 8) (get_or b 0 0)) (i * 8 + 1) (get_or b 1 0)) (i * 8 + 2) (get_or b 2 0)) (i * 8 + 3) (get_or b 3 0))
    (i * 8 + 4) (get_or b 4 0)) (i * 8 + 5) (get_or b 5 0)) (i * 8 + 6) (get_or b 6 0)) (i * 8 + 7) (get_or b 7 0)) i v
put-eight s i v h l e = put_made s _ i v h l (rw e (stores_eight s (i * 8) _ _ _ _ _ _ _ _ (omega arith)) ∙ ap (splice s (i * 8)) (bytes-digits v))

-- ---- the words determine the bytes

bytes-recs : (n : ℕ) (s : List ℕ) → length s ≡ 8 * n → ((i : ℕ) → get_or s i 0 < 256) → bytes_of (recs 8 (number 256) n s) ≡ s
unfolding bytes_of recs
bytes-recs zero [] e b = refl
bytes-recs zero (x ∷ s) e b = absurd (omega arith)
bytes-recs (suc n) s e b =
    let l : length (take 8 s) ≡ 8 = length-take-le 8 s (omega arith) in
    let l' : length (drop 8 s) ≡ 8 * n = simp length-drop (omega arith) in
    let first : digits 256 8 (number 256 (take 8 s)) ≡ take 8 s = rw l at (digits_number 256 (lit< tt) (take 8 s) (λ i h. rw (get_or-take 8 s i 0 (omega arith)) (b i))) in
    let rest : bytes_of (recs 8 (number 256) n (drop 8 s)) ≡ drop 8 s = bytes-recs n (drop 8 s) l' (λ i. rw get_or-drop (b (8 + i))) in
    rw (first, rest) (take-append-drop 8 s)

pub bytes-words : (s : List ℕ) → length s % 8 ≡ 0 → ((i : ℕ) → get_or s i 0 < 256) → bytes_of (words s) ≡ s
unfolding words
bytes-words s e b = bytes-recs (length s / 8) s (omega arith) b

-- ---- the number that bytes make, and that their words make

number-recs : (b k n : ℕ) (s : List ℕ) → length s ≡ k * n → number (b ^ k) (recs k (number b) n s) ≡ number b s
unfolding number recs
number-recs b k zero [] e = refl
number-recs b k zero (x ∷ s) e = absurd (omega (arith, e, mul-zero k))
number-recs b k (suc n) s e =
    let l : length (take k s) ≡ k = length-take-le k s (omega arith) in
    let l' : length (drop k s) ≡ k * n = simp length-drop (omega arith) in
    let q : number b s ≡ number b (take k s) + b ^ k * number b (drop k s) = ap (number b) (sym (take-append-drop k s)) ∙ rw l at (number_append b (take k s) (drop k s)) in
    rw (number-recs b k n (drop k s) l') (sym q)

pub number-words : (s : List ℕ) → length s % 8 ≡ 0 → number (2 ^ 64) (words s) ≡ number 256 s
unfolding words
number-words s e = number-recs 256 8 (length s / 8) s (omega arith)

pub digits-words : (ws : List ℕ) → ((i : ℕ) → i < length ws → get_or ws i 0 < 2 ^ 64) → digits 256 (8 * length ws) (number (2 ^ 64) ws) ≡ bytes_of ws
unfolding number digits bytes_of
digits-words [] h = refl
digits-words (w ∷ ws) h =
    let e : 8 * suc (length ws) ≡ 8 + 8 * length ws = omega arith in
    rw (e, digits-add 256 (lit< tt) 8 (8 * length ws) w (number (2 ^ 64) ws) (h 0 (omega arith)), digits-words ws (λ i g. h (suc i) (omega arith)))

-- ---- words stored one after the other

pub length-bytes : (ws : List ℕ) → length (bytes_of ws) ≡ 8 * length ws
unfolding bytes_of
length-bytes [] = refl
length-bytes (w ∷ ws) = simp length-append (omega (arith, length_digits 256 8 w, length-bytes ws))

bytes_more : (ws : List ℕ) (v : ℕ) → bytes_of (ws ++ (v ∷ [])) ≡ bytes_of ws ++ digits 256 8 v
unfolding bytes_of
bytes_more [] v = append-nil (digits 256 8 v)
bytes_more (w ∷ ws) v = rw (bytes_more ws v) (sym (append_assoc (digits 256 8 w) (bytes_of ws) (digits 256 8 v)))

pub put_first : {s s₁ : List ℕ} (v : ℕ) → Put s s₁ 0 v → s₁ ≡ splice s 0 (bytes_of (v ∷ []))
unfolding bytes_of
put_first v p = p.bytes ∙ rw append-nil

-- the words ws stand from the start of s on, and `put` adds v
pub put_next : (s ws : List ℕ) (v : ℕ) {s₁ s₂ : List ℕ} → 8 * length ws + 8 ≤ length s → s₁ ≡ splice s 0 (bytes_of ws) → Put s₁ s₂ (length ws) v → s₂ ≡ splice s 0 (bytes_of (ws ++ (v ∷ [])))
put_next s ws v h e p =
    let l = length-bytes ws in
    let k = length_digits 256 8 v in
    p.bytes ∙ rw (e, bytes_more ws v) (splice_more s 0 (8 * length ws) (bytes_of ws) (digits 256 8 v) (omega arith) (omega arith))
