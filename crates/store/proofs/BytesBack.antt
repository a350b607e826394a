-- Words of 64 bits and their bytes decide each other.
use Prim.Native.Nat.{ℕ, zero, suc, ◌+◌, ◌/◌, ◌%◌, ◌<◌}
use mathlib.Core.Path.{◌≡◌, refl, ap, ◌∙◌}
use mathlib.Core.List.{List, [], ◌∷◌, ◌++◌}
use native.Mathlib.Omega.{arith}
use lib.Dec.{lit<}
use lib.ListN.{take, drop}
use lib.Seq.{get_or-drop}
use Rattle.words.specs.Words.{digits, recs, words, bytes_of}
use Rattle.words.proofs.Digits.{length_digits, number_digits}
use Rattle.words.proofs.Parts.{words_append}
use Rattle.machine.specs.Limits.{word}
use Rattle.machine.specs.Typed.{Each}
use Rattle.store.specs.Image.{Bytes}
use Rattle.store.proofs.WordsFit.{Word}

-- ---- lists of bytes

bytes-cons : (x : ℕ) (b : List ℕ) → x < 256 → Bytes b → Bytes (x ∷ b)
bytes-cons x b h p zero = h
bytes-cons x b h p (suc i) = p i

pub bytes-append : (a b : List ℕ) → Bytes a → Bytes b → Bytes (a ++ b)
bytes-append [] b p q = q
bytes-append (x ∷ a) b p q = bytes-cons x (a ++ b) (p 0) (bytes-append a b (λ i. p (suc i)) q)

pub bytes_take : (n : ℕ) (b : List ℕ) → Bytes b → Bytes (take n b)
bytes_take zero b p = λ i. omega arith
bytes_take (suc n) [] p = λ i. omega arith
bytes_take (suc n) (x ∷ b) p = bytes-cons x (take n b) (p 0) (bytes_take n b (λ i. p (suc i)))

pub bytes_drop : (n : ℕ) (b : List ℕ) → Bytes b → Bytes (drop n b)
bytes_drop n b p i = rw (get_or-drop n b i 0) (p (n + i))

-- ---- the bytes of words

bytes-digits : (k v : ℕ) → Bytes (digits 256 k v)
unfolding digits
bytes-digits zero v = λ i. omega arith
bytes-digits (suc k) v = bytes-cons (v % 256) (digits 256 k (v / 256)) (omega arith) (bytes-digits k (v / 256))

pub bytes-of : (ws : List ℕ) → Bytes (bytes_of ws)
unfolding bytes_of
bytes-of [] = λ i. omega arith
bytes-of (w ∷ ws) = bytes-append (digits 256 8 w) (bytes_of ws) (bytes-digits 8 w) (bytes-of ws)

one_word : (w : ℕ) → w < word → words (digits 256 8 w) ≡ w ∷ []
unfolding words recs digits
one_word w l = ap (λ (n : ℕ). n ∷ []) (number_digits 256 (lit< tt) 8 w l)

no_words : words [] ≡ []
unfolding words recs
no_words = refl

pub words-bytes : (ws : List ℕ) → Each Word ws → words (bytes_of ws) ≡ ws
unfolding bytes_of
words-bytes [] a = no_words
words-bytes (w ∷ ws) a =
    let l = length_digits 256 8 w in
    words_append (digits 256 8 w) (bytes_of ws) (omega arith) ∙ rw (one_word w a.0, words-bytes ws a.1)
