-- Keys of an answer buffer, one after the other, as text.
use Prim.Native.Nat.{ℕ, ◌+◌, ◌*◌, ◌≤◌}
use mathlib.Core.Path.{◌≡◌, refl, ap}
use mathlib.Core.List.{List, [], ◌∷◌, ◌++◌}
use native.Mathlib.Omega.{arith}
use lib.ListN.{length, take, drop}
use Rattle.ident.specs.Number.{Key}
use Rattle.words.specs.Words.{recs}
use Rattle.words.proofs.Records.{recs-add, length-recs}
use Rattle.machine.specs.Call.{key_bytes}
use Rattle.lent_lists.specs.Lists.{key_in, keys_in}
use Rattle.machine.specs.Text.{hash_digits, key_text}
use Rattle.machine.proofs.Numerals.{length-numeral}
use Rattle.printing.specs.Replies.{key_texts}

-- the i-th key of a buffer
abbrev pub key_at : List ℕ → ℕ → Key
key_at u i = key_in (take key_bytes (drop (key_bytes * i) u))

-- ---- one key more

pub keys_more : (i : ℕ) (u : List ℕ) → keys_in (i + 1) u ≡ keys_in i u ++ (key_at u i ∷ [])
unfolding keys_in recs
keys_more i u = recs-add key_bytes key_in i 1 u

pub texts-append : (ks : List Key) (k : Key) → key_texts (ks ++ (k ∷ [])) ≡ key_texts ks ++ (key_text k ∷ [])
unfolding key_texts
texts-append [] k = refl
texts-append (j ∷ ks) k = ap (λ (l : List (List ℕ)). key_text j ∷ l) (texts-append ks k)

-- ---- keys in the buffer

pub length-keys : (n : ℕ) (u : List ℕ) → length (keys_in n u) ≡ n
unfolding keys_in
length-keys n u = length-recs key_bytes key_in n u

pub key-length : (k : Key) → length (key_text k) ≤ 1 + hash_digits
unfolding key_text
key-length k = omega (arith, length-numeral 16 hash_digits k.hash)
