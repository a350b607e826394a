-- Keys written to an answer buffer, one behind the other: in bytes.
use Prim.Native.Nat.{ℕ, ◌+◌, ◌*◌, ◌≤◌}
use mathlib.Core.Path.{◌≡◌, refl, sym, ap, ◌∙◌}
use mathlib.Core.List.{List, [], ◌∷◌, ◌++◌, append_assoc, append-nil}
use native.Mathlib.Nat.{zero-add}
use native.Mathlib.Omega.{arith}
use lib.ListN.{length}
use Rattle.ident.specs.Number.{Key, kind_number}
use Rattle.words.specs.Words.{digits, bytes_of, splice, Put}
use Rattle.words.proofs.Digits.{length_digits}
use Rattle.words.proofs.Splice.{splice_more}
use Rattle.machine.specs.Call.{key_bytes}
use Rattle.machine.specs.Step.{key_answer, keys_answer, written}
use Rattle.machine.proofs.AnswerLengths.{length-key_answer, length-keys_answer}

-- a word, and a hash behind it
pub record-put : {u u₁ u₂ : List ℕ} (w v h : ℕ) → 8 * w + key_bytes ≤ length u → Put u u₁ w v → u₂ ≡ splice u₁ (w * 8 + 8) (digits 256 32 h)
    → u₂ ≡ splice u (8 * w) (bytes_of (v ∷ []) ++ digits 256 32 h)
unfolding bytes_of
record-put {u} w v h l p q =
    let m = length_digits 256 8 v in
    let n = length_digits 256 32 h in
    q ∙ ap (λ (s : List ℕ). splice s (w * 8 + 8) (digits 256 32 h)) p.bytes
    ∙ splice_more u (8 * w) (w * 8 + 8) (digits 256 8 v) (digits 256 32 h) (omega arith) (omega arith)
    ∙ rw append-nil

-- a key is its kind as a word, and then its hash
pub key-put : (u : List ℕ) {u' : List ℕ} (n v : ℕ) (k : Key) → v ≡ kind_number k.kind → u' ≡ splice u (8 * (n * 5)) (bytes_of (v ∷ []) ++ digits 256 32 k.hash)
    → u' ≡ splice u (key_bytes * n) (key_answer k)
key-put u n v k e p =
    let a : 8 * (n * 5) ≡ key_bytes * n = omega arith in
    rw (a, e) at p

pub keys-append : (ks js : List Key) → keys_answer (ks ++ js) ≡ keys_answer ks ++ keys_answer js
unfolding keys_answer
keys-append [] js = refl
keys-append (k ∷ ks) js = ap (λ (x : List ℕ). key_answer k ++ x) (keys-append ks js) ∙ sym (append_assoc (key_answer k) (keys_answer ks) (keys_answer js))

keys_more : (ks : List Key) (k : Key) → keys_answer (ks ++ (k ∷ [])) ≡ keys_answer ks ++ key_answer k
unfolding keys_answer
keys_more ks k = keys-append ks (k ∷ []) ∙ ap (λ (x : List ℕ). keys_answer ks ++ x) (append-nil (key_answer k))

pub over_front : (x u : List ℕ) → written x u ≡ splice u 0 x
unfolding written splice
over_front x u = rw (zero-add (length x))

-- one key more, behind those that are there
pub written_more : (ks : List Key) (k : Key) (u : List ℕ) → key_bytes * length ks + key_bytes ≤ length u
    → splice (written (keys_answer ks) u) (key_bytes * length ks) (key_answer k) ≡ written (keys_answer (ks ++ (k ∷ []))) u
written_more ks k u h =
    let l = length-keys_answer ks in
    let m = length-key_answer k in
    ap (λ (s : List ℕ). splice s (key_bytes * length ks) (key_answer k)) (over_front (keys_answer ks) u)
    ∙ splice_more u 0 (key_bytes * length ks) (keys_answer ks) (key_answer k) (omega arith) (omega arith)
    ∙ ap (splice u 0) (sym (keys_more ks k))
    ∙ sym (over_front (keys_answer (ks ++ (k ∷ []))) u)

-- nothing written yet
pub written_none : (u : List ℕ) → u ≡ written (keys_answer []) u
unfolding written keys_answer
written_none u = refl
