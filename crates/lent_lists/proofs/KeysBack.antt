-- Keys that a call wrote to its answer buffer, read back.
use Prim.Native.Nat.{ℕ, ◌+◌, ◌-◌, ◌*◌, ◌/◌, ◌^◌, ◌≤◌, ◌<◌}
use mathlib.Core.Path.{◌≡◌, refl, sym, ap, ◌∙◌}
use mathlib.Core.List.{List, [], ◌∷◌, ◌++◌, append_assoc, append-nil}
use native.Mathlib.Omega.{arith}
use lib.Dec.{lit<}
use lib.ListN.{length, take, drop, get_or, length-drop}
use lib.Seq.{take_at, drop_at, take-add, take-take, drop-drop, length-take-le}
use Rattle.ident.specs.declared.Kind.{Kind}
use Rattle.ident.specs.declared.Kind.TheVariants.{Txid, Wtxid}
use Rattle.ident.specs.Number.{Key, top, kind_is}
use Rattle.words.specs.Words.{number, digits, words, recs, bytes_of}
use Rattle.words.proofs.Digits.{number_digits}
use Rattle.words.proofs.Records.{recs_at, recs-take}
use Rattle.words.proofs.Words.{length-bytes, word_at}
use Rattle.machine.specs.Call.{key_bytes}
use Rattle.machine.specs.Step.{key_answer, keys_answer, written}
use Rattle.machine.specs.Typed.{Each, KeyTyped}
use Rattle.machine.proofs.AnswerLengths.{length-key_answer}
use Rattle.lent_lists.specs.Lists.{key_in, keys_in, given_keys}

pub word_back : (x : ℕ) → x < 256 ^ 8 → number 256 (bytes_of (x ∷ [])) ≡ x
unfolding bytes_of
word_back x l = rw append-nil (number_digits 256 (lit< tt) 8 x l)

pub hash_back : (h : ℕ) → h < top → number 256 (digits 256 32 h) ≡ h
unfolding top
hash_back h l = number_digits 256 (lit< tt) 32 h l

pub key_back : (k : Key) → k.hash < top → key_in (key_answer k) ≡ k
unfolding key_in
key_back k l = as_kind k.kind k.hash l
  where
    as_kind : (d : Kind) (h : ℕ) → h < top → key_in (key_answer (record { kind = d; hash = h })) ≡ record { kind = d; hash = h }
    as_kind Txid h l = rw (
      take_at (bytes_of (0 ∷ [])) (digits 256 32 h) 8 (length-bytes (0 ∷ [])),
      drop_at (bytes_of (0 ∷ [])) (digits 256 32 h) 8 (length-bytes (0 ∷ [])),
      word_back 0 (lit< tt),
      hash_back h l,
    )
    as_kind Wtxid h l = rw (
      take_at (bytes_of (1 ∷ [])) (digits 256 32 h) 8 (length-bytes (1 ∷ [])),
      drop_at (bytes_of (1 ∷ [])) (digits 256 32 h) 8 (length-bytes (1 ∷ [])),
      word_back 1 (lit< tt),
      hash_back h l,
    )

front_back : (ks : List Key) (v : List ℕ) → Each KeyTyped ks → keys_in (length ks) (keys_answer ks ++ v) ≡ ks
unfolding keys_in recs keys_answer
front_back [] v e = refl
front_back (k ∷ ks) v e =
    rw (
      append_assoc (key_answer k) (keys_answer ks) v,
      take_at (key_answer k) (keys_answer ks ++ v) key_bytes (length-key_answer k),
      drop_at (key_answer k) (keys_answer ks ++ v) key_bytes (length-key_answer k),
      key_back k e.0,
      front_back ks v e.1,
    )

-- the keys that a call wrote over the first bytes of the buffer u
pub keys_back : (ks : List Key) (u : List ℕ) → Each KeyTyped ks → keys_in (length ks) (written (keys_answer ks) u) ≡ ks
unfolding written
keys_back ks u e = front_back ks (drop (length (keys_answer ks)) u) e

-- the keys that the front of a buffer holds
pub front-keys : (n : ℕ) (b : List ℕ) → key_bytes * n ≤ length b → given_keys (take (n * key_bytes) b) ≡ keys_in n b
unfolding keys_in
front-keys n b h =
    let e : n * key_bytes ≡ key_bytes * n = omega arith in
    let d : length (take (key_bytes * n) b) / key_bytes ≡ n = omega (arith, length-take-le (key_bytes * n) b h) in
    rw (e, d) (recs-take key_bytes key_in n b h)

-- ---- one key, as the code reads it

pub key-read : (u : List ℕ) (i : ℕ) (d : Kind) {v h : ℕ} → key_bytes * i + key_bytes ≤ length u → v ≡ get_or (words u) (i * 5) 0 → d ≡ kind_is v → h ≡ number 256 (take 32 (drop (i * 5 * 8 + 8) u))
    → record { kind = d; hash = h } ≡ key_in (take key_bytes (drop (key_bytes * i) u))
unfolding key_in
key-read u i d {v} {h} l e k q =
    let x = drop (key_bytes * i) u in
    let lx : length x ≡ length u - key_bytes * i = length-drop (key_bytes * i) u in
    let a : 8 * (i * 5) ≡ key_bytes * i = omega arith in
    let b : i * 5 * 8 + 8 ≡ key_bytes * i + 8 = omega arith in
    let front : v ≡ number 256 (take 8 (take key_bytes x)) = e ∙ word_at u (i * 5) (omega arith) ∙ ap (λ (j : ℕ). number 256 (take 8 (drop j u))) a ∙
    ap (number 256) (sym (take-take 8 key_bytes x (omega arith))) in
    let back : h ≡ number 256 (drop 8 (take key_bytes x)) = q ∙ ap (λ (j : ℕ). number 256 (take 32 (drop j u))) b ∙
    ap (λ (l : List ℕ). number 256 (take 32 l)) (sym (drop-drop 8 (key_bytes * i) u)) ∙ ap (number 256) (sym (rest x (omega arith))) in
    λ j. record { kind = (k ∙ ap kind_is front) j; hash = back j }
  where
    rest : (x : List ℕ) → 8 ≤ length x → drop 8 (take (8 + 32) x) ≡ take 32 (drop 8 x)
    rest x l = rw (take-add 8 32 x) (drop_at (take 8 x) (take 32 (drop 8 x)) 8 (length-take-le 8 x l))

pub key-is : (n : ℕ) (b : List ℕ) (i : ℕ) (d : Key) → i < n → get_or (keys_in n b) i d ≡ key_in (take key_bytes (drop (key_bytes * i) b))
unfolding keys_in
key-is n b i d l = recs_at key_bytes key_in n b i d l
