-- Keys read from bytes.
use Prim.Native.Nat.{ℕ, zero, suc, ◌+◌, ◌-◌, ◌*◌, ◌/◌, ◌≤◌, ◌<◌}
use mathlib.Core.Path.{◌≡◌, refl, ap, ◌∙◌}
use mathlib.Core.List.{List, [], ◌∷◌}
use native.Mathlib.Omega.{arith}
use lib.ListN.{length, get_or, take, drop, length-drop, drop_of_length-le}
use lib.Seq.{drop-cons, length-take-le, get_or-take, get_or-drop}
use Rattle.ident.specs.Number.{top}
use Rattle.words.specs.Words.{recs}
use Rattle.words.proofs.Digits.{number_below}
use Rattle.words.proofs.Records.{length-recs, recs_at}
use Rattle.machine.specs.Call.{key_bytes}
use Rattle.machine.specs.Typed.{Each, KeyTyped}
use Rattle.lent_lists.specs.Lists.{key_in, keys_in}
use Rattle.selecting.specs.Phasing.{given_keys}

-- the next of the keys given, and the end of them
pub given_next : (b : List ℕ) (i : ℕ) → i < length b / key_bytes → drop i (given_keys b) ≡ key_in (take key_bytes (drop (key_bytes * i) b)) ∷ drop (i + 1) (given_keys b)
unfolding keys_in
given_next b i h =
    let m = length b / key_bytes in
    let l = length-recs key_bytes key_in m b in
    let s : suc i ≡ i + 1 = omega arith in
    drop-cons (given_keys b) i (key_in []) (omega (arith, l)) ∙ rw (recs_at key_bytes key_in m b i (key_in []) h, s) refl

pub given_end : (b : List ℕ) (i : ℕ) → length b / key_bytes ≤ i → drop i (given_keys b) ≡ []
unfolding keys_in
given_end b i h = let e : length (given_keys b) ≤ i = omega (arith, length-recs key_bytes key_in (length b / key_bytes) b) in drop_of_length-le (given_keys b) e

-- bytes make keys whose hashes have 256 bits
recs-typed : (n : ℕ) (b : List ℕ) → key_bytes * n ≤ length b → ((i : ℕ) → get_or b i 0 < 256) → Each KeyTyped (keys_in n b)
unfolding keys_in key_in recs top
recs-typed zero b h p = tt
recs-typed (suc n) b h p =
    let x = drop 8 (take key_bytes b) in
    let l : length x ≡ 32 = length-drop 8 (take key_bytes b) ∙ ap (λ (a : ℕ). a - 8) (length-take-le key_bytes b (omega arith)) in
    let below = number_below 256 x (λ i g. rw (get_or-drop, get_or-take key_bytes b (8 + i) 0 (omega arith)) (p (8 + i))) in
    (rw l at below, recs-typed n (drop key_bytes b) (simp length-drop (omega arith)) (λ i. rw get_or-drop (p (key_bytes + i))))

pub given_typed : (b : List ℕ) → ((i : ℕ) → get_or b i 0 < 256) → Each KeyTyped (given_keys b)
given_typed b p = recs-typed (length b / key_bytes) b (omega arith) p
