-- Hashes given to a call: how many, each by its index, their range, and whether one occurred before.
use Prim.Native.Nat.{ℕ, zero, suc, ◌+◌, ◌-◌, ◌*◌, ◌/◌, ◌^◌, ◌≤◌, ◌<◌}
use mathlib.Core.Path.{◌≡◌, refl, sym, ap, ◌∙◌}
use mathlib.Core.Bool.{Bool, ◌||◌}
use mathlib.Core.List.{List, [], ◌∷◌}
use native.Mathlib.Numerals.{add-one}
use native.Mathlib.Omega.{arith}
use lib.Dec.{eqb}
use lib.ListN.{length, take, drop, get_or, length-drop, take-append-drop}
use lib.Seq.{drop-cons, length-take-le, get_or-take, get_or-drop, take-take}
use Rattle.std.specs.List.{list_any, range_with_len}
use Rattle.ident.specs.Number.{top}
use Rattle.ident.specs.declared.Hash.{Hash}
use Rattle.ident.specs.Words.{hash_bytes, hash_num}
use Rattle.ident.proofs.Words.{Four}
use Rattle.ident.proofs.WordByWord.{hash-words}
use Rattle.words.specs.Words.{number, recs, words}
use Rattle.words.proofs.Digits.{number_below, number_append}
use Rattle.words.proofs.Records.{length-recs, recs_at}
use Rattle.words.proofs.Words.{word_at}
use Rattle.machine.specs.Claim.{elem}
use Rattle.machine.specs.Sound.{Hashes}
use Rattle.lent_lists.specs.Lists.{hashes_in}

pub length-hashes : (b : List ℕ) → length (hashes_in b) ≡ length b / hash_bytes
unfolding hashes_in
length-hashes b = length-recs hash_bytes (number 256) (length b / hash_bytes) b

pub hash_is : (b : List ℕ) (i : ℕ) → i < length (hashes_in b) → get_or (hashes_in b) i 0 ≡ number 256 (take hash_bytes (drop (hash_bytes * i) b))
unfolding hashes_in
hash_is b i h = recs_at hash_bytes (number 256) (length b / hash_bytes) b i 0 (omega (arith, length-hashes b))

-- bytes make hashes of 256 bits
recs-fit : (n : ℕ) (b : List ℕ) → hash_bytes * n ≤ length b → ((i : ℕ) → get_or b i 0 < 256) → Hashes (recs hash_bytes (number 256) n b)
unfolding recs top
recs-fit zero b h p = tt
recs-fit (suc n) b h p =
    let l : length (take hash_bytes b) ≡ hash_bytes = length-take-le hash_bytes b (omega arith) in
    let below = number_below 256 (take hash_bytes b) (λ i g. rw (get_or-take hash_bytes b i 0 (omega arith)) (p i)) in
    (rw l at below, recs-fit n (drop hash_bytes b) (simp length-drop (omega arith)) (λ i. rw get_or-drop (p (hash_bytes + i))))

pub hashes-fit : (b : List ℕ) → ((i : ℕ) → get_or b i 0 < 256) → Hashes (hashes_in b)
unfolding hashes_in
hashes-fit b p = recs-fit (length b / hash_bytes) b (omega arith) p

-- ---- among the first

-- the j-th is x
abbrev pub is_at : ℕ → List ℕ → ℕ → Bool
is_at x hs j = eqb (get_or hs j 0) x

elem_from : (x : ℕ) (hs : List ℕ) (k i : ℕ) → i + k ≤ length hs → list_any (is_at x hs) (range_with_len i k) ≡ elem x (take k (drop i hs))
unfolding elem
elem_from x hs zero i l = refl
elem_from x hs (suc k) i l =
    ap (λ (b : Bool). eqb (get_or hs i 0) x || b) (elem_from x hs k (i + 1) (omega arith))
    ∙ sym (ap (λ (gs : List ℕ). elem x (take (suc k) gs)) (drop-cons hs i 0 (omega arith)) ∙ ap (λ (j : ℕ). eqb (get_or hs i 0) x || elem x (take k (drop j hs))) (sym (add-one i)))

pub elem_by : (x : ℕ) (hs : List ℕ) (k : ℕ) → k ≤ length hs → list_any (is_at x hs) (range_with_len 0 k) ≡ elem x (take k hs)
elem_by x hs k l = elem_from x hs k 0 (omega arith)

-- ---- the first word of a hash

number_first : (b d : ℕ) (ds : List ℕ) → number b (d ∷ ds) ≡ d + b * number b ds
unfolding number
number_first b d ds = refl

-- a hash given begins as the hash of its number does
pub first_word : (b : List ℕ) (i : ℕ) (h : Hash) → Four h → i < length (hashes_in b) → get_or (words b) (i * 4) 0 < 2 ^ 64
    → get_or (hashes_in b) i 0 ≡ hash_num h → get_or (words b) (i * 4) 0 ≡ get_or h.words 0 0
first_word b i h f l w e =
    let n : i < length b / hash_bytes = rw (length-hashes b) at l in
    let from : 8 * (i * 4) ≡ hash_bytes * i = omega arith in
    let rest : List ℕ = drop (hash_bytes * i) b in
    let p : List ℕ = take hash_bytes rest in
    let long : length rest ≡ length b - hash_bytes * i = length-drop (hash_bytes * i) b in
    let front : take 8 p ≡ take 8 rest = take-take 8 hash_bytes rest (omega arith) in
    let eight : length (take 8 rest) ≡ 8 = length-take-le 8 rest (omega arith) in
    let whole : number 256 p ≡ number 256 (take 8 rest) + 256 ^ 8 * number 256 (drop 8 p) =
    ap (number 256) (sym (take-append-drop 8 p)) ∙ number_append 256 (take 8 p) (drop 8 p) ∙ rw (front, eight) in
    let word : get_or (words b) (i * 4) 0 ≡ number 256 (take 8 rest) = rw from at (word_at b (i * 4) (omega arith)) in
    let more : List ℕ = get_or h.words 1 0 ∷ get_or h.words 2 0 ∷ get_or h.words 3 0 ∷ [] in
    let hash : number 256 p ≡ get_or h.words 0 0 + 2 ^ 64 * number (2 ^ 64) more =
    sym (hash_is b i l) ∙ e ∙ hash-words h f ∙ number_first (2 ^ 64) (get_or h.words 0 0) more in
    omega (arith, f.fits 0)
