-- Items and priorities given to a call: how many, each by its index, and their ranges.
use Prim.Native.Nat.{min, ℕ, zero, suc, ◌+◌, ◌*◌, ◌/◌, ◌%◌, ◌≤◌, ◌<◌, ◌^◌}
use mathlib.Core.Path.{◌≡◌, refl, sym, ap, ◌∙◌}
use mathlib.Core.List.{List, [], ◌∷◌}
use native.Mathlib.Nat.{zero-add, suc-add}
use native.Mathlib.Omega.{arith}
use lib.ListN.{length, take, drop, get_or, length-drop}
use lib.Seq.{length-take-le, get_or-take, get_or-drop, take-take, take-nil, drop-drop}
use borrow.Author.Tests.{lt-ltb, le-ltb}
use Rattle.ident.specs.declared.ItemKind.{ItemKind}
use Rattle.ident.specs.declared.ItemKind.TheVariants.{Other}
use Rattle.ident.specs.Number.{Item, top, item_kind_of}
use Rattle.ident.specs.Words.{hash_bytes}
use Rattle.words.specs.Words.{number, recs, words}
use Rattle.words.proofs.Digits.{number_below}
use Rattle.words.proofs.Records.{length-recs, recs_at}
use Rattle.words.proofs.Words.{word_at}
use Rattle.machine.specs.Limits.{word}
use Rattle.machine.specs.Wrapper.{Offer}
use Rattle.machine.specs.Typed.{Each, OfferTyped}
use Rattle.lent_lists.specs.Items.{item_bytes, type_top, item_kind_in, item_in, items_in, paired, offers_in}

-- ---- a type's word

pub kind_below : (w : ℕ) {k : ItemKind} → w < type_top → k ≡ item_kind_of w → k ≡ item_kind_in w
kind_below w h e = rw (lt-ltb w type_top h) e

pub kind_above : (w : ℕ) → type_top ≤ w → Other (w % type_top) ≡ item_kind_in w
kind_above w h = rw (le-ltb w type_top h) refl

-- ---- items

pub length-items : (b : List ℕ) → length (items_in b) ≡ length b / item_bytes
unfolding items_in
length-items b = length-recs item_bytes item_in (length b / item_bytes) b

pub drop-take : (m n : ℕ) (l : List ℕ) → drop m (take (m + n) l) ≡ take n (drop m l)
drop-take zero n l = rw (zero-add n)
drop-take (suc m) n [] = rw (suc-add, take-nil n)
drop-take (suc m) n (x ∷ l) = rw suc-add (drop-take m n l)

-- the item at an index, by its word and its hash
pub item_is : (b : List ℕ) (i : ℕ) {k : ItemKind} {w h : ℕ} → i < length (items_in b) → w ≡ get_or (words b) (i * 5) 0 → k ≡ item_kind_in w
    → h ≡ number 256 (take hash_bytes (drop (i * 5 * 8 + 8) b))
    → (d : Item) → record { kind = k; hash = h } ≡ get_or (items_in b) i d
unfolding item_in items_in
item_is b i {k} {w} {h} l e f g d =
    let n : i < length b / item_bytes = omega (arith, length-recs item_bytes item_in (length b / item_bytes) b) in
    let x : 8 * (i * 5) ≡ item_bytes * i = omega arith in
    let y : i * 5 * 8 + 8 ≡ item_bytes * i + 8 = omega arith in
    let p : take 8 (drop (8 * (i * 5)) b) ≡ take 8 (take item_bytes (drop (item_bytes * i) b)) = rw x (sym (take-take 8 item_bytes (drop (item_bytes * i) b) (omega arith))) in
    let q : take hash_bytes (drop (item_bytes * i + 8) b) ≡ drop 8 (take item_bytes (drop (item_bytes * i) b)) = ap (take hash_bytes) (sym (drop-drop 8 (item_bytes * i) b)) ∙
    sym (drop-take 8 32 (drop (item_bytes * i) b)) in
    let u : w ≡ number 256 (take 8 (take item_bytes (drop (item_bytes * i) b))) = e ∙ word_at b (i * 5) (omega arith) ∙ ap (number 256) p in
    let v : h ≡ number 256 (drop 8 (take item_bytes (drop (item_bytes * i) b))) = (rw y at g) ∙ ap (number 256) q in
    rw (f, v) (ap (λ (z : ℕ). record { kind = item_kind_in z; hash = number 256 (drop 8 (take item_bytes (drop (item_bytes * i) b))) }) u)
    ∙ sym (recs_at item_bytes item_in (length b / item_bytes) b i d n)

-- ---- items with priorities

-- the shorter list decides
pub length-paired : (l : List Item) (ps : List ℕ) → length (paired l ps) ≡ min (length l) (length ps)
unfolding paired
length-paired [] ps = omega arith
length-paired (i ∷ l) [] = omega arith
length-paired (i ∷ l) (p ∷ ps) = omega (arith, length-paired l ps)

pub paired-inside : (l : List Item) (ps : List ℕ) → (length (paired l ps) ≤ length l) × (length (paired l ps) ≤ length ps)
unfolding paired
paired-inside [] ps = (omega arith, omega arith)
paired-inside (i ∷ l) [] = (omega arith, omega arith)
paired-inside (i ∷ l) (p ∷ ps) = let r = paired-inside l ps in (omega arith, omega arith)

pub paired_at : (l : List Item) (ps : List ℕ) (k : ℕ) (d : Offer) → k < length (paired l ps) → record { item = get_or l k d.item; priority = get_or ps k 0 } ≡ get_or (paired l ps) k d
unfolding paired
paired_at [] ps k d h = absurd (omega arith)
paired_at (i ∷ l) [] k d h = absurd (omega arith)
paired_at (i ∷ l) (p ∷ ps) zero d h = refl
paired_at (i ∷ l) (p ∷ ps) (suc k) d h = paired_at l ps k d (omega arith)

-- ---- bytes make hashes of 256 bits and priorities of 64

abbrev pub Low : List ℕ → Type 0
Low b = (i : ℕ) → get_or b i 0 < 256

pub low-drop : (k : ℕ) (b : List ℕ) → Low b → Low (drop k b)
low-drop k b p i = rw get_or-drop (p (k + i))

number_fits : (k : ℕ) (b : List ℕ) → k ≤ length b → Low b → number 256 (take k b) < 256 ^ k
number_fits k b h p =
    let l : length (take k b) ≡ k = length-take-le k b h in
    let below = number_below 256 (take k b) (λ i g. rw (get_or-take k b i 0 (omega arith)) (p i)) in
    rw l at below

recs-hashes : (n : ℕ) (b : List ℕ) → item_bytes * n ≤ length b → Low b → Each (λ (i : Item). i.hash < top) (recs item_bytes item_in n b)
unfolding recs item_in top
recs-hashes zero b h p = tt
recs-hashes (suc n) b h p = (
  rw (drop-take 8 32 b) (number_fits hash_bytes (drop 8 b) (simp length-drop (omega arith)) (low-drop 8 b p)),
  recs-hashes n (drop item_bytes b) (simp length-drop (omega arith)) (low-drop item_bytes b p),
)

pub items-fit : (b : List ℕ) → Low b → Each (λ (i : Item). i.hash < top) (items_in b)
unfolding items_in
items-fit b p = recs-hashes (length b / item_bytes) b (omega arith) p

recs-words : (n : ℕ) (b : List ℕ) → 8 * n ≤ length b → Low b → Each (λ (w : ℕ). w < word) (recs 8 (number 256) n b)
unfolding recs
recs-words zero b h p = tt
recs-words (suc n) b h p = (number_fits 8 b (omega arith) p, recs-words n (drop 8 b) (simp length-drop (omega arith)) (low-drop 8 b p))

words-fit : (b : List ℕ) → Low b → Each (λ (w : ℕ). w < word) (words b)
unfolding words
words-fit b p = recs-words (length b / 8) b (omega arith) p

paired-fit : (l : List Item) (ps : List ℕ) → Each (λ (i : Item). i.hash < top) l → Each (λ (w : ℕ). w < word) ps → Each OfferTyped (paired l ps)
unfolding paired
paired-fit [] ps a b = tt
paired-fit (i ∷ l) [] a b = tt
paired-fit (i ∷ l) (p ∷ ps) a b = (record { hash = a.0; priority = b.0 }, paired-fit l ps a.1 b.1)

pub offers-fit : (b c : List ℕ) → Low b → Low c → Each OfferTyped (offers_in b c)
offers-fit b c p q = paired-fit (items_in b) (words c) (items-fit b p) (words-fit c q)
