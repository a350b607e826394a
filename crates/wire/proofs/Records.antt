-- One item: in the 36 bytes of a payload and in the 40 of a list. And items one behind the other.
use Prim.Native.Nat.{ℕ, zero, suc, ◌*◌, ◌/◌, ◌^◌, ◌≤◌, ◌<◌}
use mathlib.Core.Path.{◌≡◌, refl, ap, ◌∙◌}
use mathlib.Core.Logic.{inl, inr}
use mathlib.Core.Bool.{true}
use mathlib.Core.List.{List, [], ◌∷◌, ◌++◌, append_assoc}
use native.Mathlib.Omega.{arith}
use lib.Dec.{ltb, lit<}
use lib.ListN.{length, take, drop, length-append, length-drop, take-append-drop}
use lib.Seq.{take_at, drop_at, length-take-le}
use borrow.Author.Tests.{lt-ltb, ltb-true}
use Rattle.ident.specs.declared.ItemKind.{ItemKind}
use Rattle.ident.specs.Number.{Item, top, type_of, item_kind_of, is_plain}
use Rattle.ident.proofs.TypeNumbers.{kind-plain, type-kind, kind-type}
use Rattle.words.specs.Words.{number, digits, recs, bytes_of}
use Rattle.words.proofs.Digits.{length_digits, number_digits, digits_number, number_below}
use Rattle.words.proofs.Words.{length-bytes as length-bytes_of}
use Rattle.machine.specs.Typed.{Each}
use Rattle.machine.proofs.Tests.{test, and_left, and_right}
use Rattle.lent_lists.specs.Items.{item_bytes, type_top, item_kind_in, item_in, items_in}
use Rattle.lent_lists.proofs.Inventory.{Low, low-drop, items-fit}
use Rattle.lent_lists.proofs.KeysBack.{word_back, hash_back}
use Rattle.wire.specs.Payload.{wire_bytes, wire_of, wires_of, wire_item, all_plain}
use Rattle.wire.specs.Calls.{item_answer, items_answer}

-- an item's type has 32 bits, and its hash 256
pub record Fits (i : Item) : Type 0 where
  pub type : type_of i.kind < type_top
  pub hash : i.hash < top

-- ---- how long they are

pub length-wire : (i : Item) → length (wire_of i) ≡ wire_bytes
length-wire i = simp (length-append, length_digits)

pub length_wires : (l : List Item) → length (wires_of l) ≡ wire_bytes * length l
unfolding wires_of
length_wires [] = refl
length_wires (i ∷ l) = omega (arith, length-append (wire_of i) (wires_of l), length-wire i, length_wires l)

pub length-item : (i : Item) → length (item_answer i) ≡ item_bytes
length-item i = simp (length-append, length-bytes_of, length_digits)

pub length-answer : (l : List Item) → length (items_answer l) ≡ item_bytes * length l
unfolding items_answer
length-answer [] = refl
length-answer (i ∷ l) = omega (arith, length-append (item_answer i) (items_answer l), length-item i, length-answer l)

-- ---- bytes as numbers, and back

pub low-take : (k : ℕ) (b : List ℕ) → Low b → Low (take k b)
low-take zero b p i = omega arith
low-take (suc k) [] p i = omega arith
low-take (suc k) (x ∷ b) p zero = p 0
low-take (suc k) (x ∷ b) p (suc i) = low-take k b (λ j. p (suc j)) i

pub digits_back : (k : ℕ) (b : List ℕ) → length b ≡ k → Low b → digits 256 k (number 256 b) ≡ b
digits_back k b e p = rw e at (digits_number 256 (lit< tt) b (λ i g. p i))

pub below : (k : ℕ) (b : List ℕ) → length b ≡ k → Low b → number 256 b < 256 ^ k
below k b e p = rw e at (number_below 256 b (λ i g. p i))

-- ---- 36 bytes

-- what is read of them is written as them
wire-text : (b : List ℕ) → length b ≡ wire_bytes → Low b → wire_of (wire_item b) ≡ b
unfolding wire_item
wire-text b e p =
    let k : length (take 4 b) ≡ 4 = length-take-le 4 b (omega arith) in
    let l : length (drop 4 b) ≡ 32 = simp length-drop (omega arith) in
    rw (type-kind (number 256 (take 4 b)), digits_back 4 (take 4 b) k (low-take 4 b p), digits_back 32 (drop 4 b) l (low-drop 4 b p)) (take-append-drop 4 b)

wire-fits : (b : List ℕ) → length b ≡ wire_bytes → Low b → Fits (wire_item b)
unfolding wire_item top
wire-fits b e p =
    let k : length (take 4 b) ≡ 4 = length-take-le 4 b (omega arith) in
    let l : length (drop 4 b) ≡ 32 = simp length-drop (omega arith) in
    record { type = rw (type-kind (number 256 (take 4 b))) (below 4 (take 4 b) k (low-take 4 b p)); hash = below 32 (drop 4 b) l (low-drop 4 b p) }

type_back : (t : ℕ) → t < type_top → number 256 (digits 256 4 t) ≡ t
type_back t l = number_digits 256 (lit< tt) 4 t l

-- an item that is written is read
wire_back : (i : Item) → Fits i → is_plain i.kind ≡ true → wire_item (wire_of i) ≡ i
unfolding wire_item
wire_back i f p =
    let t = type_of i.kind in
    let e = length_digits 256 4 t in
    let a : number 256 (take 4 (wire_of i)) ≡ t = rw (take_at (digits 256 4 t) (digits 256 32 i.hash) 4 e) (type_back t f.type) in
    let b : number 256 (drop 4 (wire_of i)) ≡ i.hash = rw (drop_at (digits 256 4 t) (digits 256 32 i.hash) 4 e) (hash_back i.hash f.hash) in
    λ j. record { kind = (ap item_kind_of a ∙ kind-type i.kind p) j; hash = b j }

-- ---- 40 bytes

kind_back : (k : ItemKind) → type_of k < type_top → is_plain k ≡ true → item_kind_in (type_of k) ≡ k
kind_back k l p = rw (lt-ltb (type_of k) type_top l) (kind-type k p)

item_back : (i : Item) → Fits i → is_plain i.kind ≡ true → item_in (item_answer i) ≡ i
unfolding item_in
item_back i f p =
    let t = type_of i.kind in
    let w = bytes_of (t ∷ []) in
    let e = length-bytes_of (t ∷ []) in
    let a : number 256 (take 8 (item_answer i)) ≡ t = rw (take_at w (digits 256 32 i.hash) 8 e) (word_back t (omega (arith, f.type))) in
    let b : number 256 (drop 8 (item_answer i)) ≡ i.hash = rw (drop_at w (digits 256 32 i.hash) 8 e) (hash_back i.hash f.hash) in
    λ j. record { kind = (ap item_kind_in a ∙ kind_back i.kind f.type p) j; hash = b j }

-- ---- one behind the other

pub wires_text : (n : ℕ) (b : List ℕ) → length b ≡ wire_bytes * n → Low b → wires_of (recs wire_bytes wire_item n b) ≡ b
unfolding wires_of recs
wires_text zero [] e p = refl
wires_text zero (x ∷ b) e p = absurd (omega arith)
wires_text (suc n) b e p =
    let l : length (take wire_bytes b) ≡ wire_bytes = length-take-le wire_bytes b (omega arith) in
    let m : length (drop wire_bytes b) ≡ wire_bytes * n = simp length-drop (omega arith) in
    rw (wire-text (take wire_bytes b) l (low-take wire_bytes b p), wires_text n (drop wire_bytes b) m (low-drop wire_bytes b p)) (take-append-drop wire_bytes b)

pub wires_back : (l : List Item) → Each Fits l → all_plain l ≡ true → recs wire_bytes wire_item (length l) (wires_of l) ≡ l
unfolding wires_of recs all_plain
wires_back [] f p = refl
wires_back (i ∷ l) f p =
    rw (
      take_at (wire_of i) (wires_of l) wire_bytes (length-wire i),
      drop_at (wire_of i) (wires_of l) wire_bytes (length-wire i),
      wire_back i f.0 (and_left (is_plain i.kind) (all_plain l) p),
      wires_back l f.1 (and_right (is_plain i.kind) (all_plain l) p),
    )

pub answer_back : (l : List Item) (v : List ℕ) → Each Fits l → all_plain l ≡ true → recs item_bytes item_in (length l) (items_answer l ++ v) ≡ l
unfolding items_answer recs all_plain
answer_back [] v f p = refl
answer_back (i ∷ l) v f p =
    rw (
      append_assoc (item_answer i) (items_answer l) v,
      take_at (item_answer i) (items_answer l ++ v) item_bytes (length-item i),
      drop_at (item_answer i) (items_answer l ++ v) item_bytes (length-item i),
      item_back i f.0 (and_left (is_plain i.kind) (all_plain l) p),
      answer_back l v f.1 (and_right (is_plain i.kind) (all_plain l) p),
    )

-- what is read has its widths, and no other item of the three types
pub read_fits : (n : ℕ) (b : List ℕ) → wire_bytes * n ≤ length b → Low b → Each Fits (recs wire_bytes wire_item n b)
unfolding recs
read_fits zero b h p = tt
read_fits (suc n) b h p =
    let l : length (take wire_bytes b) ≡ wire_bytes = length-take-le wire_bytes b (omega arith) in
    (wire-fits (take wire_bytes b) l (low-take wire_bytes b p), read_fits n (drop wire_bytes b) (simp length-drop (omega arith)) (low-drop wire_bytes b p))

pub read_plain : (n : ℕ) (b : List ℕ) → all_plain (recs wire_bytes wire_item n b) ≡ true
unfolding recs all_plain wire_item
read_plain zero b = refl
read_plain (suc n) b = rw (kind-plain (number 256 (take 4 (take wire_bytes b))), read_plain n (drop wire_bytes b))

-- ---- the items of any list have their widths

kind_fits : (w : ℕ) → type_of (item_kind_in w) < type_top
kind_fits w = elim (test (ltb w type_top)) [ inl e ↦ rw (e, type-kind w) (ltb-true w type_top e) | inr e ↦ rw e (omega arith) ]

recs-types : (n : ℕ) (b : List ℕ) → Each (λ (i : Item). type_of i.kind < type_top) (recs item_bytes item_in n b)
unfolding recs item_in
recs-types zero b = tt
recs-types (suc n) b = (kind_fits (number 256 (take 8 (take item_bytes b))), recs-types n (drop item_bytes b))

both_fit : (l : List Item) → Each (λ (i : Item). type_of i.kind < type_top) l → Each (λ (i : Item). i.hash < top) l → Each Fits l
both_fit [] t h = tt
both_fit (i ∷ l) t h = (record { type = t.0; hash = h.0 }, both_fit l t.1 h.1)

pub list-fits : (b : List ℕ) → Low b → Each Fits (items_in b)
unfolding items_in
list-fits b p = both_fit (recs item_bytes item_in (length b / item_bytes) b) (recs-types (length b / item_bytes) b) (items-fit b p)
