-- One element more in the bytes.
use Prim.Native.Nat.{ℕ, ◌+◌, ◌*◌, ◌≤◌, ◌<◌, ◌^◌}
use mathlib.Core.Path.{◌≡◌, ap, ◌∙◌}
use mathlib.Core.Bool.{true}
use mathlib.Core.List.{List, [], ◌∷◌, ◌++◌, append-nil}
use native.Mathlib.Nat.{lt_of_lt_of_le}
use native.Mathlib.Omega.{arith}
use lib.Dec.{lit≤}
use lib.ListN.{length, length-append}
use lib.Seq.{take_at, drop_at}
use borrow.Author.Tests.{lt-ltb}
use Rattle.ident.specs.declared.ItemKind.{ItemKind}
use Rattle.ident.specs.Number.{Key, Item, top, type_of, is_plain}
use Rattle.ident.specs.Words.{hash_bytes}
use Rattle.ident.proofs.TypeNumbers.{kind-type}
use Rattle.words.specs.Words.{number, digits, recs, bytes_of, splice}
use Rattle.words.proofs.Digits.{length_digits, number_digits}
use Rattle.machine.specs.Call.{key_bytes}
use Rattle.machine.specs.Step.{key_answer}
use Rattle.machine.proofs.AnswerLengths.{length-key_answer}
use Rattle.lent_lists.specs.Lists.{key_in}
use Rattle.lent_lists.specs.Items.{item_bytes, type_top, item_in}
use Rattle.lent_lists.proofs.KeysBack.{key_back}
use Rattle.reading.specs.Given.{Stored}
use Rattle.reading.proofs.Stored.{record-put}
use Rattle.inventory.specs.Given.{items_of, ItemPut, number_bytes, numbers_of}

-- ---- a key

pub key-put : (b : List ℕ) (i : ℕ) (k : Key) {b' : List ℕ} → key_bytes * i + key_bytes ≤ length b → k.hash < top → b' ≡ splice b (key_bytes * i) (key_answer k) → Stored key_bytes key_in b b' i k
key-put b i k r h p = record { is = rw p (record-put key_bytes key_in i b (key_answer k) (omega arith) (length-key_answer k) ∙ ap (λ (z : Key). recs key_bytes key_in i b ++ (z ∷ [])) (key_back k h)) }

-- ---- a number

pub number_put : (c : List ℕ) (i v : ℕ) {c' : List ℕ} → number_bytes * i + number_bytes ≤ length c → v < 2 ^ 64 → c' ≡ splice c (8 * i) (digits 256 8 v) → Stored number_bytes (number 256) c c' i v
number_put c i v r h p =
    record {
      is = rw p (
          record-put number_bytes (number 256) i c (digits 256 8 v) (omega arith) (length_digits 256 8 v)
          ∙ ap (λ (z : ℕ). numbers_of i c ++ (z ∷ [])) (number_digits 256 (lit≤ tt) 8 v (lt_of_lt_of_le h (lit≤ tt))));
    }

-- ---- an item

-- an item's bytes hold it
item_read : (k : ItemKind) (h : ℕ) → is_plain k ≡ true → type_of k < type_top → h < top → item_in (digits 256 8 (type_of k) ++ digits 256 hash_bytes h) ≡ record { kind = k; hash = h }
unfolding item_in top
item_read k h e t u =
    let x : List ℕ = digits 256 8 (type_of k) in
    let y : List ℕ = digits 256 hash_bytes h in
    let n : length x ≡ 8 = length_digits 256 8 (type_of k) in
    let w = number_digits 256 (lit≤ tt) 8 (type_of k) (lt_of_lt_of_le t (lit≤ tt)) in
    rw (take_at x y 8 n, drop_at x y 8 n, w, number_digits 256 (lit≤ tt) hash_bytes h u, lt-ltb (type_of k) type_top t)
    (ap (λ (z : ItemKind). record { kind = z; hash = h }) (kind-type k e))

one_word : (w : ℕ) → bytes_of (w ∷ []) ≡ digits 256 8 w
unfolding bytes_of
one_word w = append-nil (digits 256 8 w)

module _ (b : List ℕ) (i : ℕ) (k : ItemKind) (h : ℕ) (t : type_of k < type_top) (u : h < top) (r : item_bytes * i + item_bytes ≤ length b) where
  abbrev item-bytes : List ℕ
  item-bytes = digits 256 8 (type_of k) ++ digits 256 hash_bytes h

  at_item : 8 * (i * 5) ≡ item_bytes * i
  at_item = omega arith

  length-item : length item-bytes ≡ item_bytes
  length-item = simp (length-append, length_digits)

  pub item-put : {w g : ℕ} {b' : List ℕ} → w ≡ type_of k → g ≡ h → b' ≡ splice b (8 * (i * 5)) (bytes_of (w ∷ []) ++ digits 256 hash_bytes g) → ItemPut b b' i k h
  item-put x y p = record {
    is = λ e. record {
      is = rw (p, x, y, one_word (type_of k), at_item) (
          record-put item_bytes item_in i b item-bytes (omega arith) length-item
          ∙ ap (λ (z : Item). items_of i b ++ (z ∷ [])) (item_read k h e t u));
    };
  }
