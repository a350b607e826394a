-- What the two calls answer, by the tests that they make.
use Prim.Native.Nat.{ℕ, zero, suc, ◌+◌, ◌*◌, ◌≤◌, ◌<◌}
use mathlib.Core.Path.{◌≡◌, refl, sym, ap, ◌∙◌}
use mathlib.Core.Logic.{inl, inr}
use mathlib.Core.Bool.{Bool, true, false, ◌&&◌}
use mathlib.Core.List.{List}
use mathlib.Core.Option.{none}
use native.Mathlib.Numerals.{add-one}
use native.Mathlib.Omega.{arith}
use lib.Dec.{leb}
use lib.ListN.{length, drop, get_or, length-append, length-drop, drop_of_length-le}
use lib.Seq.{drop-cons}
use borrow.Author.Tests.{lt-ltb, le-ltb, le-leb, lt-leb}
use Rattle.std.specs.List.{list_all, range_with_len}
use Rattle.ident.specs.declared.ItemKind.TheVariants.{Other}
use Rattle.ident.specs.Number.{Item, is_plain}
use Rattle.words.specs.Words.{recs, splice}
use Rattle.words.proofs.Records.{length-recs}
use Rattle.machine.specs.Step.{written}
use Rattle.machine.proofs.Tests.{test}
use Rattle.lent_lists.specs.Items.{item_bytes, item_in}
use Rattle.lent_lists.proofs.Inventory.{Low, low-drop}
use Rattle.wire.specs.Payload.{max_items, wire_bytes, compact_size, wires_of, payload_of, wire_item, items_of, all_plain}
use Rattle.wire.specs.Calls.{bad_payload, short_buffer, PayloadRefused, PayloadBytes, items_answer, items_listed, Reads, Writes}
use Rattle.wire.specs.Steps.{Holds}
use Rattle.wire.proofs.Filling.{write_both}
use Rattle.wire.proofs.Records.{length_wires, answer_back, read_fits, read_plain}

-- ---- other items of the three types, one item at a time

-- there is an item at every index that is looked at
pub no_item : Item
no_item = record { kind = Other 0; hash = 0 }

-- the i-th is plain
abbrev pub plain_at : List Item → ℕ → Bool
plain_at l i = is_plain (get_or l i no_item).kind

plain_from : (l : List Item) (n i : ℕ) → i + n ≡ length l → list_all (plain_at l) (range_with_len i n) ≡ all_plain (drop i l)
unfolding all_plain
plain_from l zero i h = let e : length l ≤ i = omega arith in rw (drop_of_length-le l e) refl
plain_from l (suc n) i h =
    ap (λ (b : Bool). plain_at l i && b) (plain_from l n (i + 1) (omega arith))
    ∙ sym (ap all_plain (drop-cons l i no_item (omega arith)) ∙ ap (λ (j : ℕ). plain_at l i && all_plain (drop j l)) (sym (add-one i)))

pub plain_by : (l : List Item) (n : ℕ) → n ≡ length l → list_all (plain_at l) (range_with_len 0 n) ≡ all_plain l
plain_by l n h = plain_from l n 0 (omega arith)

-- ---- reading

pub read_bad : (p u : List ℕ) → items_of p ≡ none → Reads p u u (PayloadRefused bad_payload)
read_bad p u e = rw e

pub read_short : {p : List ℕ} {n a : ℕ} (u : List ℕ) → Holds p n a → length u < n * item_bytes → Reads p u u (PayloadRefused short_buffer)
read_short {p} {n} {a} u h l =
    let k : length (recs wire_bytes wire_item n (drop a p)) ≡ n = length-recs wire_bytes wire_item n (drop a p) in
    rw (h.items, k, lt-ltb (length u) (item_bytes * n) (omega arith))

-- what the reader wrote, as the calls that are given items read it
pub items_back : (n : ℕ) (b u : List ℕ) → wire_bytes * n ≤ length b → Low b → recs item_bytes item_in n (written (items_answer (recs wire_bytes wire_item n b)) u) ≡ recs wire_bytes wire_item n b
unfolding written
items_back n b u h p =
    let l = recs wire_bytes wire_item n b in
    let k : length l ≡ n = length-recs wire_bytes wire_item n b in
    rw k at (answer_back l (drop (length (items_answer l)) u) (read_fits n b h p) (read_plain n b))

pub read_done : {p : List ℕ} {n a : ℕ} (u : List ℕ) {u' : List ℕ} → Low p → Holds p n a → n * item_bytes ≤ length u → u' ≡ written (items_answer (recs wire_bytes wire_item n (drop a p))) u
    → Reads p u u' (items_listed n u')
read_done {p} {n} {a} u q h l e =
    let k : length (recs wire_bytes wire_item n (drop a p)) ≡ n = length-recs wire_bytes wire_item n (drop a p) in
    let d : wire_bytes * n ≤ length (drop a p) = simp length-drop (omega (arith, h.whole)) in
    rw (h.items, k, le-ltb (length u) (item_bytes * n) (omega arith), e, items_back n (drop a p) u d (low-drop a p q))

-- ---- writing

pub write-many : (l : List Item) (u : List ℕ) {n : ℕ} → n ≡ length l → max_items < n → Writes l u u (PayloadRefused bad_payload)
write-many l u e h = rw (lt-leb (length l) max_items (omega arith))

pub write_other : (l : List Item) (u : List ℕ) {r : Bool} → r ≡ all_plain l → r ≡ false → Writes l u u (PayloadRefused bad_payload)
write_other l u e f = rw (sym e ∙ f) (elim (test (leb (length l) max_items)) [ inl t ↦ rw t | inr t ↦ rw t ])

-- n items, the count in a bytes: what a list that can be written needs
module _ (l : List Item) (u : List ℕ) {n a : ℕ} {r : Bool} (e : n ≡ length l) (m : n ≤ max_items) (p : r ≡ all_plain l) (q : r ≡ true) (f : a ≡ length (compact_size n)) where
  length-payload : length (payload_of l) ≡ a + n * wire_bytes
  length-payload = omega (arith, length-append (compact_size (length l)) (wires_of l), length_wires l, f ∙ ap (λ (k : ℕ). length (compact_size k)) e)

  pub write-short : length u < a + n * wire_bytes → Writes l u u (PayloadRefused short_buffer)
  write-short h = rw (le-leb (length l) max_items (omega arith), sym p ∙ q, lt-ltb (length u) (length (payload_of l)) (omega (arith, length-payload)))

  pub write_done : {u₁ u₂ : List ℕ} → a + n * wire_bytes ≤ length u → u₁ ≡ written (compact_size n) u → u₂ ≡ splice u₁ a (wires_of l) → Writes l u u₂ (PayloadBytes (a + n * wire_bytes))
  write_done h g i =
      let w = write_both l u e f (omega arith) g i in
      rw (w, le-leb (length l) max_items (omega arith), sym p ∙ q, le-ltb (length u) (length (payload_of l)) (omega (arith, length-payload)), length-payload)
