-- The round trips of the two calls, by their contracts (document 02, request a): what a write left is read as the list that it was given, and what a read left is
-- written as that payload. What a read left is also the list of items, as the calls that are given items read it.
use Prim.Native.Nat.{ℕ, ◌*◌, ◌/◌, ◌≤◌}
use mathlib.Core.Path.{◌≡◌, sym, ap, ◌∙◌}
use mathlib.Core.Logic.{◌⊎◌, inl, inr}
use mathlib.Core.Bool.{true}
use mathlib.Core.List.{List, [], append-nil}
use mathlib.Core.Option.{Option, none, some}
use native.Mathlib.Omega.{arith}
use lib.Dec.{ltb, leb}
use lib.ListN.{length, take, drop}
use lib.Seq.{take_at}
use borrow.Author.Tests.{ltb-false, le-ltb, le-leb, leb-true}
use Rattle.ident.specs.Number.{Item}
use Rattle.words.specs.Words.{recs, words}
use Rattle.machine.specs.Call.{Buffer}
use Rattle.machine.specs.Step.{written}
use Rattle.machine.specs.Typed.{Each}
use Rattle.machine.proofs.Tests.{test, and_left, and_right}
use Rattle.lent_lists.specs.Items.{item_bytes, item_in, items_in, paired, offers_in}
use Rattle.lent_lists.proofs.Inventory.{Low}
use Rattle.wire.specs.Payload.{max_items, payload_of, items_of, all_plain, writable}
use Rattle.wire.specs.Calls.{bad_payload, short_buffer, PayloadReply, PayloadRefused, Items, PayloadBytes, Handed, items_answer, items_read, Reads, Writes}
use Rattle.wire.proofs.Records.{Fits, length-answer, answer_back, list-fits}
use Rattle.wire.proofs.Payloads.{payload_back, payload-text}

-- what a call leaves
abbrev left : PayloadReply → Buffer → Handed
left r u = record { reply = r; buffer = u }

-- no reply is two of them
module _ {X : Type 0} where
  not_items : {n : ℕ} {l : List Item} → Items l ≡ PayloadRefused n → X
  not_items e = let z : ◌≡◌ {A = ℕ} 0 1 = cc in absurd (omega arith)

  not_bytes : {n m : ℕ} → PayloadBytes m ≡ PayloadRefused n → X
  not_bytes e = let z : ◌≡◌ {A = ℕ} 0 1 = cc in absurd (omega arith)

-- ---- what a call that was carried out says

-- a read: the payload's items, and they stand in the buffer
pub record ReadIs (o : Option (List Item)) (l : List Item) (u u' : Buffer) : Type 0 where
  pub items : o ≡ some l
  pub room : item_bytes * length l ≤ length u
  pub buffer : u' ≡ written (items_answer l) u

read_is : (o : Option (List Item)) (l : List Item) (u u' : Buffer) → left (Items l) u' ≡ items_read o u → ReadIs o l u u'
read_is none l u u' e = not_items (ap (λ (h : Handed). h.reply) e)
read_is (some m) l u u' e =
    elim (test (ltb (length u) (item_bytes * length m))) [
      | inl t ↦ let f : left (Items l) u' ≡ left (PayloadRefused short_buffer) u = rw t at e in not_items (ap (λ (h : Handed). h.reply) f)
      | inr t ↦
          let f : left (Items l) u' ≡ left (Items m) (written (items_answer m) u) = rw t at e in
          let r : Items l ≡ Items m = ap (λ (h : Handed). h.reply) f in
          let q : l ≡ m = cc in
          record { items = ap (λ (x : List Item). some x) (sym q); room = rw q (ltb-false (length u) (item_bytes * length m) t); buffer = ap (λ (h : Handed). h.buffer) f ∙ rw q }
    ]

-- a write: the list can be written, and its payload stands in the buffer
pub record WriteIs (l : List Item) (u u' : Buffer) (n : ℕ) : Type 0 where
  pub able : writable l ≡ true
  pub count : n ≡ length (payload_of l)
  pub room : length (payload_of l) ≤ length u
  pub buffer : u' ≡ written (payload_of l) u

write_is : (l : List Item) (u u' : Buffer) (n : ℕ) → Writes l u u' (PayloadBytes n) → WriteIs l u u' n
write_is l u u' n e =
    elim (test (writable l)) [
      | inl s ↦ elim (test (ltb (length u) (length (payload_of l)))) [
        | inl t ↦ let f : left (PayloadBytes n) u' ≡ left (PayloadRefused short_buffer) u = rw (s, t) at e in not_bytes (ap (λ (h : Handed). h.reply) f)
        | inr t ↦
            let f : left (PayloadBytes n) u' ≡ left (PayloadBytes (length (payload_of l))) (written (payload_of l) u) = rw (s, t) at e in
            let r : PayloadBytes n ≡ PayloadBytes (length (payload_of l)) = ap (λ (h : Handed). h.reply) f in
            record { able = s; count = cc; room = ltb-false (length u) (length (payload_of l)) t; buffer = ap (λ (h : Handed). h.buffer) f }
      ]
      | inr s ↦ let f : left (PayloadBytes n) u' ≡ left (PayloadRefused bad_payload) u = rw s at e in not_bytes (ap (λ (h : Handed). h.reply) f)
    ]

-- ---- written, then read

front : (x u : List ℕ) (n : ℕ) → n ≡ length x → take n (written x u) ≡ x
unfolding written
front x u n e = take_at x (drop (length x) u) n (sym e)

-- "reading its output must yield the list it was given", with room for its items
pub written_read : (b u u' v : List ℕ) (n : ℕ) → Low b → Writes (items_in b) u u' (PayloadBytes n) → item_bytes * length (items_in b) ≤ length v
    → Reads (take n u') v (written (items_answer (items_in b)) v) (Items (items_in b))
written_read b u u' v n p e h =
    let l = items_in b in
    let w = write_is l u u' n e in
    let t : take n u' ≡ payload_of l = ap (take n) w.buffer ∙ front (payload_of l) u n w.count in
    let few : length l ≤ max_items = leb-true (length l) max_items (and_left (leb (length l) max_items) (all_plain l) w.able) in
    let plain : all_plain l ≡ true = and_right (leb (length l) max_items) (all_plain l) w.able in
    rw (t, payload_back l (list-fits b p) plain few, le-ltb (length v) (item_bytes * length l) h)

-- ---- read, then handed on or written

listed : (l : List Item) → Each Fits l → all_plain l ≡ true → items_in (items_answer l) ≡ l
unfolding items_in
listed l f p =
    let k : length (items_answer l) / item_bytes ≡ length l = omega (arith, length-answer l) in
    rw k (ap (recs item_bytes item_in (length l)) (sym (append-nil (items_answer l))) ∙ answer_back l [] f p)

module _ (p u u' : List ℕ) (l : List Item) (low : Low p) (e : Reads p u u' (Items l)) where
  -- the list that `transaction_not_found` is given by the bytes that the reader wrote
  pub handed-on : items_in (take (item_bytes * length l) u') ≡ l
  handed-on =
      let r = read_is (items_of p) l u u' e in
      let a = payload-text p l low r.items in
      ap (λ (x : List ℕ). items_in (take (item_bytes * length l) x)) r.buffer ∙ ap items_in (front (items_answer l) u (item_bytes * length l) (sym (length-answer l))) ∙ listed l a.fits a.plain

  -- and that `announce_transactions` is given with priorities beside them
  pub offered_on : (c : List ℕ) → offers_in (take (item_bytes * length l) u') c ≡ paired l (words c)
  offered_on c = ap (λ (x : List Item). paired x (words c)) handed-on

  -- "writing an accepted payload must yield that payload", with room for its bytes
  pub read_written : (v : List ℕ) → length p ≤ length v → Writes (items_in (take (item_bytes * length l) u')) v (written p v) (PayloadBytes (length p))
  read_written v h =
      let a = payload-text p l low (read_is (items_of p) l u u' e).items in
      rw (handed-on, le-leb (length l) max_items a.few, a.plain, a.text, le-ltb (length v) (length p) h)

-- ---- refusals: 10 or 7, and the buffer stays

pub read_refused : (p u u' : List ℕ) (n : ℕ) → Reads p u u' (PayloadRefused n) → (u' ≡ u) × ((n ≡ bad_payload) ⊎ (n ≡ short_buffer))
read_refused p u u' n e = by_items (items_of p) e
  where
    by_items : (o : Option (List Item)) → left (PayloadRefused n) u' ≡ items_read o u → (u' ≡ u) × ((n ≡ bad_payload) ⊎ (n ≡ short_buffer))
    by_items none f = let r : PayloadRefused n ≡ PayloadRefused bad_payload = ap (λ (h : Handed). h.reply) f in (ap (λ (h : Handed). h.buffer) f, inl (cc))
    by_items (some m) f =
        elim (test (ltb (length u) (item_bytes * length m))) [
          | inl t ↦
              let g : left (PayloadRefused n) u' ≡ left (PayloadRefused short_buffer) u = rw t at f in
              let r : PayloadRefused n ≡ PayloadRefused short_buffer = ap (λ (h : Handed). h.reply) g in
              (ap (λ (h : Handed). h.buffer) g, inr (cc))
          | inr t ↦
              let g : left (PayloadRefused n) u' ≡ left (Items m) (written (items_answer m) u) = rw t at f in
              not_items (sym (ap (λ (h : Handed). h.reply) g))
        ]

pub write-refused : (l : List Item) (u u' : List ℕ) (n : ℕ) → Writes l u u' (PayloadRefused n) → (u' ≡ u) × ((n ≡ bad_payload) ⊎ (n ≡ short_buffer))
write-refused l u u' n e =
    elim (test (writable l)) [
      | inl s ↦ elim (test (ltb (length u) (length (payload_of l)))) [
        | inl t ↦
            let g : left (PayloadRefused n) u' ≡ left (PayloadRefused short_buffer) u = rw (s, t) at e in
            let r : PayloadRefused n ≡ PayloadRefused short_buffer = ap (λ (h : Handed). h.reply) g in
            (ap (λ (h : Handed). h.buffer) g, inr (cc))
        | inr t ↦
            let g : left (PayloadRefused n) u' ≡ left (PayloadBytes (length (payload_of l))) (written (payload_of l) u) = rw (s, t) at e in
            not_bytes (sym (ap (λ (h : Handed). h.reply) g))
      ]
      | inr s ↦
          let g : left (PayloadRefused n) u' ≡ left (PayloadRefused bad_payload) u = rw s at e in
          let r : PayloadRefused n ≡ PayloadRefused bad_payload = ap (λ (h : Handed). h.reply) g in
          (ap (λ (h : Handed). h.buffer) g, inl (cc))
    ]
