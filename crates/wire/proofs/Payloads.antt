-- Both round trips: of the definitions, and of the calls by their contracts (document 02, request a).
use Prim.Native.Nat.{ℕ, ◌*◌, ◌^◌, ◌≤◌, ◌<◌}
use mathlib.Core.Path.{◌≡◌, refl, sym, ap, ◌∙◌}
use mathlib.Core.Logic.{inl, inr}
use mathlib.Core.Bool.{true, ◌&&◌}
use mathlib.Core.List.{List, [], ◌∷◌, ◌++◌}
use mathlib.Core.Option.{Option, none, some}
use native.Mathlib.Omega.{arith}
use lib.Dec.{ltb, leb, eqb, lit<}
use lib.ListN.{length, take, drop, length-append, take-append-drop}
use lib.Seq.{take_at, drop_at, length-take-le}
use borrow.Author.Tests.{ltb-true, ltb-false, leb-true, leb-false, eqb-true, eqb-false}
use Rattle.ident.specs.Number.{Item}
use Rattle.words.specs.Words.{number, digits, recs}
use Rattle.words.proofs.Digits.{length_digits, number_digits}
use Rattle.words.proofs.Records.{length-recs}
use Rattle.machine.specs.Typed.{Each}
use Rattle.machine.proofs.Tests.{test, and_left, and_right}
use Rattle.lent_lists.proofs.Inventory.{Low, low-drop}
use Rattle.wire.specs.Payload.{max_items, wire_bytes, compact_size, wire_item, wires_of, payload_of, items_after, items_of, all_plain}
use Rattle.wire.proofs.Counts.{size_one, size-three, items_one, items-three, none_long, none_cut, none_low, none_empty, after_some}
use Rattle.wire.proofs.Records.{Fits, length_wires, wires_text, wires_back, read_plain, read_fits, digits_back, below, low-take}

-- ---- what is written is read: "reading its output must yield the list it was given"

behind : (l : List Item) → Each Fits l → all_plain l ≡ true → length l ≤ max_items → items_after (length l) (wires_of l) ≡ some l
behind l f p h = after_some (length l) (wires_of l) h (length_wires l) ∙ ap (λ (x : List Item). some x) (wires_back l f p)

three_back : (l : List Item) → Each Fits l → all_plain l ≡ true → length l ≤ max_items → 253 ≤ length l → items_of (253 ∷ (digits 256 2 (length l) ++ wires_of l)) ≡ some l
three_back l f p h g =
    let n = length l in
    let w = digits 256 2 n ++ wires_of l in
    let d = length_digits 256 2 n in
    let v : number 256 (take 2 w) ≡ n = ap (number 256) (take_at (digits 256 2 n) (wires_of l) 2 d) ∙ number_digits 256 (lit< tt) 2 n (omega arith) in
    let k : 2 ≤ length w = omega (arith, length-append (digits 256 2 n) (wires_of l)) in
    items-three w k (omega arith) (omega arith) ∙ rw (v, drop_at (digits 256 2 n) (wires_of l) 2 d) (behind l f p h)

pub payload_back : (l : List Item) → Each Fits l → all_plain l ≡ true → length l ≤ max_items → items_of (payload_of l) ≡ some l
payload_back l f p h =
    elim (test (ltb (length l) 253)) [
      | inl e ↦ rw (size_one (length l) (ltb-true (length l) 253 e)) (items_one (length l) (wires_of l) (ltb-true (length l) 253 e) ∙ behind l f p h)
      | inr e ↦ rw (size-three (length l) (ltb-false (length l) 253 e) (omega arith)) (three_back l f p h (ltb-false (length l) 253 e))
    ]

-- ---- what is read is written: "writing an accepted payload must yield that payload"

-- an accepted payload: its items can be written, and are written as it
pub record Accepted (b : List ℕ) (l : List Item) : Type 0 where
  pub text : payload_of l ≡ b
  pub plain : all_plain l ≡ true
  pub few : length l ≤ max_items
  pub fits : Each Fits l

not_some : {A : Type 0} {x : Option A} {y : A} {B : Type 0} → x ≡ none → x ≡ some y → B
not_some e f = let z : ◌≡◌ {A = ℕ} 0 1 = cc in absurd (omega arith)

after_is : (n : ℕ) (b : List ℕ) (l : List Item) → items_after n b ≡ some l → (n ≤ max_items) × (length b ≡ wire_bytes * n) × (l ≡ recs wire_bytes wire_item n b)
after_is n b l e =
    elim (test (leb n max_items && eqb (length b) (wire_bytes * n))) [
      | inl t ↦
          let q : some (recs wire_bytes wire_item n b) ≡ some l = rw t at e in (
            leb-true n max_items (and_left (leb n max_items) (eqb (length b) (wire_bytes * n)) t),
            eqb-true (length b) (wire_bytes * n)
                (and_right (leb n max_items) (eqb (length b) (wire_bytes * n)) t),
            cc,
          )
      | inr t ↦ let q : none ≡ some l = rw t at e in not_some {x = none} refl q
    ]

accepts : (c b : List ℕ) (n : ℕ) (l : List Item) → Low b → compact_size n ≡ c → items_after n b ≡ some l → Accepted (c ++ b) l
accepts c b n l p q e =
    let r = after_is n b l e in
    let k : length l ≡ n = ap length r.2 ∙ length-recs wire_bytes wire_item n b in
    record {
      text = rw (k, q) (ap (λ (x : List Item). c ++ wires_of x) r.2 ∙ ap (λ (x : List ℕ). c ++ x) (wires_text n b r.1 p));
      plain = rw r.2 (read_plain n b);
      few = omega arith;
      fits = rw r.2 (read_fits n b (omega arith) p);
    }

three-text : (b : List ℕ) (l : List Item) → Low b → items_of (253 ∷ b) ≡ some l → Accepted (253 ∷ b) l
three-text b l p e =
    elim (test (leb 2 (length b))) [
      | inl t ↦
          let h : 2 ≤ length b = leb-true 2 (length b) t in
          let k : length (take 2 b) ≡ 2 = length-take-le 2 b h in
          let v = number 256 (take 2 b) in
          let m : v < 256 ^ 2 = below 2 (take 2 b) k (low-take 2 b p) in
          elim (test (ltb v 253)) [
            | inl s ↦ not_some (none_low b h (ltb-true v 253 s)) e
            | inr s ↦
                let g : 253 ≤ v = ltb-false v 253 s in
                let c : compact_size v ≡ 253 ∷ take 2 b = size-three v g m ∙ ap (λ (x : List ℕ). 253 ∷ x) (digits_back 2 (take 2 b) k (low-take 2 b p)) in
                let a : Accepted ((253 ∷ take 2 b) ++ drop 2 b) l = accepts (253 ∷ take 2 b) (drop 2 b) v l (low-drop 2 b p) c (sym (items-three b h g m) ∙ e) in
                rw (take-append-drop 2 b) at a
          ]
      | inr t ↦ not_some (none_cut b (leb-false 2 (length b) t)) e
    ]

pub payload-text : (b : List ℕ) (l : List Item) → Low b → items_of b ≡ some l → Accepted b l
payload-text [] l p e = not_some (none_empty [] refl) e
payload-text (c ∷ b) l p e =
    elim (test (ltb c 253)) [
      | inl t ↦ accepts (c ∷ []) b c l (low-drop 1 (c ∷ b) p) (size_one c (ltb-true c 253 t)) (sym (items_one c b (ltb-true c 253 t)) ∙ e)
      | inr t ↦ elim (test (eqb c 253)) [
        | inl s ↦ let q : c ≡ 253 = eqb-true c 253 s in rw q (three-text b l (low-drop 1 (c ∷ b) p) (rw q at e))
        | inr s ↦ not_some (none_long c b (omega (arith, ltb-false c 253 t, eqb-false c 253 s))) e
      ]
    ]
