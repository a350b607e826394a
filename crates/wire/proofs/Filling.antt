-- Items written to a buffer one behind the other, as the two loops do it.
use Prim.Native.Nat.{ℕ, ◌+◌, ◌*◌, ◌≤◌, ◌<◌, ◌%◌, ◌/◌, ◌^◌}
use mathlib.Core.Path.{◌≡◌, refl, sym, ap, ◌∙◌}
use mathlib.Core.List.{List, [], ◌∷◌, ◌++◌, append_assoc, append-nil}
use native.Mathlib.Nat.{add-zero}
use native.Mathlib.Numerals.{add-one, towards_suc}
use native.Mathlib.Omega.{arith}
use lib.ListN.{length, take, drop, get_or, set, take-append-drop}
use lib.Seq.{take-suc, take-take, drop-drop, length-take-le, take_all, sets-eq}
use Rattle.std.specs.Int.{w32, to_le_bytes}
use Rattle.ident.specs.declared.ItemKind.TheVariants.{Transaction}
use Rattle.ident.specs.Number.{Item, type_of}
use Rattle.ident.proofs.TypeNumbers.{type-kind}
use Rattle.words.specs.Words.{number, digits, recs, bytes_of, splice}
use Rattle.words.proofs.Digits.{length_digits, number_step}
use Rattle.words.proofs.Records.{recs-add, length-recs}
use Rattle.words.proofs.Splice.{splice_more}
use Rattle.machine.specs.Step.{written}
use Rattle.lent_lists.specs.Items.{item_bytes}
use Rattle.lent_lists.proofs.Inventory.{drop-take}
use Rattle.lent_lists.proofs.Answer.{over_front}
use Rattle.wire.specs.Payload.{wire_bytes, compact_size, wire_of, wires_of, wire_item, payload_of}
use Rattle.wire.specs.Calls.{item_answer, items_answer}
use Rattle.wire.proofs.Counts.{size_one, size-three}
use Rattle.wire.proofs.Records.{length-wire, length_wires, length-item, length-answer}

-- ---- behind what is written already

pub written_on : (x y u : List ℕ) (a : ℕ) → a ≡ length x → a + length y ≤ length u → splice (written x u) a y ≡ written (x ++ y) u
written_on x y u a e h =
    ap (λ (s : List ℕ). splice s a y) (over_front x u) ∙ splice_more u 0 a x y (omega arith) h ∙ sym (over_front (x ++ y) u)

-- ---- four bytes of a type

pub four-digits : (s : List ℕ) (a : ℕ) → a + 4 ≤ length s
    → number 256 (take 4 (drop a s)) ≡ get_or s a 0 + get_or s (a + 1) 0 * 256 + get_or s (a + 2) 0 * 65536 + get_or s (a + 3) 0 * 16777216
unfolding number
four-digits s a h =
    omega (
      arith,
      rw add-zero at (number_step 256 s a 0 3 (omega arith)),
      number_step 256 s a 1 2 (omega arith),
      number_step 256 s a 2 1 (omega arith),
      number_step 256 s a 3 0 (omega arith),
    )

-- the bytes of a number, as the library has them, are its digits
bytes-digits : (t : ℕ) → to_le_bytes w32 t ≡ digits 256 4 t
unfolding digits
bytes-digits t =
    let e₂ : t / 256 ^ 2 ≡ t / 256 / 256 = omega arith in
    let e₃ : t / 256 ^ 3 ≡ t / 256 / 256 / 256 = omega arith in
    rw (e₂, e₃)

put-four : (s : List ℕ) (a b0 b1 b2 b3 : ℕ) → a + 4 ≤ length s
    → set (set (set (set s a b0) (a + 1) b1) (a + 2) b2) (a + 3) b3 ≡ splice s a (b0 ∷ b1 ∷ b2 ∷ b3 ∷ [])
unfolding splice
put-four s a b0 b1 b2 b3 h =
    let x = b0 ∷ b1 ∷ b2 ∷ b3 ∷ [] in
    simp towards_suc (simp towards_suc at (sets-eq x s a h ∙ append_assoc (take a s) x (drop (a + 4) s)))

pub stores_four : (s : List ℕ) (a t : ℕ) {b : List ℕ} → a + 4 ≤ length s → b ≡ to_le_bytes w32 t
    → set (set (set (set s a (get_or b 0 0)) (a + 1) (get_or b 1 0)) (a + 2) (get_or b 2 0)) (a + 3) (get_or b 3 0) ≡ splice s a (digits 256 4 t)
stores_four s a t h e = rw e (put-four s a _ _ _ _ h ∙ ap (splice s a) (bytes-digits t))

-- ---- the count

pub stores_one : (s : List ℕ) (n : ℕ) → 1 ≤ length s → n < 253 → set s 0 n ≡ written (compact_size n) s
unfolding written
stores_one [] n h l = absurd (omega arith)
stores_one (x ∷ s) n h l = rw (size_one n l)

pub stores_three : (s : List ℕ) (n : ℕ) → 3 ≤ length s → 253 ≤ n → n < 65536 → set (set (set s 0 253) 1 (n % 256)) 2 (n / 256 % 256) ≡ written (compact_size n) s
unfolding written digits
stores_three [] n h l m = absurd (omega arith)
stores_three (x ∷ []) n h l m = absurd (omega arith)
stores_three (x ∷ y ∷ []) n h l m = absurd (omega arith)
stores_three (x ∷ y ∷ z ∷ s) n h l m = rw (size-three n l m)

-- ---- an item of a payload, stored in a list

pub item_read : (p u : List ℕ) (a i : ℕ) {t h : ℕ} {u' : List ℕ} → a + wire_bytes ≤ length p
    → t ≡ number 256 (take 4 (drop a p)) → h ≡ number 256 (take 32 (drop (a + 4) p)) → u' ≡ splice u (8 * (i * 5)) (bytes_of (t ∷ []) ++ digits 256 32 h)
    → u' ≡ splice u (item_bytes * i) (item_answer (wire_item (take wire_bytes (drop a p))))
unfolding wire_item
item_read p u a i {t} {h} m e f q =
    let b = drop a p in
    let x : t ≡ number 256 (take 4 (take wire_bytes b)) = e ∙ ap (number 256) (sym (take-take 4 wire_bytes b (omega arith))) in
    let z : h ≡ number 256 (drop 4 (take wire_bytes b)) =
    f ∙ ap (λ (s : List ℕ). number 256 (take 32 s)) (sym (drop-drop 4 a p)) ∙ ap (number 256) (sym (drop-take 4 32 b)) in
    let n : 8 * (i * 5) ≡ item_bytes * i = omega arith in
    rw (type-kind (number 256 (take 4 (take wire_bytes b))), ← x, ← z) (rw n at q)

-- ---- items of a payload, stored one behind the other

answer-append : (l m : List Item) → items_answer (l ++ m) ≡ items_answer l ++ items_answer m
unfolding items_answer
answer-append [] m = refl
answer-append (i ∷ l) m = rw (answer-append l m) (sym (append_assoc (item_answer i) (items_answer l) (items_answer m)))

answer_more : (l : List Item) (i : Item) → items_answer (l ++ (i ∷ [])) ≡ items_answer l ++ item_answer i
unfolding items_answer
answer_more l i = answer-append l (i ∷ []) ∙ ap (λ (x : List ℕ). items_answer l ++ x) (append-nil (item_answer i))

recs_more : (n : ℕ) (s : List ℕ) → recs wire_bytes wire_item (n + 1) s ≡ recs wire_bytes wire_item n s ++ (wire_item (take wire_bytes (drop (wire_bytes * n) s)) ∷ [])
unfolding recs
recs_more n s = recs-add wire_bytes wire_item n 1 s

pub read_none : (b u : List ℕ) → u ≡ written (items_answer (recs wire_bytes wire_item 0 b)) u
unfolding written items_answer recs
read_none b u = refl

pub read_turn : (p : List ℕ) (at i : ℕ) (u₀ : List ℕ) {u u' : List ℕ} → item_bytes * i + item_bytes ≤ length u₀ → u ≡ written (items_answer (recs wire_bytes wire_item i (drop at p))) u₀
    → u' ≡ splice u (item_bytes * i) (item_answer (wire_item (take wire_bytes (drop (at + i * wire_bytes) p))))
    → u' ≡ written (items_answer (recs wire_bytes wire_item (i + 1) (drop at p))) u₀
read_turn p at i u₀ h e q =
    let l = recs wire_bytes wire_item i (drop at p) in
    let x = wire_item (take wire_bytes (drop (at + i * wire_bytes) p)) in
    let n : i * wire_bytes ≡ wire_bytes * i = omega arith in
    let m : item_bytes * i ≡ length (items_answer l) = omega (arith, length-answer l, length-recs wire_bytes wire_item i (drop at p)) in
    let d : drop (at + i * wire_bytes) p ≡ drop (wire_bytes * i) (drop at p) = ap (λ (j : ℕ). drop (at + j) p) n ∙ sym (drop-drop (wire_bytes * i) at p) in
    let more : items_answer l ++ item_answer x ≡ items_answer (recs wire_bytes wire_item (i + 1) (drop at p)) =
    sym (answer_more l x) ∙ ap (λ (b : List ℕ). items_answer (l ++ (wire_item (take wire_bytes b) ∷ []))) d ∙ ap items_answer (sym (recs_more i (drop at p))) in
    q ∙ ap (λ (s : List ℕ). splice s (item_bytes * i) (item_answer x)) e
    ∙ written_on (items_answer l) (item_answer x) u₀ (item_bytes * i) m (omega (arith, length-item x)) ∙ ap (λ (s : List ℕ). written s u₀) more

-- ---- an item of a list, stored in a payload

pub item-write : (u : List ℕ) (x : Item) (a : ℕ) {t : ℕ} {u₁ u₂ : List ℕ} → a + wire_bytes ≤ length u → t ≡ type_of x.kind → u₁ ≡ splice u a (digits 256 4 t)
    → u₂ ≡ splice u₁ (a + 4) (digits 256 32 x.hash) → u₂ ≡ splice u a (wire_of x)
item-write u x a {t} h e p q =
    let j = length_digits 256 4 t in
    let k = length_digits 256 32 x.hash in
    q ∙ ap (λ (s : List ℕ). splice s (a + 4) (digits 256 32 x.hash)) p ∙ splice_more u a (a + 4) (digits 256 4 t) (digits 256 32 x.hash) (omega arith) (omega arith) ∙ rw e

-- ---- items of a list, stored one behind the other

wires_append : (l m : List Item) → wires_of (l ++ m) ≡ wires_of l ++ wires_of m
unfolding wires_of
wires_append [] m = refl
wires_append (i ∷ l) m = rw (wires_append l m) (sym (append_assoc (wire_of i) (wires_of l) (wires_of m)))

wires_more : (l : List Item) (i : Item) → wires_of (l ++ (i ∷ [])) ≡ wires_of l ++ wire_of i
unfolding wires_of
wires_more l i = wires_append l (i ∷ []) ∙ ap (λ (x : List ℕ). wires_of l ++ x) (append-nil (wire_of i))

pub write_none : (l : List Item) (u : List ℕ) (a : ℕ) → u ≡ splice u a (wires_of (take 0 l))
unfolding splice wires_of
write_none l u a = rw add-zero (sym (take-append-drop a u))

pub write_turn : (l : List Item) (i a : ℕ) (u₀ : List ℕ) {u u' : List ℕ} → i < length l → a + wire_bytes * length l ≤ length u₀ → u ≡ splice u₀ a (wires_of (take i l))
    → ((d : Item) → u' ≡ splice u (a + i * wire_bytes) (wire_of (get_or l i d))) → u' ≡ splice u₀ a (wires_of (take (i + 1) l))
write_turn l i a u₀ h f p q =
    let d : Item = record { kind = Transaction; hash = 0 } in
    let x = get_or l i d in
    let t : length (take i l) ≡ i = length-take-le i l (omega arith) in
    let m = length_wires (take i l) in
    let n = length-wire x in
    let more : wires_of (take i l) ++ wire_of x ≡ wires_of (take (i + 1) l) = sym (wires_more (take i l) x) ∙ ap wires_of (sym (take-suc l i d h) ∙ rw add-one) in
    q d ∙ ap (λ (s : List ℕ). splice s (a + i * wire_bytes) (wire_of x)) p ∙ splice_more u₀ a (a + i * wire_bytes) (wires_of (take i l)) (wire_of x) (omega arith) (omega arith) ∙ ap (splice u₀ a) more

pub write-all : (l : List Item) (i : ℕ) (u : List ℕ) (a : ℕ) → length l ≤ i → splice u a (wires_of (take i l)) ≡ splice u a (wires_of l)
write-all l i u a h = ap (λ (x : List Item). splice u a (wires_of x)) (take_all i l h)

-- the count, and then the items
pub write_both : (l : List Item) (u : List ℕ) {n a : ℕ} {u₁ u₂ : List ℕ} → n ≡ length l → a ≡ length (compact_size n) → a + wire_bytes * n ≤ length u → u₁ ≡ written (compact_size n) u
    → u₂ ≡ splice u₁ a (wires_of l) → u₂ ≡ written (payload_of l) u
write_both l u {n} {a} e f h p q =
    let c : compact_size n ≡ compact_size (length l) = ap compact_size e in
    q ∙ ap (λ (s : List ℕ). splice s a (wires_of l)) p ∙ written_on (compact_size n) (wires_of l) u a f (omega (arith, length_wires l)) ∙ ap (λ (s : List ℕ). written (s ++ wires_of l) u) c
