-- Rows that wait are in the order of their keys, and are searched by it.
use Prim.Native.Nat.{ℕ, zero, suc, ◌+◌, ◌≤◌, ◌<◌}
use mathlib.Core.Path.{◌≡◌, refl, sym, ap, ◌∙◌}
use mathlib.Core.Logic.{inl, inr}
use mathlib.Core.Bool.{Bool, true, false, ◌||◌, or-false as or_none}
use mathlib.Core.List.{List, [], ◌∷◌, ◌++◌}
use native.Mathlib.Nat.{le_refl}
use native.Mathlib.Omega.{arith}
use lib.Dec.{ltb, eqb}
use lib.ListN.{length, get_or, length-map}
use borrow.Author.Tests.{lt-ltb, le-ltb, ltb-true, ltb-false, eqb-true, eqb-false, eq-eqb, ne_eqb}
use Rattle.ident.specs.declared.Kind.{Kind}
use Rattle.ident.specs.declared.Kind.TheVariants.{Txid, Wtxid}
use Rattle.ident.specs.Number.{top, base, place, txid, wtxid}
use Rattle.regions.specs.declared.Row.{Row}
use Rattle.regions.specs.Order.{Sorted, Bound}
use Rattle.regions.specs.Regions.{insert_at}
use Rattle.machine.specs.State.{Entry, Table}
use Rattle.machine.specs.Table.{at}
use Rattle.machine.specs.Sound.{Ordered}
use Rattle.machine.specs.Typed.{Each}
use Rattle.machine.proofs.Tests.{test, never, or_left, or_right}
use Rattle.store.specs.Flat.{row_of}
use Rattle.store.specs.Shown.{row_numbers}
use Rattle.store.proofs.Bounds.{Ascend, ascend-sorted, sorted-ascend}
use Rattle.gathering.specs.Merges.{number_of, upto, beyond, placed, gathered}
use Rattle.gathering.specs.Waits.{Small, waits}
use Rattle.gathering.specs.Aside.{numbered}
use Rattle.gathering.proofs.Merging.{placed_is, placed_past, placed_first, upto_stop, parted, bound-parts, row-place}

-- ---- in order

ascend-placed : (y : Row) (lo : ℕ) (ys : List Row) → lo ≤ number_of y → Ascend lo (row_numbers ys) → Ascend lo (row_numbers (placed y ys))
ascend-placed y lo [] h a = rw (placed_is y []) (unfold upto beyond in (h, tt))
ascend-placed y lo (x ∷ xs) h a =
    elim (test (ltb (number_of y) (number_of x))) [
      | inl e ↦ let l = ltb-true (number_of y) (number_of x) e in
          rw (placed_first y (x ∷ xs) (upto_stop (number_of y) x xs l)) (h, (omega arith, a.1))
      | inr e ↦ let l = ltb-false (number_of y) (number_of x) e in
          rw (placed_past y (x ∷ []) xs (l, tt)) (a.0, ascend-placed y (number_of x) xs l a.1)
    ]

pub sorted-placed : (y : Row) (ys : List Row) → Sorted (row_numbers ys) → Sorted (row_numbers (placed y ys))
sorted-placed y ys s = ascend-sorted 0 (row_numbers (placed y ys)) (ascend-placed y 0 ys (omega arith) (sorted-ascend 0 (row_numbers ys) (λ h. omega arith) s))

sorted_more : (t : Table) (es : List Entry) (ys : List Row) → Sorted (row_numbers ys) → Sorted (row_numbers (gathered t es ys))
unfolding gathered
sorted_more t [] ys s = s
sorted_more t (a ∷ es) ys s = sorted_more t es _ (sorted-placed (row_of (at a.key t) a.candidate) ys s)

pub sorted-gathered : (t : Table) (es : List Entry) → Sorted (row_numbers (gathered t es []))
sorted-gathered t es = sorted_more t es [] (ascend-sorted 0 [] tt)

-- ---- one more is put where a search says

pub put-placed : (y : Row) (i : ℕ) (ys : List Row) → Bound (row_numbers ys) (number_of y + 1) i → insert_at i y ys ≡ placed y ys
unfolding insert_at
put-placed y i ys b = let p = bound-parts (number_of y) i ys b in rw (← p.0, ← p.1) (sym (placed_is y ys))

pub gathered_more : (t : Table) (es : List Entry) (a : Entry) (ys : List Row) → gathered t (es ++ (a ∷ [])) ys ≡ placed (row_of (at a.key t) a.candidate) (gathered t es ys)
unfolding gathered
gathered_more t [] a ys = refl
gathered_more t (e ∷ es) a ys = gathered_more t es a _

-- ---- a key is looked for

numbered_some : (x : ℕ) (ys : List Row) → numbered x ys ≡ true → {G : Type 0} → ((j : ℕ) → j < length ys → get_or (row_numbers ys) j 0 ≡ x → G) → G
unfolding numbered
numbered_some x [] e k = never e
numbered_some x (y ∷ ys) e k =
    elim (test (eqb (number_of y) x)) [
      | inl q ↦ k 0 (omega arith) (eqb-true (number_of y) x q)
      | inr q ↦ numbered_some x ys (rw q at e) (λ j h z. k (suc j) (omega arith) z)
    ]

numbered_none : (x : ℕ) (ys : List Row) → numbered x ys ≡ false → (j : ℕ) → j < length ys → get_or (row_numbers ys) j 0 ≡ x → ⊥
unfolding numbered
numbered_none x [] e j h z = omega arith
numbered_none x (y ∷ ys) e zero h z = eqb-false (number_of y) x (or_left (eqb (number_of y) x) (numbered x ys) e) z
numbered_none x (y ∷ ys) e (suc j) h z = numbered_none x ys (or_right (eqb (number_of y) x) (numbered x ys) e) j (omega arith) z

pub numbered_is : (x : ℕ) (ys : List Row) {i j : ℕ} → Bound (row_numbers ys) x i → Bound (row_numbers ys) (x + 1) j → ltb i j ≡ numbered x ys
numbered_is x ys {i} {j} a b =
    let l : length (row_numbers ys) ≡ length ys = length-map ys number_of in
    elim (test (numbered x ys)) [
      | inl e ↦ sym (e ∙ sym (numbered_some x ys e (λ k h z. lt-ltb i j (inside k (omega arith) z))))
      | inr e ↦ sym (e ∙ sym (le-ltb i j (outside (numbered_none x ys e))))
    ]
  where
    inside : (k : ℕ) → k < length (row_numbers ys) → get_or (row_numbers ys) k 0 ≡ x → i < j
    inside k h z =
        elim (test (ltb k i)) [
          | inl e ↦ absurd (omega (arith, a.below k (ltb-true k i e)))
          | inr e ↦ elim (test (ltb k j)) [
            | inl d ↦ omega (arith, ltb-false k i e, ltb-true k j d)
            | inr d ↦ absurd (omega (arith, b.above k (ltb-false k j d) h))
          ]
        ]

    outside : ((k : ℕ) → k < length ys → get_or (row_numbers ys) k 0 ≡ x → ⊥) → j ≤ i
    outside n =
        elim (test (ltb i j)) [
          | inl e ↦
              let h = ltb-true i j e in
              let q : i < length (row_numbers ys) = omega (arith, b.most) in
              let z : get_or (row_numbers ys) i 0 ≡ x = omega (arith, b.below i h, a.above i (le_refl i) q) in
              absurd (n i (omega (arith, length-map ys number_of)) z)
          | inr e ↦ ltb-false i j e
        ]

-- ---- the keys of those that wait

named : ℕ → List Entry → Bool
named x [] = false
named x (a ∷ l) = eqb (place a.key) x || named x l

or_turn : (a b c : Bool) → (a || (b || c)) ≡ ((b || a) || c)
or_turn true true c = refl
or_turn true false c = refl
or_turn false true c = refl
or_turn false false c = refl

or_pairs : (a b c d : Bool) → ((a || b) || (c || d)) ≡ ((a || c) || (b || d))
or_pairs true b c d = refl
or_pairs false true true d = refl
or_pairs false true false d = refl
or_pairs false false c d = refl

numbered-append : (x : ℕ) (a b : List Row) → numbered x (a ++ b) ≡ (numbered x a || numbered x b)
unfolding numbered
numbered-append x [] b = refl
numbered-append x (y ∷ a) b = rw (numbered-append x a b) (assoc (eqb (number_of y) x) (numbered x a) (numbered x b))
  where
    assoc : (a b c : Bool) → (a || (b || c)) ≡ ((a || b) || c)
    assoc true b c = refl
    assoc false b c = refl

numbered-cons : (x : ℕ) (y : Row) (ys : List Row) → numbered x (y ∷ ys) ≡ (eqb (number_of y) x || numbered x ys)
unfolding numbered
numbered-cons x y ys = refl

numbered-placed : (x : ℕ) (y : Row) (ys : List Row) → numbered x (placed y ys) ≡ (eqb (number_of y) x || numbered x ys)
numbered-placed x y ys =
    let u = upto (number_of y) ys in
    let v = beyond (number_of y) ys in
    ap (numbered x) (placed_is y ys) ∙ numbered-append x u (y ∷ v) ∙ ap (λ (b : Bool). numbered x u || b) (numbered-cons x y v)
    ∙ or_turn (numbered x u) (eqb (number_of y) x) (numbered x v)
    ∙ regroup (eqb (number_of y) x) (numbered x u) (numbered x v) ∙ ap (λ (b : Bool). eqb (number_of y) x || b) (sym (numbered-append x u v) ∙ ap (numbered x) (parted (number_of y) ys))
  where
    regroup : (a b c : Bool) → ((a || b) || c) ≡ (a || (b || c))
    regroup true b c = refl
    regroup false b c = refl

module _ (t : Table) (o : Ordered 0 t) (x : ℕ) where
  numbered-gathered : (es : List Entry) (ys : List Row) → Each Small es → numbered x (gathered t es ys) ≡ (named x es || numbered x ys)
  unfolding gathered named
  numbered-gathered [] ys a = refl
  numbered-gathered (e ∷ es) ys a =
      let r = row_of (at e.key t) e.candidate in
      numbered-gathered es (placed r ys) a.1
      ∙ ap (λ (b : Bool). named x es || b) (numbered-placed x r ys)
      ∙ ap (λ (z : ℕ). named x es || (eqb z x || numbered x ys)) (row-place e.key e.candidate t a.0.small o)
      ∙ or_turn (named x es) (eqb (place e.key) x) (numbered x ys)

place-either : (k : Kind) (g h : ℕ) → g < top → h < top → (eqb (base k + g) (base Txid + h) || eqb (base k + g) (base Wtxid + h)) ≡ eqb g h
place-either Txid g h a b =
    elim (test (eqb g h)) [
      | inl e ↦ rw (e, eq-eqb (base Txid + g) (base Txid + h) (omega (arith, eqb-true g h e)))
      | inr e ↦ rw (e, ne_eqb (base Txid + g) (base Txid + h) (λ z. eqb-false g h e (omega arith)), ne_eqb (base Txid + g) (base Wtxid + h) (λ z. omega arith))
    ]
place-either Wtxid g h a b =
    elim (test (eqb g h)) [
      | inl e ↦ rw (e, eq-eqb (base Wtxid + g) (base Wtxid + h) (omega (arith, eqb-true g h e)), ne_eqb (base Wtxid + g) (base Txid + h) (λ z. omega arith))
      | inr e ↦ rw (e, ne_eqb (base Wtxid + g) (base Wtxid + h) (λ z. eqb-false g h e (omega arith)), ne_eqb (base Wtxid + g) (base Txid + h) (λ z. omega arith))
    ]

named_both : (h : ℕ) (es : List Entry) → h < top → Each Small es → (named (place (txid h)) es || named (place (wtxid h)) es) ≡ waits h es
unfolding waits named
named_both h [] s a = refl
named_both h (e ∷ es) s a =
    or_pairs (eqb (place e.key) (place (txid h))) (named (place (txid h)) es) (eqb (place e.key) (place (wtxid h))) (named (place (wtxid h)) es)
    ∙ rw (place-either e.key.kind e.key.hash h a.0.small s, named_both h es s a.1)

-- one that waits is at the hash exactly if a row has one of its two keys
pub waits_is : (h : ℕ) (t : Table) (es : List Entry) → h < top → Ordered 0 t → Each Small es
    → (numbered (place (txid h)) (gathered t es []) || numbered (place (wtxid h)) (gathered t es [])) ≡ waits h es
unfolding numbered
waits_is h t es s o a =
    let x = place (txid h) in
    let y = place (wtxid h) in
    rw (numbered-gathered t o x es [] a, numbered-gathered t o y es [] a, or_none (named x es), or_none (named y es)) (named_both h es s a)
