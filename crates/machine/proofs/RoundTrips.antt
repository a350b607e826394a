-- Fields read and texts written: reading what was written gives it back, and what is accepted is the one text of its value.
use Prim.Native.Nat.{ℕ, ◌+◌, ◌^◌, ◌<◌, ◌≤◌}
use mathlib.Core.Path.{◌≡◌, refl, sym, ap, ◌∙◌}
use mathlib.Core.Bool.{Bool, true, false}
use mathlib.Core.Logic.{inl, inr}
use mathlib.Core.List.{List, [], ◌∷◌, ◌++◌, append_assoc, append-nil}
use mathlib.Core.Option.{Option, none, some}
use native.Mathlib.Nat.{lt_of_lt_of_le}
use native.Mathlib.Omega.{arith}
use lib.Dec.{lit<, lit≤, eqb, ltb}
use lib.ListN.{length, drop, drop_of_length-le}
use lib.Seq.{drop-append-add}
use borrow.Author.Tests.{eqb-true, ltb-true, ltb-false}
use Rattle.ident.specs.declared.Kind.{Kind}
use Rattle.ident.specs.declared.Kind.TheVariants.{Txid, Wtxid}
use Rattle.ident.specs.declared.ItemKind.{ItemKind}
use Rattle.ident.specs.declared.ItemKind.TheVariants.{Transaction, WitnessTransaction, WTx, Other}
use Rattle.ident.specs.Number.{Key, Item, top, is_plain}
use Rattle.machine.specs.Text.{decimal_digits, decimal, hexadecimal, bool_text, kind_letter, key_text, item_kind_text, item_text}
use Rattle.machine.specs.Fields.{number_of, type_of, hash_of, bool_of, kind_of, key_with, key_of, before, behind, item_with, letter_kind, other_kind, other_of, item_of}
use Rattle.machine.proofs.Tests.{test}
use Rattle.machine.proofs.Numerals.{numeral_read, numeral-text, numeral_of-empty}
use Rattle.machine.proofs.Parting.{before-digits, before-met, parted}

pub never_some : {A : Type 0} {a : A} → none ≡ some a → ⊥
never_some e = let z : ◌≡◌ {A = ℕ} 0 1 = cc in omega arith

-- ---- numbers

pub number_back : (n : ℕ) → n < 2 ^ 64 → number_of (decimal n) ≡ some n
number_back n h = numeral_read 10 (2 ^ 64) (lit< tt) (lit≤ tt) 19 n (lt_of_lt_of_le h (lit≤ tt)) h

pub number-text : (f : List ℕ) (n : ℕ) → number_of f ≡ some n → (f ≡ decimal n) × (n < 2 ^ 64)
number-text f n e = numeral-text 10 (2 ^ 64) (lit< tt) (lit≤ tt) 19 (lit≤ tt) (lit≤ tt) f n e

pub type_back : (n : ℕ) → n < 2 ^ 32 → type_of (decimal n) ≡ some n
type_back n h = numeral_read 10 (2 ^ 32) (lit< tt) (lit≤ tt) 19 n (lt_of_lt_of_le h (lit≤ tt)) h

pub type-text : (f : List ℕ) (n : ℕ) → type_of f ≡ some n → (f ≡ decimal n) × (n < 2 ^ 32)
type-text f n e = numeral-text 10 (2 ^ 32) (lit< tt) (lit≤ tt) 19 (lit≤ tt) (lit≤ tt) f n e

-- ---- hashes

top-fits : top ≤ 16 ^ 64
unfolding top
top-fits = lit≤ tt

top_more : 16 ≤ top
unfolding top
top_more = lit≤ tt

pub hash_back : (h : ℕ) → h < top → hash_of (hexadecimal h) ≡ some h
hash_back h l = numeral_read 16 top (lit< tt) (lit≤ tt) 63 h (lt_of_lt_of_le l top-fits) l

pub hash-text : (f : List ℕ) (h : ℕ) → hash_of f ≡ some h → (f ≡ hexadecimal h) × (h < top)
hash-text f h e = numeral-text 16 top (lit< tt) (lit≤ tt) 63 top-fits top_more f h e

-- ---- bools

pub bool_back : (b : Bool) → bool_of (bool_text b) ≡ some b
unfolding bool_of
bool_back true = refl
bool_back false = refl

pub bool-text : (f : List ℕ) (b : Bool) → bool_of f ≡ some b → f ≡ bool_text b
unfolding bool_of
bool-text [] b e = absurd (never_some e)
bool-text (c ∷ []) b e = elim (test (eqb c 48)) [
  | inl t ↦ let g : false ≡ b = cc (rw t at e) in rw (← g, eqb-true c 48 t)
  | inr t ↦ elim (test (eqb c 49)) [
    | inl u ↦ let g : true ≡ b = cc (rw (t, u) at e) in rw (← g, eqb-true c 49 u)
    | inr u ↦ absurd (never_some (rw (t, u) at e))
  ]
]
bool-text (c ∷ d ∷ f) b e = absurd (never_some e)

-- ---- keys

pub key_back : (k : Key) → k.hash < top → key_of (key_text k) ≡ some k
unfolding key_of key_text
key_back k h = go k.kind k.hash h
  where
    go : (c : Kind) (n : ℕ) → n < top → key_with (kind_of (kind_letter c)) (hash_of (hexadecimal n)) ≡ some (record { kind = c; hash = n })
    go Txid n h = rw (hash_back n h)
    go Wtxid n h = rw (hash_back n h)

pub kind-letter : (c : ℕ) (k : Kind) → kind_of c ≡ some k → c ≡ kind_letter k
kind-letter c k e = elim (test (eqb c 116)) [
  | inl t ↦ let g : Txid ≡ k = cc (rw t at e) in rw (← g) (eqb-true c 116 t)
  | inr t ↦ elim (test (eqb c 119)) [
    | inl u ↦ let g : Wtxid ≡ k = cc (rw (t, u) at e) in rw (← g) (eqb-true c 119 u)
    | inr u ↦ absurd (never_some (rw (t, u) at e))
  ]
]

pub key-parts : (o : Option Kind) (p : Option ℕ) (k : Key) → key_with o p ≡ some k → (o ≡ some k.kind) × (p ≡ some k.hash)
key-parts none p k e = absurd (never_some e)
key-parts (some c) none k e = absurd (never_some e)
key-parts (some c) (some h) k e = (ap (λ (o : Option Key). kinds o) e, ap (λ (o : Option Key). hashes o) e)
  where
    kinds : Option Key → Option Kind
    kinds none = none
    kinds (some k) = some k.kind

    hashes : Option Key → Option ℕ
    hashes none = none
    hashes (some k) = some k.hash

pub key-text : (f : List ℕ) (k : Key) → key_of f ≡ some k → (f ≡ key_text k) × (k.hash < top)
unfolding key_of key_text
key-text [] k e = absurd (never_some e)
key-text (c ∷ f) k e =
    let p = key-parts (kind_of c) (hash_of f) k e in
    let h = hash-text f k.hash p.1 in
    (rw (kind-letter c k.kind p.0, ← h.0), h.1)

-- ---- items

pub item-parts : (o : Option ItemKind) (p : Option ℕ) (i : Item) → item_with o p ≡ some i → (o ≡ some i.kind) × (p ≡ some i.hash)
item-parts none p i e = absurd (never_some e)
item-parts (some c) none i e = absurd (never_some e)
item-parts (some c) (some h) i e = (ap (λ (o : Option Item). kinds o) e, ap (λ (o : Option Item). hashes o) e)
  where
    kinds : Option Item → Option ItemKind
    kinds none = none
    kinds (some i) = some i.kind

    hashes : Option Item → Option ℕ
    hashes none = none
    hashes (some i) = some i.hash

-- an item's kind has a text if its type is no other kind's and has 32 bits
abbrev pub Written : ItemKind → Type 0
Written Transaction = Unit {0}
Written WitnessTransaction = Unit {0}
Written WTx = Unit {0}
Written (Other n) = (is_plain (Other n) ≡ true) × (n < 2 ^ 32)

-- a type, a colon and a hash, read one after the other
other_back : (m n : ℕ) → Written (Other m) → n < top → other_of (decimal m ++ (58 ∷ hexadecimal n)) ≡ some (record { kind = Other m; hash = n })
unfolding behind
other_back m n w h =
    let e : before 58 (decimal m ++ (58 ∷ hexadecimal n)) ≡ decimal m = before-digits 10 decimal_digits m (58 ∷ hexadecimal n) (lit< tt) (lit≤ tt) ∙
    rw (before-met 58 (hexadecimal n)) (append-nil (decimal m)) in
    let d : drop (length (decimal m) + 1) (decimal m ++ (58 ∷ hexadecimal n)) ≡ hexadecimal n = drop-append-add (decimal m) (58 ∷ hexadecimal n) 1 in
    rw (e, d, type_back m w.1, hash_back n h, w.0)

pub item_back : (i : Item) → Written i.kind → i.hash < top → item_of (item_text i) ≡ some i
unfolding item_of item_text
item_back i w h = go i.kind i.hash w h
  where
    go : (k : ItemKind) (n : ℕ) → Written k → n < top → item_of (item_text (record { kind = k; hash = n })) ≡ some (record { kind = k; hash = n })
    go Transaction n w h = rw (hash_back n h)
    go WitnessTransaction n w h = rw (hash_back n h)
    go WTx n w h = rw (hash_back n h)
    go (Other m) n w h = rw append_assoc (other_back m n w h)

pub letter-text : (c : ℕ) (k : ItemKind) (f : List ℕ) → letter_kind c ≡ some k → c ∷ f ≡ item_kind_text k ++ f
letter-text c k f e = elim (test (eqb c 116)) [
  | inl t ↦ let g : Transaction ≡ k = cc (rw t at e) in rw (← g, eqb-true c 116 t)
  | inr t ↦ elim (test (eqb c 118)) [
    | inl u ↦ let g : WitnessTransaction ≡ k = cc (rw (t, u) at e) in rw (← g, eqb-true c 118 u)
    | inr u ↦ elim (test (eqb c 119)) [
      | inl v ↦ let g : WTx ≡ k = cc (rw (t, u, v) at e) in rw (← g, eqb-true c 119 v)
      | inr v ↦ absurd (never_some (rw (t, u, v) at e))
    ]
  ]
]

letter-item : (c : ℕ) (f : List ℕ) (i : Item) → item_with (letter_kind c) (hash_of f) ≡ some i → (c ∷ f ≡ item_text i) × (i.hash < top)
unfolding item_text
letter-item c f i e =
    let p = item-parts (letter_kind c) (hash_of f) i e in
    let h = hash-text f i.hash p.1 in
    (letter-text c i.kind f p.0 ∙ rw (← h.0), h.1)

pub record OtherIs (o : Option ℕ) (k : ItemKind) : Type 0 where
  pub number : ℕ
  pub is : o ≡ some number
  pub kind : k ≡ Other number

pub other_is : (o : Option ℕ) (k : ItemKind) → other_kind o ≡ some k → OtherIs o k
other_is none k e = absurd (never_some e)
other_is (some n) k e = elim (test (is_plain (Other n))) [
  | inl t ↦ record { number = n; is = refl; kind = let g : Other n ≡ k = cc (rw t at e) in sym g }
  | inr t ↦ absurd (never_some (rw t at e))
]

-- a hash stands behind a colon, so there is one
colon : (f : List ℕ) (n : ℕ) → hash_of (behind 58 f) ≡ some n → length (before 58 f) < length f
unfolding behind
colon f n e = elim (test (ltb (length (before 58 f)) (length f))) [
  | inl t ↦ ltb-true (length (before 58 f)) (length f) t
  | inr t ↦
      let l = ltb-false (length (before 58 f)) (length f) t in
      let g : length f ≤ length (before 58 f) + 1 = omega arith in
      absurd (never_some (sym (ap hash_of (drop_of_length-le f g) ∙ numeral_of-empty 16 top) ∙ e))
]

other_text : (f : List ℕ) (i : Item) → other_of f ≡ some i → (111 ∷ f ≡ item_text i) × (i.hash < top)
unfolding item_text
other_text f i e =
    let p = item-parts (other_kind (type_of (before 58 f))) (hash_of (behind 58 f)) i e in
    let h = hash-text (behind 58 f) i.hash p.1 in
    let o = other_is (type_of (before 58 f)) i.kind p.0 in
    let t = type-text (before 58 f) o.number o.is in
    let g : f ≡ decimal o.number ++ (58 ∷ hexadecimal i.hash) = parted 58 f (colon f i.hash p.1) ∙ cc (t.0, h.0) in (
      ap (λ (l : List ℕ). 111 ∷ l) g ∙ ap (λ (l : List ℕ). 111 ∷ l) (sym (append_assoc (decimal o.number) (58 ∷ []) (hexadecimal i.hash))) ∙
          ap (λ (k : ItemKind). item_kind_text k ++ hexadecimal i.hash) (sym o.kind),
      h.1,
    )

pub item-text : (f : List ℕ) (i : Item) → item_of f ≡ some i → (f ≡ item_text i) × (i.hash < top)
unfolding item_of
item-text [] i e = absurd (never_some e)
item-text (c ∷ f) i e = elim (test (eqb c 111)) [
  | inl t ↦ let g = eqb-true c 111 t in rw g (other_text f i (rw t at e))
  | inr t ↦ letter-item c f i (rw t at e)
]
