-- Fields of a listing, with hashes in any form that fits: read back, accepted in one text, and of bytes above a comma.
use Prim.Native.Nat.{ℕ, zero, suc, ◌+◌, ◌/◌, ◌%◌, ◌≤◌, ◌<◌}
use mathlib.Core.Path.{◌≡◌, refl, sym, ap, ◌∙◌}
use mathlib.Core.Logic.{inl, inr}
use mathlib.Core.Bool.{Bool, true, false, ◌&&◌}
use mathlib.Core.List.{List, [], ◌∷◌, ◌++◌, append_assoc, append-nil}
use mathlib.Core.Option.{Option, none, some}
use native.Mathlib.Nat.{mod-lt}
use native.Mathlib.Omega.{arith}
use lib.Dec.{lit<, lit≤, ltb, leb, eqb}
use lib.ListN.{length, drop, drop_of_length-le}
use lib.Seq.{drop-append-add}
use borrow.Author.Tests.{ltb-true, ltb-false, leb-true, le-leb, eqb-true, ne_eqb}
use Rattle.ident.specs.declared.Kind.{Kind}
use Rattle.ident.specs.declared.Kind.TheVariants.{Txid, Wtxid}
use Rattle.ident.specs.declared.ItemKind.{ItemKind}
use Rattle.ident.specs.declared.ItemKind.TheVariants.{Transaction, WitnessTransaction, WTx, Other}
use Rattle.std.specs.Prelude.{if◌then◌else◌}
use Rattle.ident.specs.Number.{top, Key, Item, is_plain}
use Rattle.machine.specs.Limits.{word}
use Rattle.machine.specs.Text.{digit_text, numeral, decimal_digits, decimal, bool_text, kind_letter, item_kind_text}
use Rattle.machine.specs.Fields.{digit_of, numeral_of, number_of, type_of, kind_of, key_with, before, behind, item_with, letter_kind, other_kind, same_text, taking, elements_then}
use Rattle.machine.specs.State.{Each, KeyTyped}
use Rattle.machine.specs.Listing.{HashForm, short, Digital, FormFits, key_field, key_in, item_field, other_in, item_in, none_text, maybe_field, hash_fields, list_fields, list_then}
use Rattle.machine.specs.Listing.{HashesListed, ItemListed}
use Rattle.machine.proofs.Tests.{test, and_left, and_right}
use Rattle.machine.proofs.DigitBytes.{digit-text, digit_below}
use Rattle.machine.proofs.Numerals.{numeral_none, numeral_one, numeral_more, numeral_of-empty}
use Rattle.machine.proofs.Parting.{before-digits, before-met, parted}
use Rattle.machine.proofs.RoundTrips.{never_some, hash_back, hash-text, number_back, number-text, type_back, type-text, kind-letter, key-parts, item-parts, letter-text, OtherIs, other_is}
use Rattle.machine.proofs.Readers.{Found, Finds, Gives, finds_one, gives_one}

-- ---- texts of digits

digital_append : (f g : List ℕ) → Digital f → Digital g → Digital (f ++ g)
digital_append [] g p q = q
digital_append (c ∷ f) g p q = (p.0, digital_append f g p.1 q)

digital_numeral : (b k n : ℕ) → 1 < b → b ≤ 16 → Digital (numeral b k n)
digital_numeral b zero n l u = rw (numeral_none b n) tt
digital_numeral b (suc k) n l u = elim (test (ltb n b)) [
  | inl t ↦ let h = ltb-true n b t in rw (numeral_one b k n h) (omega (arith, digit-text n (omega arith)), tt)
  | inr t ↦
      let h = ltb-false n b t in
      let r : n % b < b = mod-lt n (omega arith) in
      let d : digit_of (digit_text (n % b)) < 16 = omega (arith, digit-text (n % b) (omega arith)) in
      rw (numeral_more b k n h) (digital_append (numeral b k (n / b)) (digit_text (n % b) ∷ []) (digital_numeral b k (n / b) l u) (d, tt))
]

pub digital_decimal : (n : ℕ) → Digital (decimal n)
digital_decimal n = digital_numeral 10 decimal_digits n (lit< tt) (lit≤ tt)

-- the form of event lines fits
pub short-fits : FormFits short
short-fits = record { back = hash_back; text = hash-text; clean = λ h. digital_numeral 16 64 h (lit< tt) (lit≤ tt); empty = numeral_of-empty 16 top }

-- ---- no field has a comma or a line feed

-- every byte is above a comma
abbrev pub Above : List ℕ → Type 0
Above [] = Unit {0}
Above (c ∷ f) = (44 < c) × Above f

above_digit : (c : ℕ) → digit_of c < 16 → 44 < c
above_digit c h = elim (test (ltb c 48)) [
  | inl t ↦ absurd (omega (arith, digit_below c (ltb-true c 48 t)))
  | inr t ↦ omega (arith, ltb-false c 48 t)
]

pub above_digits : (f : List ℕ) → Digital f → Above f
above_digits [] d = tt
above_digits (c ∷ f) d = (above_digit c d.0, above_digits f d.1)

pub above_append : (f g : List ℕ) → Above f → Above g → Above (f ++ g)
above_append [] g p q = q
above_append (c ∷ f) g p q = (p.0, above_append f g p.1 q)

pub above_bool : (b : Bool) → Above (bool_text b)
above_bool true = (lit< tt, tt)
above_bool false = (lit< tt, tt)

pub above_none : Above none_text
above_none = (lit< tt, (lit< tt, (lit< tt, (lit< tt, tt))))

pub above_decimal : (n : ℕ) → Above (decimal n)
above_decimal n = above_digits (decimal n) (digital_decimal n)

pub above_maybe : {A : Type 0} (text : A → List ℕ) → ((a : A) → Above (text a)) → (o : Option A) → Above (maybe_field text o)
above_maybe text law none = above_none
above_maybe text law (some a) = law a

-- ---- no field of a value is `none`

pub digits_not_none : (f : List ℕ) → Digital f → same_text f none_text ≡ false
unfolding same_text digit_of
digits_not_none [] d = refl
digits_not_none (c ∷ f) d = rw (ne_eqb c 110 (λ e. let z : 16 < 16 = rw e at d.0 in omega arith))

-- ---- keys and items

module _ (x : HashForm) (fit : FormFits x) where
  pub above_key : (k : Key) → Above (key_field x k)
  unfolding key_field
  above_key k = (letter k.kind, above_digits (x.text k.hash) (fit.clean k.hash))
    where
      letter : (c : Kind) → 44 < kind_letter c
      letter Txid = lit< tt
      letter Wtxid = lit< tt

  pub key_not_none : (k : Key) → same_text (key_field x k) none_text ≡ false
  unfolding key_field same_text
  key_not_none k = go k.kind (x.text k.hash)
    where
      go : (c : Kind) (f : List ℕ) → same_text (kind_letter c ∷ f) none_text ≡ false
      go Txid f = refl
      go Wtxid f = refl

  -- a key is no number
  pub key-no-number : (k : Key) → number_of (key_field x k) ≡ none
  unfolding key_field numeral_of digit_of
  key-no-number k = go k.kind (x.text k.hash)
    where
      go : (c : Kind) (f : List ℕ) → number_of (kind_letter c ∷ f) ≡ none
      go Txid f = refl
      go Wtxid f = refl

  pub key_back : (k : Key) → k.hash < top → key_in x (key_field x k) ≡ some k
  unfolding key_in key_field
  key_back k h = go k.kind k.hash h
    where
      go : (c : Kind) (n : ℕ) → n < top → key_with (kind_of (kind_letter c)) (x.of (x.text n)) ≡ some (record { kind = c; hash = n })
      go Txid n h = rw (fit.back n h)
      go Wtxid n h = rw (fit.back n h)

  pub key-text : (f : List ℕ) (k : Key) → key_in x f ≡ some k → (f ≡ key_field x k) × KeyTyped k
  unfolding key_in key_field
  key-text [] k e = absurd (never_some e)
  key-text (c ∷ f) k e =
      let p = key-parts (kind_of c) (x.of f) k e in
      let h = fit.text f k.hash p.1 in
      (rw (kind-letter c k.kind p.0, ← h.0), h.1)

  pub above_item : (i : Item) → Above (item_field x i)
  unfolding item_field
  above_item i = above_append (item_kind_text i.kind) (x.text i.hash) (kind i.kind) (above_digits (x.text i.hash) (fit.clean i.hash))
    where
      kind : (c : ItemKind) → Above (item_kind_text c)
      kind Transaction = (lit< tt, tt)
      kind WitnessTransaction = (lit< tt, tt)
      kind WTx = (lit< tt, tt)
      kind (Other n) = (lit< tt, above_append (decimal n) (58 ∷ []) (above_decimal n) (lit< tt, tt))

  -- an item is no number
  pub item-no-number : (i : Item) → number_of (item_field x i) ≡ none
  unfolding item_field numeral_of digit_of
  item-no-number i = go i.kind (x.text i.hash)
    where
      go : (c : ItemKind) (f : List ℕ) → number_of (item_kind_text c ++ f) ≡ none
      go Transaction f = refl
      go WitnessTransaction f = refl
      go WTx f = refl
      go (Other n) f = refl

  other_back : (m n : ℕ) → ItemListed (Other m) → n < top → other_in x (decimal m ++ (58 ∷ x.text n)) ≡ some (record { kind = Other m; hash = n })
  unfolding behind
  other_back m n w h =
      let e : before 58 (decimal m ++ (58 ∷ x.text n)) ≡ decimal m =
      before-digits 10 decimal_digits m (58 ∷ x.text n) (lit< tt) (lit≤ tt) ∙ rw (before-met 58 (x.text n)) (append-nil (decimal m)) in
      let d : drop (length (decimal m) + 1) (decimal m ++ (58 ∷ x.text n)) ≡ x.text n = drop-append-add (decimal m) (58 ∷ x.text n) 1 in
      rw (e, d, type_back m w.1, fit.back n h, w.0)

  pub item_back : (i : Item) → ItemListed i.kind → i.hash < top → item_in x (item_field x i) ≡ some i
  unfolding item_in item_field
  item_back i w h = go i.kind i.hash w h
    where
      go : (k : ItemKind) (n : ℕ) → ItemListed k → n < top → item_in x (item_field x (record { kind = k; hash = n })) ≡ some (record { kind = k; hash = n })
      go Transaction n w h = rw (fit.back n h)
      go WitnessTransaction n w h = rw (fit.back n h)
      go WTx n w h = rw (fit.back n h)
      go (Other m) n w h = rw append_assoc (other_back m n w h)

  letter-listed : (c : ℕ) (k : ItemKind) → letter_kind c ≡ some k → ItemListed k
  letter-listed c Transaction e = tt
  letter-listed c WitnessTransaction e = tt
  letter-listed c WTx e = tt
  letter-listed c (Other n) e = elim (test (eqb c 116)) [
    | inl t ↦ let z : ◌≡◌ {A = ℕ} 0 1 = cc (rw t at e) in absurd (omega arith)
    | inr t ↦ elim (test (eqb c 118)) [
      | inl u ↦ let z : ◌≡◌ {A = ℕ} 0 1 = cc (rw (t, u) at e) in absurd (omega arith)
      | inr u ↦ elim (test (eqb c 119)) [
        | inl v ↦ let z : ◌≡◌ {A = ℕ} 0 1 = cc (rw (t, u, v) at e) in absurd (omega arith)
        | inr v ↦ absurd (never_some (rw (t, u, v) at e))
      ]
    ]
  ]

  letter-item : (c : ℕ) (f : List ℕ) (i : Item) → item_with (letter_kind c) (x.of f) ≡ some i → (c ∷ f ≡ item_field x i) × ItemListed i.kind × (i.hash < top)
  unfolding item_field
  letter-item c f i e =
      let p = item-parts (letter_kind c) (x.of f) i e in
      let h = fit.text f i.hash p.1 in
      (letter-text c i.kind f p.0 ∙ rw (← h.0), letter-listed c i.kind p.0, h.1)

  -- a hash stands behind a colon, so there is one
  colon : (f : List ℕ) (n : ℕ) → x.of (behind 58 f) ≡ some n → length (before 58 f) < length f
  unfolding behind
  colon f n e = elim (test (ltb (length (before 58 f)) (length f))) [
    | inl t ↦ ltb-true (length (before 58 f)) (length f) t
    | inr t ↦
        let l = ltb-false (length (before 58 f)) (length f) t in
        let g : length f ≤ length (before 58 f) + 1 = omega arith in
        absurd (never_some (sym (ap (λ (b : List ℕ). x.of b) (drop_of_length-le f g) ∙ fit.empty) ∙ e))
  ]

  other_plain : (f : List ℕ) (k : ItemKind) → other_kind (type_of f) ≡ some k → (o : OtherIs (type_of f) k) → is_plain (Other o.number) ≡ true
  other_plain f k e o = go (type_of f) o.number o.is e
    where
      go : (p : Option ℕ) (n : ℕ) → p ≡ some n → other_kind p ≡ some k → is_plain (Other n) ≡ true
      go none n q d = absurd (never_some q)
      go (some m) n q d = elim (test (is_plain (Other m))) [
        | inl t ↦ let g : m ≡ n = cc in rw (← g) t
        | inr t ↦ absurd (never_some (rw t at d))
      ]

  other_text : (f : List ℕ) (i : Item) → other_in x f ≡ some i → (111 ∷ f ≡ item_field x i) × ItemListed i.kind × (i.hash < top)
  unfolding item_field
  other_text f i e =
      let p = item-parts (other_kind (type_of (before 58 f))) (x.of (behind 58 f)) i e in
      let h = fit.text (behind 58 f) i.hash p.1 in
      let o = other_is (type_of (before 58 f)) i.kind p.0 in
      let t = type-text (before 58 f) o.number o.is in
      let g : f ≡ decimal o.number ++ (58 ∷ x.text i.hash) = parted 58 f (colon f i.hash p.1) ∙ cc (t.0, h.0) in (
        ap (λ (l : List ℕ). 111 ∷ l) g ∙ ap (λ (l : List ℕ). 111 ∷ l) (sym (append_assoc (decimal o.number) (58 ∷ []) (x.text i.hash)))
            ∙ ap (λ (k : ItemKind). item_kind_text k ++ x.text i.hash) (sym o.kind),
        rw o.kind (other_plain (before 58 f) i.kind p.0 o, t.1),
        h.1,
      )

  pub item-text : (f : List ℕ) (i : Item) → item_in x f ≡ some i → (f ≡ item_field x i) × ItemListed i.kind × (i.hash < top)
  unfolding item_in
  item-text [] i e = absurd (never_some e)
  item-text (c ∷ f) i e = elim (test (eqb c 111)) [
    | inl t ↦ let g = eqb-true c 111 t in rw g (other_text f i (rw t at e))
    | inr t ↦ letter-item c f i (rw t at e)
  ]

  -- ---- lists

  record Many {B : Type 0} (n : ℕ) (l : List ℕ) (k : List ℕ → List (List ℕ) → Option B) (fs : List (List ℕ)) (b : B) : Type 0 where
    pub values : List ℕ
    pub rest : List (List ℕ)
    pub long : length values ≡ n
    pub hashes : Each (λ h. h < top) values
    pub parts : fs ≡ hash_fields x values ++ rest
    pub goes : k (l ++ values) rest ≡ some b

  many_found : {B : Type 0} (n : ℕ) (l : List ℕ) (k : List ℕ → List (List ℕ) → Option B) (fs : List (List ℕ)) (b : B) → elements_then (taking x.of) n l k fs ≡ some b → Many n l k fs b
  unfolding elements_then hash_fields
  many_found zero l k fs b e = record { values = []; rest = fs; long = refl; hashes = tt; parts = refl; goes = rw append-nil e }
  many_found (suc n) l k fs b e =
      let f = (finds_one x.of x.text (λ h. h < top) fit.text).found _ fs b e in
      let m = many_found n (l ++ (f.value ∷ [])) k f.rest b f.goes in
      record {
        values = f.value ∷ m.values;
        rest = m.rest;
        long = ap suc m.long;
        hashes = (f.good, m.hashes);
        parts = f.parts ∙ ap (λ (r : List (List ℕ)). x.text f.value ∷ r) m.parts;
        goes = rw append_assoc at m.goes;
      }

  many_back : {B : Type 0} (hs l : List ℕ) → Each (λ h. h < top) hs → (k : List ℕ → List (List ℕ) → Option B) (fs : List (List ℕ))
      → elements_then (taking x.of) (length hs) l k (hash_fields x hs ++ fs) ≡ k (l ++ hs) fs
  unfolding elements_then hash_fields
  many_back [] l g k fs = rw append-nil
  many_back (h ∷ hs) l g k fs =
      (gives_one x.of x.text (λ n. n < top) fit.back).back h g.0 _ (hash_fields x hs ++ fs) ∙ many_back hs (l ++ (h ∷ [])) g.1 k fs ∙ rw append_assoc

  pub finds-list : {B : Type 0} (lo hi : ℕ) → Finds {B = B} (list_then x lo hi) (list_fields x) (HashesListed lo hi)
  unfolding list_then
  finds-list {B} lo hi = record { found = go }
    where
      counted : (n : ℕ) (hs : List ℕ) (gs fs : List (List ℕ)) → length hs ≡ n → gs ≡ hash_fields x hs ++ fs → decimal n ∷ gs ≡ list_fields x hs ++ fs
      counted n hs gs fs e d = rw (d, e)

      within : (k : List ℕ → List (List ℕ) → Option B) (n : ℕ) (fs : List (List ℕ)) (b : B)
          → (if leb lo n && leb n hi then elements_then (taking x.of) n [] k fs else none) ≡ some b → (lo ≤ n) × (n ≤ hi) × (elements_then (taking x.of) n [] k fs ≡ some b)
      within k n fs b e = elim (test (leb lo n && leb n hi)) [
        | inl t ↦ (leb-true lo n (and_left (leb lo n) (leb n hi) t), leb-true n hi (and_right (leb lo n) (leb n hi) t), rw t at e)
        | inr t ↦ absurd (never_some (rw t at e))
      ]

      go : (k : List ℕ → List (List ℕ) → Option B) (fs : List (List ℕ)) (b : B) → list_then x lo hi k fs ≡ some b → Found (list_fields x) (HashesListed lo hi) k fs b
      go k fs b e =
          let f = (finds_one number_of (λ n. decimal n) (λ n. n < word) number-text).found _ fs b e in
          let i = within k f.value f.rest b f.goes in
          let m = many_found f.value [] k f.rest b i.2 in
          record {
            value = m.values;
            rest = m.rest;
            parts = f.parts ∙ counted f.value m.values f.rest m.rest m.long m.parts;
            good = record { hashes = m.hashes; least = rw m.long i.0; most = rw m.long i.1 };
            goes = m.goes;
          }

  pub gives-list : {B : Type 0} (lo hi : ℕ) → hi < word → Gives {B = B} (list_then x lo hi) (list_fields x) (HashesListed lo hi)
  unfolding list_then
  gives-list {B} lo hi small = record {
    back = λ hs g k fs.
        (gives_one number_of (λ n. decimal n) (λ n. n < word) number_back).back (length hs) (omega arith) _ (hash_fields x hs ++ fs)
        ∙ rw (le-leb lo (length hs) g.least, le-leb (length hs) hi g.most) (many_back hs [] g.hashes k fs);
  }
