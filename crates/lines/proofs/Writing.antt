-- Text written into bytes, and text behind text.
use Prim.Native.Nat.{ℕ, suc, ◌+◌, ◌-◌, ◌/◌, ◌%◌, ◌^◌, ◌<◌, ◌≤◌}
use mathlib.Core.Path.{◌≡◌, refl, sym, ap, ◌∙◌}
use mathlib.Core.List.{List, [], ◌∷◌, ◌++◌}
use native.Mathlib.Nat.{lt_of_lt_of_le, add-zero}
use native.Mathlib.Numerals.{add-one}
use native.Mathlib.Omega.{arith}
use lib.Dec.{lit<, lit≤}
use lib.ListN.{length, set, take-append-drop, length-append}
use lib.Seq.{set_split, drop-drop}
use borrow.Rule.Slice.PartMut.{put_mid}
use Rattle.ident.specs.declared.Kind.{Kind}
use Rattle.words.specs.Words.{splice}
use Rattle.words.proofs.Splice.{length-splice, splice_more}
use Rattle.machine.specs.Text.{digit_text, numeral, hash_digits, hexadecimal, kind_letter, key_text}
use Rattle.lines.specs.Text.{Wrote}
use Rattle.regions.specs.declared.Quad.{Quad}
use Rattle.regions.specs.Rows.{quad_number}
use Rattle.regions.proofs.Order.{Small}
use Rattle.lines.proofs.Hashes.{digit-word, last_digit, quad_below}
use Rattle.machine.proofs.Numerals.{numeral_one, numeral_more, numeral_fuel, length-numeral, rest_below}

-- one byte
pub wrote-byte : (s : List ℕ) (a v : ℕ) → a < length s → Wrote s (set s a v) a (v ∷ []) (a + 1)
unfolding splice
wrote-byte s a v h = record { bytes = set_split s a v h ∙ rw add-one; next = refl }

-- text behind text is one text
pub wrote_more : {s s₁ s₂ : List ℕ} {a e r : ℕ} {x y : List ℕ} → Wrote s s₁ a x e → Wrote s₁ s₂ e y r → e + length y ≤ length s → Wrote s s₂ a (x ++ y) r
wrote_more {s} {s₁} {s₂} {a} {e} {r} {x} {y} p q h = record {
  bytes = q.bytes ∙ ap (λ (l : List ℕ). splice l e y) p.bytes ∙ splice_more s a e x y p.next h;
  next = q.next ∙ rw (length-append x y) (omega (arith, p.next));
}

pub wrote-length : {s s₁ : List ℕ} {a e : ℕ} {x : List ℕ} → Wrote s s₁ a x e → e ≤ length s → length s₁ ≡ length s
wrote-length {s} {s₁} {a} {e} {x} p h = ap length p.bytes ∙ length-splice s a x (omega (arith, p.next))

-- ---- numbers, a digit at a time

module _ (b k : ℕ) (two : 1 < b) (small : b ≤ 16) (s : List ℕ) (a n : ℕ) (room : a + suc (suc k) ≤ length s) where
  pub wrote_one : n < b → Wrote s (set s a (digit_text n)) a (numeral b (suc (suc k)) n) (a + 1)
  wrote_one h = rw (numeral_one b (suc k) n h) (wrote-byte s a (digit_text n) (omega arith))

  module _ (h : b ≤ n) (g : n < b ^ suc (suc k)) {s₁ : List ℕ} {e : ℕ} (p : Wrote s s₁ a (numeral b (suc (suc k)) (n / b)) e) where
    pub rest_end : e < length s
    rest_end = let f : numeral b (suc k) (n / b) ≡ numeral b (suc (suc k)) (n / b) = numeral_fuel b 0 two small k (n / b) (rest_below b 0 two small k g) in
        omega (arith, p.next, length-numeral b (suc k) (n / b), ap length f)

    pub wrote_last : Wrote s (set s₁ e (digit_text (n % b))) a (numeral b (suc (suc k)) n) (e + 1)
    wrote_last =
        let f : numeral b (suc k) (n / b) ≡ numeral b (suc (suc k)) (n / b) = numeral_fuel b 0 two small k (n / b) (rest_below b 0 two small k g) in
        let l : length s₁ ≡ length s = wrote-length p (omega (arith, rest_end)) in
        let w : Wrote s₁ (set s₁ e (digit_text (n % b))) e (digit_text (n % b) ∷ []) (e + 1) = wrote-byte s₁ e (digit_text (n % b)) (omega (arith, rest_end)) in
        rw (numeral_more b (suc k) n h, f) (wrote_more p w (omega (arith, rest_end)))

pub decimal-fits : {n : ℕ} → n < 2 ^ 64 → n < 10 ^ 20
decimal-fits h = lt_of_lt_of_le h (lit≤ tt)

-- ---- bytes

-- copied into a part of the bytes
pub wrote_part : (s : List ℕ) (a : ℕ) (t : List ℕ) {x : List ℕ} → x ≡ t → Wrote s (put_mid a (a + length t - a) s x) a t (a + length t)
unfolding splice
wrote_part s a t e = let n : a + length t - a ≡ length t = omega arith in record { bytes = rw (e, n, drop-drop) refl; next = refl }

-- none yet
pub wrote_none : (s : List ℕ) (a : ℕ) → Wrote s s a [] (a + 0)
unfolding splice
wrote_none s a = record { bytes = sym (rw (add-zero a) (take-append-drop a s)); next = refl }

-- ---- hashes

module _ (s : List ℕ) (a : ℕ) (q : Quad) (room : a + hash_digits ≤ length s) where
  pub hash_one : {d : ℕ} → d ≡ digit_text q.w0 → quad_number q < 16 → Wrote s (set s a d) a (hexadecimal (quad_number q)) (a + 1)
  hash_one e h = let g = e ∙ ap digit_text (digit-word q h) in rw g (wrote_one 16 62 (lit< tt) (lit≤ tt) s a (quad_number q) room h)

  module _ (f : Small q) (h : 16 ≤ quad_number q) {m : ℕ} (e : m ≡ quad_number q / 16) {s₁ : List ℕ} {r : ℕ} (p : Wrote s s₁ a (hexadecimal m) r) where
    pub hash_end : r < length s
    hash_end = rest_end 16 62 (lit< tt) (lit≤ tt) s a (quad_number q) room h (quad_below q f) (rw e at p)

    pub hash_last : {d : ℕ} → d ≡ digit_text (q.w0 % 16) → Wrote s (set s₁ r d) a (hexadecimal (quad_number q)) (r + 1)
    hash_last g = let k = g ∙ ap digit_text (last_digit q) in rw k (wrote_last 16 62 (lit< tt) (lit≤ tt) s a (quad_number q) room h (quad_below q f) (rw e at p))

-- ---- keys

pub wrote-key : (s : List ℕ) (a : ℕ) (k : Kind) (h : ℕ) {l r : ℕ} {s₂ : List ℕ} → l ≡ kind_letter k → a + (1 + hash_digits) ≤ length s → Wrote (set s a l) s₂ (a + 1) (hexadecimal h) r
    → Wrote s s₂ a (key_text (record { kind = k; hash = h })) r
unfolding key_text
wrote-key s a k h {l} e room p = rw (← e) (wrote_more (wrote-byte s a l (omega arith)) p (omega (arith, length-numeral 16 hash_digits h)))
