-- Texts that are measured, and written where they fit: one by itself, and one behind another.
use Prim.Native.Nat.{ℕ, ◌+◌, ◌≤◌, ◌<◌}
use mathlib.Core.Path.{◌≡◌, refl, ap, subst, ◌∙◌}
use mathlib.Core.List.{List, [], ◌++◌}
use native.Mathlib.Omega.{arith}
use lib.ListN.{length, take, drop, length-append, length-take}
use lib.Seq.{take_at}
use Rattle.words.specs.Words.{splice}
use Rattle.words.proofs.Splice.{splice_more}
use Rattle.machine.specs.Text.{decimal_digits, decimal, hash_digits, hexadecimal}
use Rattle.lines.specs.Text.{Wrote}
use Rattle.machine.proofs.Numerals.{length-numeral}
use Rattle.lines.proofs.Writing.{wrote-length, wrote_none}
use Rattle.saving.specs.Laid.{Lays}

module _ {s s' : List ℕ} {a : ℕ} {x : List ℕ} {r : ℕ} where
  -- written, with room
  pub lays_wrote : r ≤ length s → Wrote s s' a x r → Lays s s' a x r
  lays_wrote h w = record { next = w.next; long = wrote-length w h; bytes = λ _. w.bytes }

  pub lays_as : {y : List ℕ} → x ≡ y → Lays s s' a x r → Lays s s' a y r
  lays_as e p = subst (λ (t : List ℕ). Lays s s' a t r) e p

-- only measured
pub lays_not : {s : List ℕ} {a : ℕ} {x : List ℕ} {r : ℕ} → r ≡ a + length x → length s < r → Lays s s a x r
lays_not e h = record { next = e; long = refl; bytes = λ l. absurd (omega arith) }

-- nothing
pub lays_none : (s : List ℕ) (a : ℕ) → Lays s s a [] a
lays_none s a = record { next = omega arith; long = refl; bytes = λ _. (wrote_none s a).bytes }

-- a text behind a text
pub lays_more : {s s₁ s₂ : List ℕ} {a e r : ℕ} {x y : List ℕ} → Lays s s₁ a x e → Lays s₁ s₂ e y r → Lays s s₂ a (x ++ y) r
lays_more {s} {s₁} {s₂} {a} {e} {r} {x} {y} p q =
    let m = p.next in
    let n = q.next in
    let l = p.long in
    record {
      next = rw (length-append x y) (omega arith);
      long = q.long ∙ l;
      bytes = λ h. q.bytes (omega arith) ∙ ap (λ (t : List ℕ). splice t e y) (p.bytes (omega arith)) ∙ splice_more s a e x y m (omega arith);
    }

-- ---- a text that was made beside

-- what stands at the front of a text's own buffer
pub front_text : {t t' : List ℕ} {x : List ℕ} {e : ℕ} → Wrote t t' 0 x e → take e t' ≡ x
unfolding splice
front_text {t} {t'} {x} {e} w =
    let n : length x ≡ e = omega (arith, w.next) in
    ap (take e) w.bytes ∙ take_at x (drop (0 + length x) t) e n

module _ {s s' : List ℕ} {a : ℕ} {r : ℕ} where
  -- a number's text is at most 20 bytes long, a hash's 64
  pub number-laid : {t t' : List ℕ} {e : ℕ} (n : ℕ) → Wrote t t' 0 (decimal n) e → Lays s s' a (take e t') r → (r ≤ a + decimal_digits) × Lays s s' a (decimal n) r
  number-laid n w p = let q = lays_as (front_text w) p in (omega (arith, q.next, length-numeral 10 decimal_digits n), q)

  pub hash-laid : {t t' : List ℕ} {e : ℕ} (h : ℕ) → Wrote t t' 0 (hexadecimal h) e → Lays s s' a (take e t') r → (r ≤ a + hash_digits) × Lays s s' a (hexadecimal h) r
  hash-laid h w p = let q = lays_as (front_text w) p in (omega (arith, q.next, length-numeral 16 hash_digits h), q)

-- where a number's text ends in its own buffer, and a hash's
pub number_end : {t t' : List ℕ} {e : ℕ} (n : ℕ) → Wrote t t' 0 (decimal n) e → e ≤ decimal_digits
number_end n w = omega (arith, w.next, length-numeral 10 decimal_digits n)

pub hash_end : {t t' : List ℕ} {e : ℕ} (h : ℕ) → Wrote t t' 0 (hexadecimal h) e → e ≤ hash_digits
hash_end h w = omega (arith, w.next, length-numeral 16 hash_digits h)

-- as many bytes as are taken
pub taken : (n : ℕ) (l : List ℕ) → n ≤ length l → n ≡ length (take n l)
taken n l h = omega (arith, length-take n l)
