-- Hashes digit by digit: one hexadecimal digit fewer.
use Prim.Native.Nat.{ℕ, ◌+◌, ◌*◌, ◌/◌, ◌%◌, ◌^◌, ◌<◌}
use mathlib.Core.Path.{◌≡◌, refl, sym, ◌∙◌}
use native.Mathlib.Omega.{arith}
use Rattle.regions.specs.declared.Quad.{Quad}
use Rattle.regions.specs.Rows.{quad_number}
use Rattle.regions.proofs.Order.{Small, four, quad_four}

above : {w x t : ℕ} → w < 2 ^ 64 → x < t → w + 2 ^ 64 * x < 2 ^ 64 * t
above h l = omega arith

-- ---- a hash of no digit

pub quad_low : (d : ℕ) → quad_number (record { w0 = d; w1 = 0; w2 = 0; w3 = 0 }) ≡ d
unfolding four
quad_low d = quad_four _ ∙ omega arith

-- ---- one digit fewer

-- a word without its lowest digit, and with the lowest of the word above in the highest place
shift : (w x : ℕ) → (w / 16 + x % 16 * 2 ^ 60) + 2 ^ 64 * (x / 16) ≡ (w + 2 ^ 64 * x) / 16
shift w x = omega arith

low : (w x : ℕ) → (w + 2 ^ 64 * x) % 16 ≡ w % 16
low w x = omega arith

pub without-digit : (q : Quad) →
    quad_number (record { w0 = q.w0 / 16 + q.w1 % 16 * 2 ^ 60; w1 = q.w1 / 16 + q.w2 % 16 * 2 ^ 60; w2 = q.w2 / 16 + q.w3 % 16 * 2 ^ 60; w3 = q.w3 / 16 }) ≡ quad_number q / 16
unfolding four
without-digit q =
    let x : ℕ = q.w2 + 2 ^ 64 * q.w3 in
    let y : ℕ = q.w1 + 2 ^ 64 * x in
    quad_four _ ∙ rw (shift q.w2 q.w3, ← low q.w2 q.w3, shift q.w1 x, ← low q.w1 x, shift q.w0 y, quad_four q)

pub last_digit : (q : Quad) → q.w0 % 16 ≡ quad_number q % 16
unfolding four
last_digit q = rw (quad_four q) (sym (low q.w0 (q.w1 + 2 ^ 64 * (q.w2 + 2 ^ 64 * q.w3))))

-- ---- a number of one digit

alone : (w x : ℕ) → w + 2 ^ 64 * x < 16 → w ≡ w + 2 ^ 64 * x
alone w x g = omega arith

module _ (q : Quad) where
  -- of a number of one digit, that is the lowest word
  pub digit-word : quad_number q < 16 → q.w0 ≡ quad_number q
  unfolding four
  digit-word h = rw (quad_four q) (alone q.w0 (q.w1 + 2 ^ 64 * (q.w2 + 2 ^ 64 * q.w3)) (rw (quad_four q) at h))

  pub quad_below : Small q → quad_number q < 16 ^ 64
  unfolding four
  quad_below s = let e : 16 ^ 64 ≡ 2 ^ 64 * (2 ^ 64 * (2 ^ 64 * 2 ^ 64)) = refl in rw (quad_four q, e) (above s.w0 (above s.w1 (above s.w2 s.w3)))

-- ---- a word without its lowest digit fits

pub shift_in : (w v : ℕ) → w < 2 ^ 64 → w / 16 + v % 16 * 2 ^ 60 < 2 ^ 64
shift_in w v h =
    let r : w / 16 < 2 ^ 60 = omega arith in
    let d : v % 16 < 16 = omega arith in
    omega arith
