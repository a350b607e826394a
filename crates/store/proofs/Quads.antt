-- A hash as four words and as a number decide each other.
use Prim.Native.Nat.{ℕ, ◌+◌, ◌*◌, ◌/◌, ◌%◌, ◌^◌, ◌<◌}
use mathlib.Core.Path.{◌≡◌}
use native.Mathlib.Omega.{arith}
use Rattle.ident.specs.Number.{top}
use Rattle.machine.specs.Limits.{word}
use Rattle.regions.specs.declared.Quad.{Quad}
use Rattle.regions.specs.Rows.{quad_number, quad_of}
use Rattle.regions.proofs.Order as order
use Rattle.regions.proofs.Order.{Small, four, quad_four}
use Rattle.store.specs.FlatSound.{QuadFits}

rest : (x : ℕ) → x % word < word
rest x = omega arith

up : (a x n : ℕ) → a < word → x < n → a + word * x < word * n
up a x n p q = omega arith

down : (x n : ℕ) → x < word * n → x / word < n
down x n h = omega arith

pub quad-number : (q : Quad) → QuadFits q → quad_of (quad_number q) ≡ q
quad-number q f = order.quad-number q (record { w0 = f.w0; w1 = f.w1; w2 = f.w2; w3 = f.w3 })

pub number-top : (q : Quad) → QuadFits q → quad_number q < top
unfolding four top
number-top q f =
    let h : four q.w0 q.w1 q.w2 q.w3 < 2 ^ 256 =
    up q.w0 (q.w1 + word * (q.w2 + word * q.w3)) (2 ^ 192) f.w0 (up q.w1 (q.w2 + word * q.w3) (2 ^ 128) f.w1 (up q.w2 q.w3 (2 ^ 64) f.w2 f.w3)) in
    rw (quad_four q) h

pub quad_fits : (h : ℕ) → h < top → QuadFits (quad_of h)
unfolding quad_of top
quad_fits h l = record {
  w0 = rest h;
  w1 = rest (h / word);
  w2 = rest (h / word / word);
  w3 = down (h / word / word) word (down (h / word) (2 ^ 128) (down h (2 ^ 192) l));
}
