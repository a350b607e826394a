-- The laws of `up` and `down`: elements moved within a list, d places at a time.
use Prim.Native.Nat.{ℕ, ◌+◌, ◌-◌, ◌≤◌}
use mathlib.Core.Path.{◌≡◌, sym, ap, ◌∙◌}
use mathlib.Core.List.{List, [], ◌++◌, append_assoc, append-nil}
use native.Mathlib.Nat.{zero-add}
use native.Mathlib.Omega.{arith}
use lib.ListN.{length, take, drop, length-drop, take-append-drop, drop_of_length-le}
use lib.Seq.{paste, take-take, drop-append-le, drop_at, take-add, drop-drop, length-take-le}
use Rattle.words.specs.Words.{up, down}

pub mid : (a m : ℕ) (w : List ℕ) → a ≤ length w → drop a (take (a + m) w) ≡ take m (drop a w)
mid a m w h = rw (take-add a m w) (drop_at (take a w) (take m (drop a w)) a (length-take-le a w h))

-- ---- a move from the front, as the library says it

pub pasted_up : (d m : ℕ) (w : List ℕ) → paste w d w m ≡ up d w 0 m
unfolding up
pasted_up d m w =
    let e : d + m ≡ m + d = omega arith in
    rw (zero-add d, e) (append_assoc (take d w) (take m w) (drop (m + d) w))

pub pasted_down : (d m : ℕ) (w : List ℕ) → d ≤ length w → paste w 0 (drop d w) m ≡ down d w 0 m
unfolding down
pasted_down d m w h =
    let e : m + d ≡ d + m = omega arith in
    rw (zero-add d, zero-add m, e, mid d m w h)

-- ---- a move within a part

-- what is moved up within a part, is moved up within the whole
pub up_part : (d : ℕ) (w : List ℕ) (a m : ℕ) → a + m + d ≤ length w
    → take a w ++ (up d (take (m + d) (drop a w)) 0 m ++ drop (a + m + d) w) ≡ up d w a (a + m)
unfolding up
up_part d w a m h =
    let p : List ℕ = take (m + d) (drop a w) in
    let l : length (drop a w) ≡ length w - a = length-drop a w in
    let lp : length p ≡ m + d = length-take-le (m + d) (drop a w) (omega arith) in
    let e₁ : take (0 + d) p ≡ take d (drop a w) = rw zero-add (take-take d (m + d) (drop a w) (omega arith)) in
    let e₂ : take m p ≡ take m (drop a w) = take-take m (m + d) (drop a w) (omega arith) in
    let e₃ : drop (m + d) p ≡ [] = drop_of_length-le p {i = m + d} (omega arith) in
    rw (e₁, e₂, e₃, append-nil, take-add a d w, mid a m w (omega arith)) (simp append_assoc)

pub down_part : (d : ℕ) (w : List ℕ) (a m : ℕ) → a + m + d ≤ length w
    → take a w ++ (down d (take (m + d) (drop a w)) 0 m ++ drop (a + m + d) w) ≡ down d w a (a + m)
unfolding down
down_part d w a m h =
    let l : length (drop a w) ≡ length w - a = length-drop a w in
    let p : List ℕ = take (m + d) (drop a w) in
    let e₁ : take (m + d) p ≡ p = take-take (m + d) (m + d) (drop a w) (omega arith) in
    let g : a + (m + d) ≡ a + m + d = omega arith in
    let e₂ : drop (a + d) (take (a + m + d) w) ≡ drop d p =
    sym (drop-drop d a (take (a + m + d) w)) ∙ ap (λ (k : ℕ). drop d (drop a (take k w))) (sym g) ∙ ap (drop d) (mid a (m + d) w (omega arith)) in
    let lp : length p ≡ m + d = length-take-le (m + d) (drop a w) (omega arith) in
    let e₃ : drop m p ++ drop (a + m + d) w ≡ drop (a + m) w =
    ap (λ (k : ℕ). drop m p ++ drop k w) (sym g)
    ∙ ap (λ (r : List ℕ). drop m p ++ r) (sym (drop-drop (m + d) a w))
    ∙ sym (drop-append-le m p (drop (m + d) (drop a w)) (omega arith))
    ∙ ap (drop m) (take-append-drop (m + d) (drop a w))
    ∙ drop-drop m a w in
    rw (zero-add, e₁, e₂, append_assoc, e₃)
