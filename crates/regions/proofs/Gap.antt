-- Words with a part put in, taken out or replaced, as the code does it.
use Prim.Native.Nat.{ℕ, ◌+◌, ◌-◌, ◌≤◌, ◌<◌}
use mathlib.Core.Path.{◌≡◌, refl, sym, ap, ◌∙◌}
use mathlib.Core.List.{List, [], ◌∷◌, ◌++◌, append_assoc}
use native.Mathlib.Numerals.{add-one}
use native.Mathlib.Omega.{arith}
use lib.ListN.{length, take, drop, set, replicate, take-append-drop, length-append, length-take, length-drop, length-replicate}
use lib.Seq.{set_split, take-add, drop-append-le, take_at, drop_at, take-append-le, take-take, drop-drop, take-append-add, drop-append-add, length-take-le}
use Rattle.words.specs.Words.{splice, up, down}
use Rattle.regions.specs.Regions.{opened, shut}

-- the words moved up and the gap filled
pub opened_by : (w : List ℕ) {w₁ w₂ : List ℕ} (d a b : ℕ) (x : List ℕ) → length x ≡ d → a + d ≤ length w
    → w₁ ≡ up d w a b → w₂ ≡ splice w₁ a x → w₂ ≡ opened a b x w
unfolding splice up opened
opened_by w d a b x e l p q =
    let y : List ℕ = drop a (take b w) ++ drop (b + d) w in
    let t : length (take (a + d) w) ≡ a + d = length-take-le (a + d) w l in
    let m : a ≤ length (take (a + d) w) = omega arith in
    let m' : a ≤ a + d = omega arith in
    rw (q, p, e, drop_at (take (a + d) w) y (a + d) t, take-append-le a (take (a + d) w) y m, take-take a (a + d) w m')

-- the words moved down and the last of them cleared
pub shut_by : (w : List ℕ) {w₁ w₂ : List ℕ} (d a b : ℕ) → a + d ≤ b → b ≤ length w
    → w₁ ≡ down d w a (b - d) → w₂ ≡ splice w₁ (b - d) (replicate d 0) → w₂ ≡ shut d a b w
unfolding splice down shut
shut_by w d a b h l p q =
    let e : ℕ = b - d in
    let g : e + d ≡ b = omega arith in
    let f : List ℕ = take a w ++ drop (a + d) (take (e + d) w) in
    let t : length f ≡ e = simp (length-append, length-take, length-drop) (omega arith) in
    let lz : length (replicate {A = ℕ} d 0) ≡ d = length-replicate {A = ℕ} d 0 in
    rw (
      q,
      p,
      lz,
      ← (append_assoc (take a w) (drop (a + d) (take (e + d) w)) (drop e w)),
      take_at f (drop e w) e t,
      ← (drop-drop d e (f ++ drop e w)),
      drop_at f (drop e w) e t,
      drop-drop d e w,
      append_assoc,
      g,
    )

-- ---- at the seams of an append

-- what lies from a to b, between a front and a back
mid_take : (p m r : List ℕ) → drop (length p) (take (length p + length m) (p ++ (m ++ r))) ≡ m
mid_take p m r = rw (take-append-add p (m ++ r) (length m), take_at m r (length m) refl, drop_at p m (length p) refl)

mid_drop : (p m r : List ℕ) → drop (length p + length m) (p ++ (m ++ r)) ≡ r
mid_drop p m r = rw (drop-append-add p (m ++ r) (length m), drop_at m r (length m) refl)

pub opened_at : (p m z r x : List ℕ) → length z ≡ length x → opened (length p) (length p + length m) x (p ++ (m ++ (z ++ r))) ≡ p ++ (x ++ (m ++ r))
unfolding opened
opened_at p m z r x e =
    let d : drop (length p + length m + length x) (p ++ (m ++ (z ++ r))) ≡ r = rw (← e, ← (drop-drop (length z) (length p + length m) (p ++ (m ++ (z ++ r)))), mid_drop p m (z ++ r))
    (drop_at z r (length z) refl) in
    rw (mid_take p m (z ++ r), d, take_at p (m ++ (z ++ r)) (length p) refl)

pub shut_at : (p x m r : List ℕ) (d : ℕ) → length x ≡ d → shut d (length p) (length p + (length x + length m)) (p ++ (x ++ (m ++ r))) ≡ p ++ (m ++ (replicate d 0 ++ r))
unfolding shut
shut_at p x m r d e =
    let l : length (x ++ m) ≡ length x + length m = length-append x m in
    let a : p ++ (x ++ (m ++ r)) ≡ p ++ ((x ++ m) ++ r) = rw append_assoc in
    let t : take (length p + (length x + length m)) (p ++ (x ++ (m ++ r))) ≡ p ++ (x ++ m) =
    rw (a, ← l, take-append-add p ((x ++ m) ++ r) (length (x ++ m)), take_at (x ++ m) r (length (x ++ m)) refl) in
    let b : drop (length p + (length x + length m)) (p ++ (x ++ (m ++ r))) ≡ r = rw (a, ← l) (mid_drop p (x ++ m) r) in
    rw (t, b, ← e, drop-append-add p (x ++ m) (length x), drop_at x m (length x) refl, take_at p (x ++ (m ++ r)) (length p) refl)

pub splice_at : (p x y r : List ℕ) → length y ≡ length x → splice (p ++ (y ++ r)) (length p) x ≡ p ++ (x ++ r)
unfolding splice
splice_at p x y r e = rw (← e, mid_drop p y r, take_at p (y ++ r) (length p) refl)

-- ---- a part of a part

-- a splice within the words a .. a + k
pub splice_in : (w : List ℕ) (a k j : ℕ) (y : List ℕ) → a + k ≤ length w → j + length y ≤ k
    → splice w (a + j) y ≡ splice w a (splice (take k (drop a w)) j y)
unfolding splice
splice_in w a k j y h l =
    let ld : length (drop a w) ≡ length w - a = length-drop a w in
    let lp : length (take k (drop a w)) ≡ k = length-take-le k (drop a w) (omega arith) in
    let lz : length (take j (take k (drop a w)) ++ (y ++ drop (j + length y) (take k (drop a w)))) ≡ k =
    simp (length-append, length-take, length-drop) (omega arith) in
    let e₁ : take (a + j) w ≡ take a w ++ take j (drop a w) = take-add a j w in
    let e₂ : take j (take k (drop a w)) ≡ take j (drop a w) = take-take j k (drop a w) (omega arith) in
    let g : a + j + length y ≡ a + (j + length y) = omega arith in
    let e₃ : drop (j + length y) (take k (drop a w)) ++ drop (a + k) w ≡ drop (a + j + length y) w =
    ap (λ (r : List ℕ). drop (j + length y) (take k (drop a w)) ++ r) (sym (drop-drop k a w))
    ∙ sym (drop-append-le (j + length y) (take k (drop a w)) (drop k (drop a w)) (omega arith))
    ∙ ap (drop (j + length y)) (take-append-drop k (drop a w))
    ∙ drop-drop (j + length y) a w
    ∙ ap (λ (m : ℕ). drop m w) (sym g) in
    rw (lz, e₁, ← e₃, e₂) (simp append_assoc)

-- one word stored
pub set_one : (w : List ℕ) (m v : ℕ) → m < length w → set w m v ≡ splice w m (v ∷ [])
unfolding splice
set_one w m v h = rw add-one (set_split w m v h)

-- words moved down over others are copied there
pub copied_by : (w : List ℕ) {w₁ : List ℕ} (a b d : ℕ) → a ≤ b → b + d ≤ length w → w₁ ≡ down (b - a) w a (a + d) → w₁ ≡ splice w a (take d (drop b w))
unfolding splice down
copied_by w a b d h l p =
    let ld : length (drop b w) ≡ length w - b = length-drop b w in
    let lx : length (take d (drop b w)) ≡ d = length-take-le d (drop b w) (omega arith) in
    let e₁ : a + (b - a) ≡ b = omega arith in
    let e₂ : a + d + (b - a) ≡ b + d = omega arith in
    let lb : length (take b w) ≡ b = length-take-le b w (omega arith) in
    let m : drop b (take (b + d) w) ≡ take d (drop b w) = rw (take-add b d w) (drop_at (take b w) (take d (drop b w)) b lb) in
    p ∙ rw (e₁, e₂, m, lx)
