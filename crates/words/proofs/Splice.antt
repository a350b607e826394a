-- The laws of `splice`: a part of a list replaced.
use Prim.Native.Nat.{ℕ, ◌+◌, ◌-◌, ◌≤◌, ◌<◌}
use mathlib.Core.Path.{◌≡◌, sym, ap, ◌∙◌}
use mathlib.Core.List.{List, [], ◌++◌, append_assoc, append-nil}
use native.Mathlib.Nat.{add_assoc}
use native.Mathlib.Omega.{arith}
use lib.ListN.{length, take, drop, set, length-set, length-append, length-take, length-drop, take-append-drop, drop_of_length-le}
use lib.Seq.{take_at, drop_at, set-append_left, take-set-le, drop-set-add, take-add, drop-drop, length-take-le}
use Rattle.words.specs.Words.{splice}

pub length-splice : (s : List ℕ) (a : ℕ) (x : List ℕ) → a + length x ≤ length s → length (splice s a x) ≡ length s
unfolding splice
length-splice s a x h = simp (length-append, length-take, length-drop) (omega arith)

-- a splice past the first k elements keeps those, and is a splice of the rest
pub splice_step : (s : List ℕ) (k a : ℕ) (x : List ℕ) → splice s (k + a) x ≡ take k s ++ splice (drop k s) a x
unfolding splice
splice_step s k a x =
    rw (take-add k a s, append_assoc, add_assoc k a (length x), ← (drop-drop (a + length x) k s))

-- a store is a splice of the part that it falls into
pub set-splice : (s : List ℕ) (a k j v : ℕ) → a + k ≤ length s → j < k → set s (a + j) v ≡ splice s a (set (take k (drop a s)) j v)
unfolding splice
set-splice s a k j v h l =
    let ld : length (drop a s) ≡ length s - a = length-drop a s in
    let lx : length (take k (drop a s)) ≡ k = length-take-le k (drop a s) (omega arith) in
    let e : length (set (take k (drop a s)) j v) ≡ k = length-set (take k (drop a s)) j v ∙ lx in
    let t : length (take a s) ≡ a = length-take-le a s (omega arith) in
    let c : set (drop a s) j v ≡ set (take k (drop a s)) j v ++ drop k (drop a s) =
    ap (λ (r : List ℕ). set r j v) (sym (take-append-drop k (drop a s))) ∙ set-append_left (take k (drop a s)) (drop k (drop a s)) j v (omega arith) in
    sym (take-append-drop a (set s (a + j) v))
    ∙ rw (e, take-set-le a s (a + j) v (omega arith), drop-set-add a s j v, c, drop-drop k a s)

-- two splices in a row
pub splice_more : (s : List ℕ) (a b : ℕ) (x y : List ℕ) → b ≡ a + length x → b + length y ≤ length s → splice (splice s a x) b y ≡ splice s a (x ++ y)
unfolding splice
splice_more s a b x y e h =
    let t : length (take a s ++ x) ≡ b = simp (length-append, length-take) (omega arith) in
    let r : List ℕ = drop (a + length x) s in
    let g : a + length (x ++ y) ≡ a + length x + length y = simp length-append (omega arith) in
    rw (
      ← (append_assoc (take a s) x r),
      take_at (take a s ++ x) r b t,
      ← (drop-drop (length y) b ((take a s ++ x) ++ r)),
      drop_at (take a s ++ x) r b t,
      drop-drop (length y) (a + length x) s,
      g,
      append_assoc (take a s) x (y ++ drop (a + length x + length y) s),
      append_assoc x y (drop (a + length x + length y) s),
    )

-- a list written over whole
pub splice_whole : (s x : List ℕ) → length s ≡ length x → splice s 0 x ≡ x
unfolding splice
splice_whole s x e =
    let d : drop (0 + length x) s ≡ [] = drop_of_length-le s {i = 0 + length x} (omega arith) in
    rw (d, append-nil)

-- a part that was lent, `&mut s[a..e]`, and has come back as x
pub splice_back : (s : List ℕ) (a e : ℕ) (x : List ℕ) → a ≤ e → length x ≡ e - a → take a s ++ (x ++ drop (e - a) (drop a s)) ≡ splice s a x
unfolding splice
splice_back s a e x h l = rw (← l, drop-drop (length x) a s)
