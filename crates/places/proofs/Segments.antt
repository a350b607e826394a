-- Splices and reads within a part of a list.
use Prim.Native.Nat.{ℕ, ◌+◌, ◌≤◌, ◌<◌}
use mathlib.Core.Path.{◌≡◌, sym, ap, ◌∙◌}
use mathlib.Core.List.{List, ◌++◌, append_assoc}
use native.Mathlib.Omega.{arith}
use lib.ListN.{length, take, drop, get_or}
use lib.Seq.{take_at, drop_at, take-append-le, drop-append-le, drop-drop, get_or-take, get_or-drop, length-take-le}
use Rattle.words.specs.Words.{splice}
use Rattle.words.proofs.Splice.{splice_step, length-splice}
use Rattle.regions.specs.Rows.{read_quad}
use Rattle.regions.proofs.Gap.{splice_in}

-- ---- splices

-- within the front of an append
pub splice_front : (b c : List ℕ) (j : ℕ) (y : List ℕ) → j + length y ≤ length b → splice (b ++ c) j y ≡ splice b j y ++ c
unfolding splice
splice_front b c j y h =
    let l : j ≤ length b = omega arith in
    rw (take-append-le j b c l, drop-append-le (j + length y) b c h) (simp append_assoc)

-- within the back of an append
pub splice_back : (a c : List ℕ) (n j : ℕ) (y : List ℕ) → length a ≡ n → splice (a ++ c) (n + j) y ≡ a ++ splice c j y
splice_back a c n j y h = splice_step (a ++ c) n j y ∙ rw (take_at a c n h, drop_at a c n h)

-- a splice of a part that was replaced is a splice of what replaced it
pub splice_again : (w : List ℕ) {w₁ w₂ : List ℕ} (a k j : ℕ) (x y : List ℕ) → length x ≡ k → a + k ≤ length w → j + length y ≤ k
    → w₁ ≡ splice w a x → w₂ ≡ splice w₁ (a + j) y → w₂ ≡ splice w a (splice x j y)
unfolding splice
splice_again w {w₁} {w₂} a k j x y lx h l p q =
    let la : length (take a w) ≡ a = length-take-le a w (omega arith) in
    let lz : length (splice x j y) ≡ k = length-splice x j y (omega arith) ∙ lx in
    let lw : length w₁ ≡ length w = ap length p ∙ length-splice w a x (omega arith) in
    let t : take a w₁ ≡ take a w = ap (take a) p ∙ take_at (take a w) (x ++ drop (a + length x) w) a la in
    let d : drop a w₁ ≡ x ++ drop (a + length x) w = ap (drop a) p ∙ drop_at (take a w) (x ++ drop (a + length x) w) a la in
    let part : take k (drop a w₁) ≡ x = ap (take k) d ∙ take_at x (drop (a + length x) w) k lx in
    let rest : drop (a + k) w₁ ≡ drop (a + k) w = sym (drop-drop k a w₁) ∙ ap (drop k) d ∙ drop_at x (drop (a + length x) w) k lx ∙ ap (λ (m : ℕ). drop (a + m) w) lx in
    let e : splice w₁ (a + j) y ≡ splice w₁ a (splice (take k (drop a w₁)) j y) = splice_in w₁ a k j y (omega arith) l in
    q ∙ e ∙ ap (λ (v : List ℕ). splice w₁ a (splice v j y)) part ∙ rw (lz, t, rest)

-- ---- reads

pub quad-in : (l : List ℕ) (k m : ℕ) → m + 4 ≤ k → read_quad (drop m (take k l)) ≡ read_quad (drop m l)
quad-in l k m h =
    let at : (j : ℕ) → j < 4 → get_or (take k l) (m + j) 0 ≡ get_or l (m + j) 0 = λ j g. get_or-take k l (m + j) 0 (omega arith) in
    simp (get_or-drop, at 0 (omega arith), at 1 (omega arith), at 2 (omega arith), at 3 (omega arith))
