-- The laws of `recs`: a list as records of k elements.
use Prim.Native.Nat.{ℕ, zero, suc, ◌+◌, ◌-◌, ◌*◌, ◌≤◌, ◌<◌}
use mathlib.Core.Path.{◌≡◌, refl, sym, ap, ◌∙◌}
use mathlib.Core.List.{List, ◌∷◌, ◌++◌}
use native.Mathlib.Nat.{mul-le-mul_left, mul-zero, zero-add, suc-add}
use native.Mathlib.Numerals.{add-one-le}
use native.Mathlib.Omega.{arith}
use lib.ListN.{length, take, drop, get_or, set, length-set, length-take, length-drop, take-append-drop}
use lib.Seq.{take-append-le, drop-append-le, take_at, drop_at, drop-drop, length-take-le}
use Rattle.words.specs.Words.{recs, splice}
use Rattle.words.proofs.Splice.{splice_step, set-splice}

module _ {A : Type 0} (k : ℕ) (f : List ℕ → A) where
  pub length-recs : (n : ℕ) (s : List ℕ) → length (recs k f n s) ≡ n
  unfolding recs
  length-recs zero s = refl
  length-recs (suc n) s = ap suc (length-recs n (drop k s))

  pub recs-add : (m n : ℕ) (s : List ℕ) → recs k f (m + n) s ≡ recs k f m s ++ recs k f n (drop (k * m) s)
  unfolding recs
  recs-add zero n s = rw (zero-add, mul-zero)
  recs-add (suc m) n s =
      let e : k * suc m ≡ k + k * m = omega arith in
      rw (suc-add, e, ← (drop-drop (k * m) k s), recs-add m n (drop k s))

  pub recs_at : (n : ℕ) (s : List ℕ) (i : ℕ) (d : A) → i < n → get_or (recs k f n s) i d ≡ f (take k (drop (k * i) s))
  unfolding recs
  recs_at zero s i d h = absurd (omega arith)
  recs_at (suc n) s zero d h = rw mul-zero
  recs_at (suc n) s (suc i) d h =
      let l : i < n = omega arith in
      let e : k * suc i ≡ k + k * i = omega arith in
      rw (e, ← (drop-drop (k * i) k s)) (recs_at n (drop k s) i d l)

  -- what lies past the records does not matter
  pub recs_front : (n : ℕ) (s t : List ℕ) → k * n ≤ length s → recs k f n (s ++ t) ≡ recs k f n s
  unfolding recs
  recs_front zero s t h = refl
  recs_front (suc n) s t h =
      let e : k * suc n ≡ k + k * n = omega arith in
      let l : k ≤ length s = omega arith in
      let m : k * n ≤ length (drop k s) = simp length-drop (omega arith) in
      rw (take-append-le k s t l, drop-append-le k s t l, recs_front n (drop k s) t m)

  recs-set_first : (n : ℕ) (s x : List ℕ) → length x ≡ k → recs k f (suc n) (splice s (k * zero) x) ≡ f x ∷ recs k f n (drop k s)
  unfolding recs splice
  recs-set_first n s x e = rw (mul-zero, zero-add, e, take_at x (drop k s) k e, drop_at x (drop k s) k e)

  -- one record replaced
  pub recs-set : (n : ℕ) (s : List ℕ) (i : ℕ) (x : List ℕ) → i < n → k * n ≤ length s → length x ≡ k
      → recs k f n (splice s (k * i) x) ≡ set (recs k f n s) i (f x)
  unfolding recs
  recs-set zero s i x h l e = absurd (omega arith)
  recs-set (suc n) s zero x h l e = recs-set_first n s x e
  recs-set (suc n) s (suc i) x h l e =
      let e₁ : k * suc i ≡ k + k * i = omega arith in
      let e₂ : k * suc n ≡ k + k * n = omega arith in
      let l₁ : length (take k s) ≡ k = length-take-le k s (omega arith) in
      let l₂ : k * n ≤ length (drop k s) = simp length-drop (omega arith) in
      let l₃ : i < n = omega arith in
      rw (e₁, splice_step s k (k * i) x, take_at (take k s) (splice (drop k s) (k * i) x) k l₁, drop_at (take k s) (splice (drop k s) (k * i) x) k l₁, recs-set n (drop k s) i x l₃ l₂ e)

  -- the records of the front, and what is left after them
  pub recs-take : (n : ℕ) (s : List ℕ) → k * n ≤ length s → recs k f n (take (k * n) s) ≡ recs k f n s
  recs-take n s h =
      let l : k * n ≤ length (take (k * n) s) = simp length-take (omega arith) in
      sym (recs_front n (take (k * n) s) (drop (k * n) s) l) ∙ ap (recs k f n) (take-append-drop (k * n) s)

  pub take-recs : (i n : ℕ) (s : List ℕ) → i ≤ n → take i (recs k f n s) ≡ recs k f i s
  take-recs i n s h =
      let e : n ≡ i + (n - i) = omega arith in
      rw (e, recs-add i (n - i) s) (take_at (recs k f i s) (recs k f (n - i) (drop (k * i) s)) i (length-recs i s))

  pub drop-recs : (i n : ℕ) (s : List ℕ) → i ≤ n → drop i (recs k f n s) ≡ recs k f (n - i) (drop (k * i) s)
  drop-recs i n s h =
      let e : n ≡ i + (n - i) = omega arith in
      ap (λ (m : ℕ). drop i (recs k f m s)) e ∙ ap (drop i) (recs-add i (n - i) s) ∙ drop_at (recs k f i s) (recs k f (n - i) (drop (k * i) s)) i (length-recs i s)

  -- one element of one record replaced
  pub recs-set_in : (n : ℕ) (s : List ℕ) (i j v : ℕ) → i < n → k * n ≤ length s → j < k
      → recs k f n (set s (k * i + j) v) ≡ set (recs k f n s) i (f (set (take k (drop (k * i) s)) j v))
  recs-set_in n s i j v h l m =
      let g : k * (i + 1) ≤ k * n = mul-le-mul_left k (add-one-le h) in
      let e : k * (i + 1) ≡ k * i + k = omega arith in
      let x : List ℕ = take k (drop (k * i) s) in
      let lx : length x ≡ k = length-take-le k (drop (k * i) s) (simp length-drop (omega arith)) in
      rw (set-splice s (k * i) k j v (omega arith) m) (recs-set n s i (set x j v) h l (length-set x j v ∙ lx))
