-- The elements of a list that pass a test, and the records of a region that pass it, moved to the front one after the other.
use Prim.Native.Nat.{ℕ, ◌+◌, ◌-◌, ◌*◌, ◌≤◌, ◌<◌}
use mathlib.Core.Path.{◌≡◌, refl, sym, ap, subst, ◌∙◌}
use mathlib.Core.Logic.{inl, inr}
use mathlib.Core.Bool.{Bool, true, false}
use mathlib.Core.List.{List, [], ◌∷◌, ◌++◌, append-nil}
use native.Mathlib.Nat.{add-zero, mul_comm, mul-le-mul_left}
use native.Mathlib.Numerals.{add-one}
use native.Mathlib.Omega.{arith}
use lib.ListN.{length, take, drop, replicate, get_or, set, length-set}
use lib.Seq.{length-take-le, take_at, take_all, take-suc, drop-drop, get_or-drop, take-suc-set, drop-set-lt, set-get_or}
use Rattle.words.specs.Words.{words}
use Rattle.words.proofs.Words.{length-words}
use Rattle.words.proofs.Parts.{words-lent}
use Rattle.regions.specs.Regions.{RecordLaws, Holds, Copied, padded, each}
use Rattle.regions.proofs.Regions.{holds_at}
use Rattle.regions.specs.Staying.{filter, Sifted, Retained}
use Rattle.regions.proofs.Order.{test}

-- ---- filters

module _ {A : Type 0} (p : A → Bool) where
  pub filter-append : (a b : List A) → filter p (a ++ b) ≡ filter p a ++ filter p b
  unfolding filter
  filter-append [] b = refl
  filter-append (x ∷ a) b = elim (test (p x)) [ inl e ↦ rw (e, filter-append a b) | inr e ↦ rw (e, filter-append a b) ]

  pub filter_one : (x : A) → p x ≡ true → filter p (x ∷ []) ≡ x ∷ []
  unfolding filter
  filter_one x e = rw e

  pub filter_none : (x : A) → p x ≡ false → filter p (x ∷ []) ≡ []
  unfolding filter
  filter_none x e = rw e

-- ---- of a list xs the first i were looked at: what passes stands at the front of ys, m of them

pub record Turned {A : Type 0} (p : A → Bool) (xs ys : List A) (i m : ℕ) : Type 0 where
  pub long : length ys ≡ length xs
  pub front : take m ys ≡ filter p (take i xs)
  pub rest : drop i ys ≡ drop i xs

pub turned_none : {A : Type 0} {p : A → Bool} {xs : List A} → Turned p xs xs 0 0
unfolding filter
turned_none = record { long = refl; front = refl; rest = refl }

module _ {A : Type 0} {p : A → Bool} {xs ys : List A} {i m : ℕ} (g : Turned p xs ys i m) where
  pub turned_all : length xs ≤ i → take m ys ≡ filter p xs
  turned_all l = g.front ∙ ap (filter p) (take_all i xs l)

  module _ (l : i < length xs) (k : m ≤ i) (d : A) where
    here : get_or ys i d ≡ get_or xs i d
    here =
        let e : (x : List A) → get_or x i d ≡ get_or (drop i x) 0 d = λ x. ap (λ (j : ℕ). get_or x j d) (sym (add-zero i)) ∙ sym (get_or-drop i x 0 d) in
        e ys ∙ ap (λ (x : List A). get_or x 0 d) g.rest ∙ sym (e xs)

    next_rest : drop (i + 1) ys ≡ drop (i + 1) xs
    next_rest = sym (drop-drop 1 i ys) ∙ ap (drop 1) g.rest ∙ drop-drop 1 i xs

    longer : filter p (take (i + 1) xs) ≡ filter p (take i xs) ++ filter p (get_or xs i d ∷ [])
    longer = rw (add-one i, take-suc xs i d l) (filter-append p (take i xs) (get_or xs i d ∷ []))

    pub turned_stays : p (get_or ys i d) ≡ true → Turned p xs (set ys m (get_or ys i d)) (i + 1) (m + 1)
    turned_stays e = record {
      long = length-set ys m (get_or ys i d) ∙ g.long;
      front =
          let x = get_or ys i d in
          let a : take (m + 1) (set ys m x) ≡ take m ys ++ (x ∷ []) = rw (add-one m) (take-suc-set ys m x (omega (arith, g.long))) in
          let b : filter p (get_or xs i d ∷ []) ≡ x ∷ [] = rw (← here) (filter_one p x e) in
          a ∙ ap (λ (y : List A). y ++ (x ∷ [])) g.front ∙ ap (λ (y : List A). filter p (take i xs) ++ y) (sym b) ∙ sym longer;
      rest = drop-set-lt (i + 1) ys m (get_or ys i d) (omega arith) ∙ next_rest;
    }

    pub turned_goes : p (get_or ys i d) ≡ false → Turned p xs ys (i + 1) m
    turned_goes e = record {
      long = g.long;
      front =
          let b : filter p (get_or xs i d ∷ []) ≡ [] = rw (← here) (filter_none p (get_or ys i d) e) in
          g.front ∙ sym (longer ∙ ap (λ (y : List A). filter p (take i xs) ++ y) b ∙ append-nil (filter p (take i xs)));
      rest = next_rest;
    }

-- ---- the bytes of one record

module _ {A : Type 0} {k : ℕ} {enc : A → List ℕ} (laws : RecordLaws k enc) where
  module _ (s : List ℕ) (i n : ℕ) {size : ℕ} (e : size ≡ k) (l : i < n) (g : 8 * (k * n) ≤ length s) where
    pub part-inside : (i * size + size) * 8 ≤ length s
    part-inside =
        let b : k * (i + 1) ≤ k * n = mul-le-mul_left k (omega arith) in
        let c : k * (i + 1) ≡ i * k + k = omega arith in
        rw e (omega arith)

    pub part-is : (L : ℕ) (xs : List A) (d : A) → i < length xs → Holds k enc L xs (words s) → words (take ((i * size + size) * 8 - i * size * 8) (drop (i * size * 8) s)) ≡ enc (get_or xs i d)
    part-is L xs d m h =
        let a : i * size ≡ k * i = rw e (mul_comm i k) in
        let z : i * size + size - i * size ≡ k = rw e (omega arith) in
        let b : k * (i + 1) ≤ length (words s) = rw (length-words s) (omega (arith, part-inside)) in
        words-lent s (i * size) (i * size + size) (omega arith) (omega (arith, part-inside))
        ∙ (λ j. take (z j) (drop (a j) (words s)))
        ∙ holds_at k enc laws.sized (words s) i b L xs d m h

  -- a record by itself
  pub holds_one : (w : List ℕ) (x : A) → w ≡ enc x → Holds k enc 1 (x ∷ []) w
  unfolding padded each
  holds_one w x e =
      let n : k * 1 ≡ k = omega arith in
      e ∙ sym (ap (λ (j : ℕ). take j ((enc x ++ []) ++ replicate j 0)) n ∙ ap (λ (y : List ℕ). take k (y ++ replicate k 0)) (append-nil (enc x)) ∙ take_at (enc x) (replicate k 0) k (laws.sized x))

-- ---- the loop over a region: of the first i records those that stay stand at the front, m of them

pub record Going {A : Type 0} (k : ℕ) (enc : A → List ℕ) (q : A → Bool) (L : ℕ) (xs : List A) (w : List ℕ) (i m : ℕ) : Type 0 where
  pub kept : List A
  pub turned : Turned q xs kept i m
  pub holds : Holds k enc L kept w

pub record Retaining {A : Type 0} (k : ℕ) (enc : A → List ℕ) (asked : (A → Bool) → Type 0) (w₀ w : List ℕ) (n i m : ℕ) : Type 0 where
  pub most : i ≤ n
  pub less : m ≤ i
  pub going : (q : A → Bool) → asked q → (L : ℕ) (xs : List A) → length xs ≡ n → Holds k enc L xs w₀ → Going k enc q L xs w i m

some_of : {A : Type 0} (xs : List A) (i : ℕ) → i < length xs → A
some_of [] i h = absurd (omega arith)
some_of (x ∷ xs) i h = x

module _ {A : Type 0} {k : ℕ} {enc : A → List ℕ} {asked : (A → Bool) → Type 0} where
  pub retaining_same : {w₀ w w' : List ℕ} {n i m m' : ℕ} → w' ≡ w → m' ≡ m → Retaining k enc asked w₀ w n i m → Retaining k enc asked w₀ w' n i m'
  retaining_same {w₀} {w} {w'} {n} {i} {m} e f c =
      subst (λ (v : ℕ). Retaining k enc asked w₀ w' n i v) (sym f) (subst (λ (x : List ℕ). Retaining k enc asked w₀ x n i m) (sym e) c)

  pub retaining_none : (w : List ℕ) (n : ℕ) → Retaining k enc asked w w n 0 0
  retaining_none w n = record { most = omega arith; less = omega arith; going = λ q a L xs e h. record { kept = xs; turned = turned_none; holds = h } }

  -- a turn: the test of the i-th record answered b
  module _ {w₀ w : List ℕ} {n i m : ℕ} (c : Retaining k enc asked w₀ w n i m) (l : i < n) (b : Bool)
      (is : (q : A → Bool) → asked q → (L : ℕ) (xs : List A) (d : A) → i < length xs → Holds k enc L xs w → b ≡ q (get_or xs i d)) where
    stays_at : (q : A → Bool) (a : asked q) (L : ℕ) (xs : List A) (e : length xs ≡ n) (h : Holds k enc L xs w₀) (d : A) → b ≡ true
        → Turned q xs (set (c.going q a L xs e h).kept m (get_or (c.going q a L xs e h).kept i d)) (i + 1) (m + 1)
    stays_at q a L xs e h d y =
        let g = c.going q a L xs e h in
        let j : i < length g.kept = omega (arith, g.turned.long) in
        turned_stays g.turned (omega arith) c.less d (sym (is q a L g.kept d j g.holds) ∙ y)

    pub retaining_moved : b ≡ true → {w' : List ℕ} → Copied k enc w w' m i → Retaining k enc asked w₀ w' n (i + 1) (m + 1)
    retaining_moved y {w'} t = record {
      most = omega arith;
      less = omega (arith, c.less);
      going = λ q a L xs e h.
          let g = c.going q a L xs e h in
          let j : i < length g.kept = omega (arith, g.turned.long) in
          let d = some_of g.kept i j in
          record { kept = set g.kept m (get_or g.kept i d); turned = stays_at q a L xs e h d y; holds = t.region L g.kept d j g.holds };
    }

    pub retaining_stays : b ≡ true → m ≡ i → Retaining k enc asked w₀ w n (i + 1) (m + 1)
    retaining_stays y z = record {
      most = omega arith;
      less = omega (arith, c.less);
      going = λ q a L xs e h.
          let g = c.going q a L xs e h in
          let d = some_of g.kept i (omega (arith, g.turned.long)) in
          let x = get_or g.kept i d in
          let same : set g.kept m x ≡ g.kept = ap (λ (v : ℕ). set g.kept v x) z ∙ set-get_or g.kept i d in
          record { kept = set g.kept m x; turned = stays_at q a L xs e h d y; holds = subst (λ (v : List A). Holds k enc L v w) (sym same) g.holds };
    }

    pub retaining_goes : b ≡ false → Retaining k enc asked w₀ w n (i + 1) m
    retaining_goes y = record {
      most = omega arith;
      less = omega (arith, c.less);
      going = λ q a L xs e h.
          let g = c.going q a L xs e h in
          let j : i < length g.kept = omega (arith, g.turned.long) in
          let d = some_of g.kept i j in
          record { kept = g.kept; turned = turned_goes g.turned (omega arith) c.less d (sym (is q a L g.kept d j g.holds) ∙ y); holds = g.holds };
    }

  pub retaining_end : {w₀ w : List ℕ} {n i m : ℕ} → Retaining k enc asked w₀ w n i m → n ≤ i → Sifted k enc asked w₀ w n m
  retaining_end {w₀} {w} {n} {i} {m} c l = record {
    most = omega (arith, c.less, c.most);
    region = λ q a L xs e h.
        let g = c.going q a L xs e h in
        record { all = g.kept; long = g.turned.long; front = turned_all g.turned (omega arith); holds = g.holds };
  }

  -- what is behind them goes, whatever clears it
  pub sifted-retained : {w₀ w w' : List ℕ} {n m : ℕ} → Sifted k enc asked w₀ w n m
      → ((L : ℕ) (xs : List A) → length xs ≡ n → Holds k enc L xs w → Holds k enc L (take m xs) w') → Retained k enc asked w₀ w' n m
  sifted-retained {w₀} {w} {w'} {n} {m} c t = record {
    most = c.most;
    count = λ q a L xs e h.
        let g = c.region q a L xs e h in
        sym (length-take-le m g.all (omega (arith, g.long, c.most))) ∙ ap length g.front;
    region = λ q a L xs e h.
        let g = c.region q a L xs e h in
        subst (λ (x : List A). Holds k enc L x w') g.front (t L g.all (g.long ∙ e) g.holds);
  }
