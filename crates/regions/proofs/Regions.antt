-- The laws of regions, for records of any size and encoding.
use Prim.Native.Nat.{ℕ, zero, suc, ◌+◌, ◌-◌, ◌*◌, ◌≤◌, ◌<◌}
use mathlib.Core.Path.{◌≡◌, refl, sym, ap, ◌∙◌}
use mathlib.Core.List.{List, [], ◌∷◌, ◌++◌, append_assoc, append-nil, map}
use native.Mathlib.Nat.{mul-le-mul_left, mul-zero, mul-suc, mul-add, mul_comm, mul-one, add_comm}
use native.Mathlib.Omega.{arith}
use lib.ListN.{length, take, drop, get_or, set, replicate, length-append, length-drop, length-replicate, replicate-append-replicate, take-append-drop}
use lib.Seq.{take_all, slice, take-add, take_at, drop_at, take-append-add, split_at, set_split, length-take-le}
use Rattle.words.specs.Words.{recs, splice, up}
use Rattle.regions.specs.Regions.{each, padded, Holds, insert_at, remove_at, opened, shut, Inserted, Removed, Replaced, Truncated, Copied, Changed, Found}
use Rattle.regions.proofs.Gap.{opened_by, splice_in, set_one, opened_at, shut_at, splice_at}

-- ---- words and zeros

pub length-padded : (n : ℕ) (w : List ℕ) → length (padded n w) ≡ n
unfolding padded
length-padded n w = length-take-le n (w ++ replicate n 0) (simp (length-append, length-replicate) (omega arith))

zeros : (m n : ℕ) → n ≤ m → replicate {A = ℕ} m 0 ≡ replicate n 0 ++ replicate (m - n) 0
zeros m n h = let e : n + (m - n) ≡ m = omega arith in rw (replicate-append-replicate {A = ℕ} n (m - n) 0, e)

-- words that fit are followed by zeros
pub padded-fit : (n : ℕ) (w : List ℕ) → length w ≤ n → padded n w ≡ w ++ replicate (n - length w) 0
unfolding padded
padded-fit n w h =
    let l : length (w ++ replicate (n - length w) 0) ≡ n = simp (length-append, length-replicate) (omega arith) in
    let z : replicate {A = ℕ} n 0 ≡ replicate (n - length w) 0 ++ replicate (n - (n - length w)) 0 = zeros n (n - length w) (omega arith) in
    let a : w ++ replicate n 0 ≡ (w ++ replicate (n - length w) 0) ++ replicate (n - (n - length w)) 0 = ap (λ (t : List ℕ). w ++ t) z ∙
    sym (append_assoc w (replicate (n - length w) 0) (replicate (n - (n - length w)) 0)) in
    rw a (take_at (w ++ replicate (n - length w) 0) (replicate (n - (n - length w)) 0) n l)

module _ (a b x : List ℕ) (n : ℕ) (h : length x + (length a + length b) ≤ n) where
  -- both sides as words and zeros
  without : padded n (a ++ b) ≡ a ++ (b ++ (replicate (length x) 0 ++ replicate (n - length (a ++ (x ++ b))) 0))
  without =
      let l : length (a ++ b) ≡ length a + length b = length-append a b in
      let m : length (a ++ (x ++ b)) ≡ length x + (length a + length b) = simp length-append (omega arith) in
      let e : n - length (a ++ b) - length x ≡ n - length (a ++ (x ++ b)) = omega arith in
      padded-fit n (a ++ b) (omega arith) ∙ rw (zeros (n - length (a ++ b)) (length x) (omega arith), e) (simp append_assoc)

  with_it : padded n (a ++ (x ++ b)) ≡ a ++ (x ++ (b ++ replicate (n - length (a ++ (x ++ b))) 0))
  with_it =
      let m : length (a ++ (x ++ b)) ≡ length x + (length a + length b) = simp length-append (omega arith) in
      padded-fit n (a ++ (x ++ b)) (omega arith) ∙ simp append_assoc

  padded-open : opened (length a) (length a + length b) x (padded n (a ++ b)) ≡ padded n (a ++ (x ++ b))
  padded-open = rw (without, with_it) (opened_at a b (replicate (length x) 0) (replicate (n - length (a ++ (x ++ b))) 0) x (length-replicate (length x) 0))

  pub padded-shut : shut (length x) (length a) (length a + (length x + length b)) (padded n (a ++ (x ++ b))) ≡ padded n (a ++ b)
  padded-shut = rw (without, with_it) (shut_at a x b (replicate (n - length (a ++ (x ++ b))) 0) (length x) refl)

-- zeros behind the words change nothing
padded-zeros : (a : List ℕ) (k n : ℕ) → length a + k ≤ n → padded n a ≡ padded n (a ++ (replicate k 0 ++ []))
padded-zeros a k n h =
    let l : length (a ++ (replicate k 0 ++ [])) ≡ length a + k = simp (append-nil, length-append, length-replicate) in
    let e : n - length a - k ≡ n - length (a ++ (replicate k 0 ++ [])) = omega arith in
    padded-fit n a (omega arith) ∙ rw (padded-fit n (a ++ (replicate k 0 ++ [])) (omega arith), zeros (n - length a) k (omega arith), e) (simp (append-nil, append_assoc))

-- a part replaced by one of the same length, also where the words are cut
module _ (a b x y : List ℕ) (n : ℕ) (h : length a + length x ≤ n) (e : length y ≡ length x) where
  cut-behind : (z : List ℕ) → length z ≡ length x → take n ((a ++ (z ++ b)) ++ replicate n 0) ≡ a ++ (z ++ take (n - (length a + length x)) (b ++ replicate n 0))
  cut-behind z l =
      let g : n ≡ length a + (length z + (n - (length a + length x))) = omega arith in
      let r : (a ++ (z ++ b)) ++ replicate n 0 ≡ a ++ (z ++ (b ++ replicate n 0)) = simp append_assoc in
      let q : take (length a + (length z + (n - (length a + length x)))) (a ++ (z ++ (b ++ replicate n 0))) ≡ a ++ (z ++ take (n - (length a + length x)) (b ++ replicate n 0)) =
      rw (take-append-add a (z ++ (b ++ replicate n 0)) (length z + (n - (length a + length x))), take-append-add z (b ++ replicate n 0) (n - (length a + length x))) in
      ap (take n) r ∙ ap (λ (m : ℕ). take m (a ++ (z ++ (b ++ replicate n 0)))) g ∙ q

  pub padded-splice : splice (padded n (a ++ (y ++ b))) (length a) x ≡ padded n (a ++ (x ++ b))
  unfolding padded
  padded-splice =
      let m : ℕ = n - (length a + length x) in
      rw (cut-behind y e, cut-behind x refl) (splice_at a x y (take m (b ++ replicate n 0)) e)

  pub padded_part : take (length x) (drop (length a) (padded n (a ++ (y ++ b)))) ≡ y
  unfolding padded
  padded_part =
      let m : ℕ = n - (length a + length x) in
      rw (cut-behind y e, drop_at a (y ++ take m (b ++ replicate n 0)) (length a) refl) (take_at y (take m (b ++ replicate n 0)) (length x) e)

-- ---- records of k words

pub each_append : {A B : Type 0} (g : A → List B) (s t : List A) → each g (s ++ t) ≡ each g s ++ each g t
unfolding each
each_append g [] t = refl
each_append g (r ∷ s) t = rw (each_append g s t, append_assoc)

module _ {A : Type 0} (k : ℕ) (enc : A → List ℕ) (len : (a : A) → length (enc a) ≡ k) where
  pub length_each : (l : List A) → length (each enc l) ≡ k * length l
  unfolding each
  length_each [] = rw mul-zero
  length_each (a ∷ l) = rw (length-append, len a, length_each l, mul-suc) (add_comm k (k * length l))

  module _ (l : List A) (i : ℕ) where
    front_long : i ≤ length l → length (each enc (take i l)) ≡ k * i
    front_long h = length_each (take i l) ∙ rw (length-take-le i l h)

    -- a list of records around one of them
    around : (d : A) → i < length l → each enc l ≡ each enc (take i l) ++ (enc (get_or l i d) ++ each enc (drop (suc i) l))
    unfolding each
    around d h = ap (each enc) (split_at l i d h) ∙ each_append enc (take i l) (get_or l i d ∷ drop (suc i) l)

    back_long : i < length l → k * i + (k + length (each enc (drop (suc i) l))) ≡ k * length l
    back_long h =
        let m : length (drop (suc i) l) ≡ length l - suc i = length-drop (suc i) l in
        let e : length l ≡ i + (1 + (length l - suc i)) = omega arith in
        rw (length_each (drop (suc i) l), m) (sym (ap (λ (j : ℕ). k * j) e ∙ rw (mul-add, mul-add, mul-one)))

    module _ (n : ℕ) where
      region_in : (x : A) → i ≤ length l → k * (length l + 1) ≤ n
          → opened (k * i) (k * length l) (enc x) (padded n (each enc l)) ≡ padded n (each enc (insert_at i x l))
      unfolding each insert_at
      region_in x h g =
          let la = front_long h in
          let s : length (drop i l) ≡ length l - i = length-drop i l in
          let d : k * i + length (each enc (drop i l)) ≡ k * length l = rw (length_each (drop i l), s, ← mul-add) (ap (λ (j : ℕ). k * j) (omega arith)) in
          let lx = len x in
          let f : k * (length l + 1) ≡ k * length l + k = omega arith in
          let q = padded-open (each enc (take i l)) (each enc (drop i l)) (enc x) n (omega arith) in
          let u : each enc l ≡ each enc (take i l) ++ each enc (drop i l) = sym (ap (each enc) (take-append-drop i l)) ∙ each_append enc (take i l) (drop i l) in
          rw (u, each_append enc (take i l) (x ∷ drop i l)) (rw (la, d) at q)

      region_out : (d : A) → i < length l → k * length l ≤ n
          → shut k (k * i) (k * length l) (padded n (each enc l)) ≡ padded n (each enc (remove_at i l))
      unfolding remove_at
      region_out d h g =
          let la = front_long (omega arith) in
          let lx = len (get_or l i d) in
          let lb = back_long h in
          let q = padded-shut (each enc (take i l)) (each enc (drop (suc i) l)) (enc (get_or l i d)) n (omega arith) in
          rw (around d h, each_append enc (take i l) (drop (suc i) l)) (rw (la, lx, lb) at q)

      pub region_over : (x : A) → i < length l → k * (i + 1) ≤ n
          → splice (padded n (each enc l)) (k * i) (enc x) ≡ padded n (each enc (set l i x))
      unfolding each
      region_over x h g =
          let la = front_long (omega arith) in
          let lx = len x in
          let f : k * (i + 1) ≡ k * i + k = omega arith in
          let q = padded-splice (each enc (take i l)) (each enc (drop (suc i) l)) (enc x) (enc (get_or l i x)) n (omega arith) (len (get_or l i x) ∙ sym lx) in
          rw (around x h, set_split l i x h, each_append enc (take i l) (x ∷ drop (suc i) l)) (rw la at q)

      pub region_at : (d : A) → i < length l → k * (i + 1) ≤ n → take k (drop (k * i) (padded n (each enc l))) ≡ enc (get_or l i d)
      region_at d h g =
          let la = front_long (omega arith) in
          let lx = len (get_or l i d) in
          let f : k * (i + 1) ≡ k * i + k = omega arith in
          let q = padded_part (each enc (take i l)) (each enc (drop (suc i) l)) (enc (get_or l i d)) (enc (get_or l i d)) n (omega arith) refl in
          rw (around d h) (rw (la, lx) at q)

  -- a record put behind the others
  pub region-push : (l : List A) (n : ℕ) (x : A) → k * (length l + 1) ≤ n → splice (padded n (each enc l)) (k * length l) (enc x) ≡ padded n (each enc (l ++ (x ∷ [])))
  unfolding each
  region-push l n x g =
      let ll = length_each l in
      let lx = len x in
      let f : k * (length l + 1) ≡ k * length l + k = omega arith in
      let z : padded n (each enc l) ≡ padded n (each enc l ++ (replicate k 0 ++ [])) = padded-zeros (each enc l) k n (omega arith) in
      rw (z, each_append enc l (x ∷ [])) (rw ll at (padded-splice (each enc l) [] (enc x) (replicate k 0) n (omega arith) (length-replicate k 0 ∙ sym lx)))

  -- the records from the m-th on cleared
  region-cut : (l : List A) (n m : ℕ) → m ≤ length l → k * length l ≤ n
      → splice (padded n (each enc l)) (k * m) (replicate (k * (length l - m)) 0) ≡ padded n (each enc (take m l))
  region-cut l n m h g =
      let a : List ℕ = each enc (take m l) in
      let b : List ℕ = each enc (drop m l) in
      let z : List ℕ = replicate (k * (length l - m)) 0 in
      let la : length a ≡ k * m = front_long l m h in
      let lb : length b ≡ k * (length l - m) = length_each (drop m l) ∙ rw (length-drop m l) in
      let lz : length z ≡ k * (length l - m) = length-replicate {A = ℕ} (k * (length l - m)) 0 in
      let c : k * length l ≡ k * m + k * (length l - m) = ap (λ (j : ℕ). k * j) (omega arith) ∙ mul-add k m (length l - m) in
      let u : each enc l ≡ a ++ (b ++ []) = sym (ap (each enc) (take-append-drop m l)) ∙ each_append enc (take m l) (drop m l) ∙ rw append-nil in
      let q = padded-splice a [] z b n (omega arith) (lb ∙ sym lz) in
      rw (u, padded-zeros a (k * (length l - m)) n (omega arith)) (rw la at q)

  -- ---- what the contracts say

  -- an element of a list that has some
  first_of : (l : List A) (i : ℕ) → i < length l → A
  first_of [] i h = absurd (omega arith)
  first_of (x ∷ l) i h = x

  room : (L : ℕ) (l : List A) {w : List ℕ} → Holds k enc L l w → length w ≡ k * L
  room L l h = ap length h ∙ length-padded (k * L) (each enc l)

  module _ (w : List ℕ) (i : ℕ) where
    pub inserted : {w' : List ℕ} (n : ℕ) (x : A) → i ≤ n → k * (n + 1) ≤ length w → w' ≡ opened (k * i) (k * n) (enc x) w → Inserted k enc w w' n i x
    inserted n x h g e = record {
      words_are = e;
      region = λ L xs l r.
          let m : i ≤ length xs = omega arith in
          let b : k * (length xs + 1) ≤ k * L = rw (l, ← (room L xs r)) g in
          e ∙ rw (← l, r) (region_in xs i (k * L) x m b);
    }

    pub removed : {w' : List ℕ} (n : ℕ) → i < n → k * n ≤ length w → w' ≡ shut k (k * i) (k * n) w → Removed k enc w w' n i
    removed n h g e = record {
      words_are = e;
      region = λ L xs l r.
          let m : i < length xs = omega arith in
          let b : k * length xs ≤ k * L = rw (l, ← (room L xs r)) g in
          e ∙ rw (← l, r) (region_out xs i (k * L) (first_of xs i m) m b);
    }

    -- as the code does it
    pub inserted_at : {w₁ w₂ : List ℕ} (n : ℕ) (x : A) → i ≤ n → k * (n + 1) ≤ length w
        → w₁ ≡ up k w (i * k) (n * k) → w₂ ≡ splice w₁ (k * i) (enc x) → Inserted k enc w w₂ n i x
    inserted_at n x h g p q =
        let c : k * (n + 1) ≡ k * n + k = omega arith in
        let m = mul-le-mul_left k h in
        inserted n x h g (opened_by w k (k * i) (k * n) (enc x) (len x) (omega arith) (rw (mul_comm i k, mul_comm n k) at p) q)

    pub removed_at : {w₁ : List ℕ} (n : ℕ) → i < n → k * n ≤ length w → w₁ ≡ shut k (i * k) (n * k) w → Removed k enc w w₁ n i
    removed_at n h g p = removed n h g (rw (mul_comm i k, mul_comm n k) at p)

    -- here i is the number of records that stay
    pub truncated : {w' : List ℕ} (n : ℕ) → i ≤ n → k * n ≤ length w → w' ≡ splice w (i * k) (replicate ((n - i) * k) 0) → Truncated k enc w w' n i
    truncated n h g e =
        let e₁ = rw (mul_comm i k, mul_comm (n - i) k) at e in
        record {
          words_are = e₁;
          region = λ L xs l r.
              let b : k * length xs ≤ k * L = rw (l, ← (room L xs r)) g in
              e₁ ∙ rw (← l, r) (region-cut xs (k * L) i (omega arith) b);
        }

    -- here i is the record that is written over
    pub copied : {w' : List ℕ} (from : ℕ) → i ≤ from → k * (from + 1) ≤ length w → w' ≡ splice w (i * k) (take k (drop (from * k) w)) → Copied k enc w w' i from
    copied from h g e =
        let e₁ = rw (mul_comm i k, mul_comm from k) at e in
        record {
          words_are = e₁;
          region = λ L xs d l r.
              let b : k * (from + 1) ≤ k * L = rw (← (room L xs r)) g in
              let c : k * (i + 1) ≤ k * (from + 1) = mul-le-mul_left k (omega arith) in
              e₁ ∙ rw (r, region_at xs from (k * L) d l b) (region_over xs i (k * L) (get_or xs from d) (omega arith) (omega arith));
        }

    module _ (g : k * (i + 1) ≤ length w) where
      -- the words of a record of a region
      pub holds_at : (L : ℕ) (xs : List A) (d : A) → i < length xs → Holds k enc L xs w → take k (drop (k * i) w) ≡ enc (get_or xs i d)
      holds_at L xs d h r = rw r (region_at xs i (k * L) d h (rw (← (room L xs r)) g))

      pub replaced : {w' : List ℕ} (x : A) → w' ≡ splice w (k * i) (enc x) → Replaced k enc w w' i x
      replaced x e = record {
        words_are = e;
        region = λ L xs h r.
            let b : k * (i + 1) ≤ k * L = rw (← (room L xs r)) g in
            e ∙ rw r (region_over xs i (k * L) x h b);
      }

      pub found : (dec : List ℕ → A) {x : A} → ((a : A) → dec (enc a) ≡ a) → x ≡ dec (take k (drop (k * i) w)) → Found k enc w dec i x
      found dec back e = record {
        words_are = e;
        region = λ L xs d h r.
            e ∙ rw (holds_at L xs d h r) (back (get_or xs i d));
      }

      pub changed : {w' : List ℕ} (j : ℕ) (y : List ℕ) (f : A → A) → j + length y ≤ k → ((a : A) → splice (enc a) j y ≡ enc (f a))
          → w' ≡ splice w (k * i + j) y → Changed k enc w w' i j y f
      changed j y f l p e = record {
        words_are = e;
        region = λ L xs d h r.
            let b : k * (i + 1) ≤ k * L = rw (← (room L xs r)) g in
            let c : k * (i + 1) ≡ k * i + k = omega arith in
            let q : splice w (k * i + j) y ≡ splice w (k * i) (splice (take k (drop (k * i) w)) j y) = splice_in w (k * i) k j y (omega arith) l in
            e ∙ q ∙ rw (holds_at L xs d h r, p (get_or xs i d), r) (region_over xs i (k * L) (f (get_or xs i d)) h b);
      }

      pub changed_at : {w' : List ℕ} (j : ℕ) (y : List ℕ) (f : A → A) → j + length y ≤ k → ((a : A) → splice (enc a) j y ≡ enc (f a))
          → w' ≡ splice w (i * k + j) y → Changed k enc w w' i j y f
      changed_at j y f l p e = changed j y f l p (rw (mul_comm i k) at e)

      -- the same, where one word is stored
      pub changed_one : {w' : List ℕ} (j v : ℕ) (f : A → A) → j < k → ((a : A) → splice (enc a) j (v ∷ []) ≡ enc (f a))
          → w' ≡ set w (i * k + j) v → Changed k enc w w' i j (v ∷ []) f
      changed_one j v f l p e =
          let c : k * (i + 1) ≡ k * i + k = omega arith in
          let q : i * k ≡ k * i = mul_comm i k in
          changed_at j (v ∷ []) f (omega arith) p (e ∙ set_one w (i * k + j) v (omega arith))

  -- ---- what is read from the words of each record, and from the records

  column_each : {B : Type 0} (f : List ℕ → B) (g : A → B) → ((a : A) → f (enc a) ≡ g a) → (l : List A) (z : List ℕ) → recs k f (length l) (each enc l ++ z) ≡ map g l
  unfolding recs each
  column_each f g e [] z = refl
  column_each f g e (a ∷ l) z =
      rw (append_assoc, take_at (enc a) (each enc l ++ z) k (len a), drop_at (enc a) (each enc l ++ z) k (len a), e a, column_each f g e l z)

  pub column : {B : Type 0} (f : List ℕ → B) (g : A → B) → ((a : A) → f (enc a) ≡ g a) → (L : ℕ) (xs : List A) {w : List ℕ} → length xs ≤ L
      → Holds k enc L xs w → recs k f (length xs) w ≡ map g xs
  column f g e L xs h r =
      let b : length (each enc xs) ≤ k * L = rw (length_each xs) (mul-le-mul_left k h) in
      rw (r, padded-fit (k * L) (each enc xs) b) (column_each f g e xs (replicate (k * L - length (each enc xs)) 0))

  -- a region whose records are followed by zeros holds what is read from it
  each_recs : (dec : List ℕ → A) → ((x : List ℕ) → length x ≡ k → enc (dec x) ≡ x) → (n : ℕ) (w : List ℕ) → k * n ≤ length w → each enc (recs k dec n w) ≡ take (k * n) w
  unfolding recs each
  each_recs dec back zero w h = rw mul-zero
  each_recs dec back (suc n) w h =
      let c : k * suc n ≡ k + k * n = mul-suc k n ∙ add_comm (k * n) k in
      let l : length (take k w) ≡ k = length-take-le k w (omega arith) in
      let d : k * n ≤ length (drop k w) = simp length-drop (omega arith) in
      rw (back (take k w) l, each_recs dec back n (drop k w) d, c) (sym (take-add k (k * n) w))

  pub holds_recs : (dec : List ℕ → A) → ((x : List ℕ) → length x ≡ k → enc (dec x) ≡ x) → (n L : ℕ) (w : List ℕ) → length w ≡ k * L → n ≤ L
      → slice (k * n) (k * L) w ≡ replicate (k * L - k * n) 0 → Holds k enc L (recs k dec n w) w
  holds_recs dec back n L w l h z =
      let b : k * n ≤ k * L = mul-le-mul_left k h in
      let t : length (take (k * n) w) ≡ k * n = length-take-le (k * n) w (omega arith) in
      let e : take (k * L) w ≡ w = take_all (k * L) w (omega arith) in
      rw (each_recs dec back n w (omega arith), padded-fit (k * L) (take (k * n) w) (omega arith), t, ← z, e) (sym (take-append-drop (k * n) w))
