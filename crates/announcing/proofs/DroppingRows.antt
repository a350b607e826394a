-- Rows that pass a test taken out, in one pass from the front.
use Prim.Native.Nat.{ℕ, ◌+◌, ◌-◌, ◌≤◌, ◌<◌}
use mathlib.Core.Path.{◌≡◌, refl, sym, ap, subst, ◌∙◌}
use mathlib.Core.Logic.{inl, inr}
use mathlib.Core.Bool.{Bool, true, false}
use mathlib.Core.List.{List, [], ◌∷◌, ◌++◌, append_assoc, append-nil}
use native.Mathlib.Nat.{add-zero}
use native.Mathlib.Numerals.{add-one}
use native.Mathlib.Omega.{arith}
use lib.ListN.{length, take, drop, get_or, set, length-set, length-append, length-drop, drop_of_length-le}
use lib.Seq.{length-take-le, take_all, take-suc, drop-drop, drop-cons, get_or-drop, take-suc-set, drop-set-lt, set-get_or}
use Rattle.regions.specs.declared.Row.{Row}
use Rattle.regions.specs.Regions.{each, remove_range}
use Rattle.regions.proofs.Regions.{each_append}
use Rattle.machine.specs.State.{State}
use Rattle.machine.specs.Sound.{Sound}
use Rattle.machine.proofs.Tests.{test}
use Rattle.store.specs.Counting.{unbump}
use Rattle.store.specs.Flat.{Flat, own_bit, rows_of}
use Rattle.store.specs.Image.{Shows, Writes}
use Rattle.store.specs.Shown.{rows_in, with_rows, Turns, Tallies, Shown, Kept}
use Rattle.store.proofs.Frame.{sizes}
use Rattle.requests.specs.Changes.{Shorn}
use Rattle.requests.proofs.Shearing.{shorn_shown, shorn_less}
use Rattle.announcing.specs.Drops.{kept_row, put_at, RowKept}

-- ---- one row

module _ (p : Row → Bool) (r : Row) where
  pub row_goes : p r ≡ true → kept_row p r ≡ []
  unfolding kept_row
  row_goes e = rw e

  pub row_stays : p r ≡ false → kept_row p r ≡ r ∷ []
  unfolding kept_row
  row_stays e = rw e

  row-short : length (kept_row p r) ≤ 1
  row-short = elim (test (p r)) [ inl e ↦ rw (row_goes e) (omega arith) | inr e ↦ rw (row_stays e) (omega arith) ]

-- a row put where it is
pub kept_there : {b : List ℕ} {m i : ℕ} {r : Row} → m ≡ i → ((f : Flat) (d : Row) → Shows b f → r ≡ get_or f.rows i d) → Turns b b (λ f. with_rows (set f.rows m r) f)
kept_there {b} {m} {i} {r} e row f h = subst (λ (rs : List Row). Shows b (with_rows rs f)) (sym (ap (λ (j : ℕ). set f.rows j r) e ∙ ap (set f.rows i) (row f r h) ∙ set-get_or f.rows i r)) h

module _ {b : List ℕ} (p : Row → Bool) (m i : ℕ) {r₀ : Row} (row : (f : Flat) (d : Row) → Shows b f → r₀ ≡ get_or f.rows i d) {passes : Bool} (found : passes ≡ p r₀) where
  module _ (st : State) (xs ls : List Row) (r : Row) (h : Shorn b st xs ls) (e : get_or xs i r ≡ r) where
    is_row : r₀ ≡ r
    is_row = row _ r h ∙ e

    stays : passes ≡ false → kept_row p r ≡ r ∷ []
    stays z = row_stays p r (ap p (sym is_row) ∙ sym found ∙ z)

    goes : passes ≡ true → kept_row p r ≡ []
    goes z = row_goes p r (ap p (sym is_row) ∙ sym found ∙ z)

  pub drop_stays : passes ≡ false → {b' : List ℕ} → Turns b b' (λ f. with_rows (set f.rows m r₀) f) → RowKept b b' p m i (m + 1)
  drop_stays z {b'} turn = record {
    least = omega arith;
    most = omega arith;
    count = λ st xs ls r h e. ap (λ (l : List Row). m + length l) (sym (stays st xs ls r h e z));
    rows = λ st xs x r y h e.
        let q = is_row st xs _ r h e in
        subst (λ (l : List Row). Shorn b' st (put_at m l xs) (x ++ (l ++ y))) (sym (stays st xs _ r h e z)) (subst (λ (a : Row). Shorn b' st (set xs m a) (x ++ (r ∷ y))) q (turn _ h));
  }

  pub drop_goes : passes ≡ true → {n : ℕ} → n ≡ own_bit r₀ → {b' : List ℕ} → Tallies b b' (unbump r₀.conn n) → RowKept b b' p m i m
  drop_goes z o {b'} t = record {
    least = omega arith;
    most = omega arith;
    count = λ st xs ls r h e. sym (add-zero m) ∙ ap (λ (l : List Row). m + length l) (sym (goes st xs ls r h e z));
    rows = λ st xs x r y h e.
        let q = is_row st xs _ r h e in
        subst (λ (l : List Row). Shorn b' st (put_at m l xs) (x ++ (l ++ y))) (sym (goes st xs _ r h e z)) (shorn_less st x r y (ap (λ (a : Row). a.conn) q) (o ∙ ap own_bit q) h t);
  }

-- ---- what stays of a row, put at m

pub put-long : (m : ℕ) (l xs : List Row) → length (put_at m l xs) ≡ length xs
put-long m [] xs = refl
put-long m (x ∷ l) xs = length-set xs m x

pub put_front : (m : ℕ) (l xs : List Row) → length l ≤ 1 → m < length xs → take (m + length l) (put_at m l xs) ≡ take m xs ++ l
put_front m [] xs h g = rw (add-zero m, append-nil (take m xs))
put_front m (x ∷ []) xs h g = rw (add-one m) (take-suc-set xs m x g)
put_front m (x ∷ y ∷ l) xs h g = absurd (omega arith)

pub put_rest : (m i : ℕ) (l xs : List Row) → m ≤ i → drop (i + 1) (put_at m l xs) ≡ drop (i + 1) xs
put_rest m i [] xs h = refl
put_rest m i (x ∷ l) xs h = drop-set-lt (i + 1) xs m x (omega arith)

-- ---- the loop: of the first i rows, what stays stands at the front, m of them

pub record Going (b : List ℕ) (st : State) (p : Row → Bool) (i m : ℕ) : Type 0 where
  pub rows : List Row
  pub long : length rows ≡ length (rows_of st.table)
  pub front : take m rows ≡ each (kept_row p) (take i (rows_of st.table))
  pub rest : drop i rows ≡ drop i (rows_of st.table)
  pub shorn : Shorn b st rows (each (kept_row p) (take i (rows_of st.table)) ++ drop i (rows_of st.table))

pub record Dropping (b₀ b : List ℕ) (p : Row → Bool) (i m : ℕ) : Type 0 where
  pub most : i ≤ rows_in b₀
  pub less : m ≤ i
  pub size : length b ≡ length b₀
  pub going : (st : State) → Sound st → Writes b₀ st → Going b st p i m

pub dropping_none : (b : List ℕ) (p : Row → Bool) → Dropping b b p 0 0
unfolding each
dropping_none b p = record { most = omega arith; less = omega arith; size = refl; going = λ st s w. record { rows = rows_of st.table; long = refl; front = refl; rest = refl; shorn = w } }

module _ {b₀ b : List ℕ} {p : Row → Bool} {i m : ℕ} (c : Dropping b₀ b p i m) where
  pub dropping_rows : Kept b₀ → rows_in b ≡ rows_in b₀
  dropping_rows k = let g = c.going k.state k.sound k.writes in let z = sizes k.writes in let y = sizes g.shorn in omega (arith, g.long)

  pub dropping_shown : Kept b₀ → Shown b
  dropping_shown k =
      let st = k.state in
      let g = c.going st k.sound k.writes in
      let z = sizes k.writes in
      let rs = rows_of st.table in
      let f = each (kept_row p) (take i rs) in
      let a : length f ≡ m = sym (ap length g.front) ∙ length-take-le m g.rows (omega (arith, g.long, c.less, c.most)) in
      let d : length (f ++ drop i rs) ≡ length f + (length rs - i) = length-append f (drop i rs) ∙ ap (λ (j : ℕ). length f + j) (length-drop i rs) in
      shorn_shown st k.sound g.rows (f ++ drop i rs) (omega (arith, g.long)) (omega (arith, c.less, c.most)) g.shorn

  pub dropping_more : {b' : List ℕ} {m' : ℕ} → i < rows_in b₀ → length b' ≡ length b → RowKept b b' p m i m' → Dropping b₀ b' p (i + 1) m'
  dropping_more {b'} {m'} l e t = record {
    most = omega arith;
    less = omega (arith, c.less, t.most);
    size = e ∙ c.size;
    going = λ st s w. next st s w;
  }
    where
      none : Row
      none = record { hash = record { w0 = 0; w1 = 0; w2 = 0; w3 = 0 }; conn = 0; ready = 0; prio = 0; deadline = 0; bits = 0 }

      next : (st : State) → Sound st → Writes b₀ st → Going b' st p (i + 1) m'
      next st s w =
          let rs = rows_of st.table in
          let g = c.going st s w in
          let xs = g.rows in
          let z = sizes w in
          let n : i < length rs = omega arith in
          let r = get_or rs i none in
          let T = kept_row p r in
          let F = each (kept_row p) (take i rs) in
          let D = drop (i + 1) rs in
          let split : drop i rs ≡ r ∷ D = rw (add-one i) (drop-cons rs i none n) in
          let here : get_or xs i r ≡ r = ap (λ (j : ℕ). get_or xs j r) (sym (add-zero i)) ∙ sym (get_or-drop i xs 0 r) ∙ ap (λ (x : List Row). get_or x 0 r) (g.rest ∙ split) in
          let now-are : Shorn b st xs (F ++ (r ∷ D)) = subst (λ (x : List Row). Shorn b st xs (F ++ x)) split g.shorn in
          let count = t.count st xs (F ++ (r ∷ D)) r now-are here in
          let keep = kept_row p in
          let longer : each keep (take (i + 1) rs) ≡ F ++ T =
          ap (each keep) (rw (add-one i) (take-suc rs i none n)) ∙ each_append keep (take i rs) (r ∷ []) ∙ ap (λ (x : List Row). F ++ x) (single keep r) in
          record {
            rows = put_at m T xs;
            long = put-long m T xs ∙ g.long;
            front =
                ap (λ (j : ℕ). take j (put_at m T xs)) count
                ∙ put_front m T xs (row-short p r) (omega (arith, g.long, c.less))
                ∙ ap (λ (x : List Row). x ++ T) g.front
                ∙ sym longer;
            rest = put_rest m i T xs c.less ∙ sym (drop-drop 1 i xs) ∙ ap (drop 1) g.rest ∙ drop-drop 1 i rs;
            shorn = subst (λ (x : List Row). Shorn b' st (put_at m T xs) x) (sym (ap (λ (x : List Row). x ++ D) longer ∙ append_assoc F T D)) (t.rows st xs F r D now-are here);
          }
        where
          single : (g : Row → List Row) (x : Row) → each g (x ∷ []) ≡ g x
          single g x = unfold each in append-nil (g x)

  -- the rows that stay, and their tally
  pub dropping_end : {n : ℕ} → n ≡ rows_in b₀ → n ≤ i → {b' : List ℕ} → Turns b b' (λ f. with_rows (remove_range m n f.rows) f) → (st : State) → Sound st → Writes b₀ st
      → Shorn b' st (each (kept_row p) (rows_of st.table)) (each (kept_row p) (rows_of st.table))
  dropping_end {n} e l {b'} turn st s w =
      let rs = rows_of st.table in
      let g = c.going st s w in
      let z = sizes w in
      let all : take i rs ≡ rs = take_all i rs (omega arith) in
      let none : drop i rs ≡ [] = drop_of_length-le rs {i = i} (omega arith) in
      let R = each (kept_row p) rs in
      let front : take m g.rows ≡ R = g.front ∙ ap (each (kept_row p)) all in
      let cut : remove_range m n g.rows ≡ R = range_front m n g.rows (omega (arith, g.long)) ∙ front in
      let F = each (kept_row p) (take i rs) in
      let live : F ++ drop i rs ≡ R = ap (λ (x : List Row). F ++ x) none ∙ append-nil F ∙ ap (each (kept_row p)) all in
      subst (λ (x : List Row). Shorn b' st x R) cut (subst (λ (x : List Row). Shorn b' st (remove_range m n g.rows) x) live (turn _ g.shorn))
    where
      range_front : (a b : ℕ) (xs : List Row) → length xs ≤ b → remove_range a b xs ≡ take a xs
      range_front a b xs h = unfold remove_range in (ap (λ (x : List Row). take a xs ++ x) (drop_of_length-le xs h) ∙ append-nil (take a xs))
