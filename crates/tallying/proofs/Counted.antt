-- Entries counted into a table: in any order, one after the other, and those of rows.
use Prim.Native.Nat.{ℕ, zero, suc, ◌+◌, ◌%◌, ◌≤◌, ◌<◌}
use mathlib.Core.Path.{◌≡◌, refl, ap, ◌∙◌}
use mathlib.Core.Logic.{inl, inr}
use mathlib.Core.List.{List, [], ◌∷◌, ◌++◌, map}
use native.Mathlib.Omega.{arith}
use lib.ListN.{length, take, get_or, set}
use lib.Seq.{take-suc}
use Rattle.regions.specs.declared.Row.{Row}
use Rattle.regions.specs.declared.Conn.{Conn}
use Rattle.machine.specs.Typed.{Each}
use Rattle.store.specs.Flat.{own_bit, bump, tally}
use Rattle.store.proofs.RowsFit.{each_by}
use Rattle.machine.proofs.Tests.{order}
use Rattle.store.proofs.Tally.{bump-nil, bump-lt, bump-eq, bump_gt, bump-swap, Tallied, bump_tallied}
use Rattle.tallying.specs.Entries.{entry_of, with_row, counted}

-- ---- in any order

with_both : (c e : Conn) (t : List Conn) → with_row c (with_row e t) ≡ with_row e (with_row c t)
with_both c e t = bump-swap c.conn (c.owned % 2) e.conn (e.owned % 2) t

-- the first entry and the i-th behind it change places
first_and : (t : List Conn) (c : Conn) (l : List Conn) (i : ℕ) (d : Conn) → i < length l → counted (with_row (get_or l i d) t) (set l i c) ≡ counted (with_row c t) l
unfolding counted
first_and t c [] i d h = absurd (omega arith)
first_and t c (y ∷ l) zero d h = ap (λ (z : List Conn). counted z l) (with_both c y t)
first_and t c (y ∷ l) (suc i) d h =
    ap (λ (z : List Conn). counted z (set l i c)) (with_both y (get_or l i d) t) ∙ first_and (with_row y t) c l i d (omega arith) ∙ ap (λ (z : List Conn). counted z l) (with_both c y t)

pub counted_exchanged : (t cs : List Conn) (a b : ℕ) (d : Conn) → a < b → b < length cs → counted t (set (set cs a (get_or cs b d)) b (get_or cs a d)) ≡ counted t cs
unfolding counted
counted_exchanged t [] a b d h l = absurd (omega arith)
counted_exchanged t (c ∷ cs) zero zero d h l = absurd (omega arith)
counted_exchanged t (c ∷ cs) zero (suc b) d h l = first_and t c cs b d (omega arith)
counted_exchanged t (c ∷ cs) (suc a) zero d h l = absurd (omega arith)
counted_exchanged t (c ∷ cs) (suc a) (suc b) d h l = counted_exchanged (with_row c t) cs a b d (omega arith) (omega arith)

-- ---- one after the other

counted_snoc : (t l : List Conn) (c : Conn) → counted t (l ++ (c ∷ [])) ≡ with_row c (counted t l)
unfolding counted
counted_snoc t [] c = refl
counted_snoc t (e ∷ l) c = counted_snoc (with_row e t) l c

pub counted_next : (cs : List Conn) (j : ℕ) (d : Conn) → j < length cs → counted [] (take (suc j) cs) ≡ with_row (get_or cs j d) (counted [] (take j cs))
counted_next cs j d h = ap (counted []) (take-suc cs j d h) ∙ counted_snoc [] (take j cs) (get_or cs j d)

pub counted_tallied : (t l : List Conn) → Tallied 0 t → Tallied 0 (counted t l)
unfolding counted
counted_tallied t [] h = h
counted_tallied t (c ∷ l) h = counted_tallied (with_row c t) l (bump_tallied 0 c.conn (c.owned % 2) t (omega arith) h)

-- ---- no more rows than entries

pub record Few (n : ℕ) (c : Conn) : Type 0 where
  pub held : c.held ≤ n
  pub owned : c.owned ≤ n

few_more : (n : ℕ) (l : List Conn) → Each (Few n) l → Each (Few (suc n)) l
few_more n l h = each_by l (λ c f. record { held = omega (arith, f.held); owned = omega (arith, f.owned) }) h

bump_few : (n x o : ℕ) (l : List Conn) → o ≤ 1 → Each (Few n) l → Each (Few (suc n)) (bump x o l)
bump_few n x o [] h f = rw (bump-nil x o) (record { held = omega arith; owned = omega arith }, tt)
bump_few n x o (c ∷ l) h f =
    elim (order x c.conn) [
      | inl b ↦ rw (bump-lt x o c l b) (record { held = omega arith; owned = omega arith }, few_more n (c ∷ l) f)
      | inr (inl b) ↦ rw (bump-eq x o c l b) (record { held = omega (arith, f.0.held); owned = omega (arith, f.0.owned) }, few_more n l f.1)
      | inr (inr b) ↦ rw (bump_gt x o c l b) (record { held = omega (arith, f.0.held); owned = omega (arith, f.0.owned) }, bump_few n x o l h f.1)
    ]

pub counted_few : (n : ℕ) (t l : List Conn) → Each (Few n) t → Each (Few (n + length l)) (counted t l)
unfolding counted
counted_few n t [] h = let e : n + 0 ≡ n = omega arith in rw e h
counted_few n t (c ∷ l) h =
    let e : n + suc (length l) ≡ suc n + length l = omega arith in
    rw e (counted_few (suc n) (with_row c t) l (bump_few n c.conn (c.owned % 2) t (omega arith) h))

-- ---- the entries of rows

counted_past : (x o : ℕ) (t l : List Conn) → counted (bump x o t) l ≡ bump x o (counted t l)
unfolding counted
counted_past x o t [] = refl
counted_past x o t (c ∷ l) = ap (λ (z : List Conn). counted z l) (bump-swap c.conn (c.owned % 2) x o t) ∙ counted_past x o (with_row c t) l

pub counted-rows : (rs : List Row) → counted [] (map entry_of rs) ≡ tally rs
unfolding counted tally
counted-rows [] = refl
counted-rows (r ∷ rs) =
    let e : own_bit r % 2 ≡ own_bit r = omega arith in
    counted_past r.conn (own_bit r % 2) [] (map entry_of rs) ∙ rw (e, counted-rows rs)
