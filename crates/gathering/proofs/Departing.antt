-- The first of the victims listed go: in one pass, or one after the other.
use Prim.Native.Nat.{ℕ, suc, ◌+◌, ◌-◌, ◌/◌, ◌%◌, ◌≤◌, ◌<◌}
use mathlib.Core.Path.{◌≡◌, sym, ap, subst, ◌∙◌}
use mathlib.Core.Bool.{Bool, true, false, not, ◌&&◌}
use mathlib.Core.List.{List, [], ◌∷◌, ◌++◌, append_assoc}
use native.Mathlib.Omega.{arith}
use lib.Dec.{eqb}
use lib.ListN.{length, take, drop, get_or, take-append-drop}
use lib.Seq.{take-suc, drop-cons}
use borrow.Author.Tests.{not-true, eqb-false}
use Rattle.ident.specs.Number.{Key}
use Rattle.regions.specs.declared.Row.{Row}
use Rattle.regions.specs.Regions.{each}
use Rattle.machine.specs.State.{State, on_table, owner_is}
use Rattle.machine.specs.Table.{at, has}
use Rattle.machine.specs.Announce.{after, cut}
use Rattle.machine.specs.Sound.{Sound}
use Rattle.machine.proofs.Tests.{and_left, or_right}
use Rattle.store.specs.Flat.{own_bit, rows_of, tally}
use Rattle.store.specs.Gather.{key_at}
use Rattle.store.specs.Image.{Writes}
use Rattle.requests.specs.Changes.{Makes, Shorn}
use Rattle.requests.proofs.Keeping.{writes_by}
use Rattle.announcing.specs.Drops.{kept_row}
use Rattle.announcing.specs.Evicts.{entry_at, protected}
use Rattle.announcing.specs.Falls.{no_row, cuts, goes_by, Foremost, VictimRows, ListedRow}
use Rattle.announcing.proofs.Entering.{cut-writes}
use Rattle.announcing.proofs.Giving.{first_goes}
use Rattle.announcing.proofs.GoneBy.{rows-cuts}
use Rattle.announcing.proofs.GoneTogether.{cuts-places}
use Rattle.gathering.specs.Deferring.{Gone}

-- ---- the row at i

module _ {v : List ℕ} {m : ℕ} {rs : List Row} (x : VictimRows v m rs) {i : ℕ} {y : Row} (l : i < m) (its-row : y ≡ get_or x.rows i no_row) where
  inside : i < length x.rows
  inside = omega (arith, x.count)

  pub up_to : take (i + 1) x.rows ≡ take i x.rows ++ (y ∷ [])
  up_to =
      let s : i + 1 ≡ suc i = omega arith in
      ap (λ (j : ℕ). take j x.rows) s ∙ take-suc x.rows i no_row inside ∙ ap (λ (z : Row). take i x.rows ++ (z ∷ [])) (sym its-row)

  pub from_there : drop i x.rows ≡ y ∷ drop (suc i) x.rows
  from_there = drop-cons x.rows i no_row inside ∙ ap (λ (z : Row). z ∷ drop (suc i) x.rows) (sym its-row)

  pub all_of : take i x.rows ++ (y ∷ drop (suc i) x.rows) ≡ x.rows
  all_of = ap (λ (z : List Row). take i x.rows ++ z) (sym from_there) ∙ take-append-drop i x.rows

-- ---- in one pass

pub goes_by_lem : (v r : Row) {x y : Bool} → x ≡ protected r.bits → y ≡ after (entry_at v) (entry_at r) → (not x && not y) ≡ goes_by v r
goes_by_lem v r {x} {y} e f = ap (λ (b : Bool). not b && not y) e ∙ ap (λ (b : Bool). not (protected r.bits) && not b) f

-- a row that goes does not own its request
pub bare-row : (v r : Row) {g : Bool} → g ≡ goes_by v r → g ≡ true → 0 ≡ own_bit r
bare-row v r q e =
    let n : protected r.bits ≡ false = not-true (protected r.bits) (and_left (not (protected r.bits)) (not (after (entry_at v) (entry_at r))) (sym q ∙ e)) in
    let o : eqb (r.bits / 8 % 2) 1 ≡ false = or_right (eqb (r.bits / 4 % 2) 1) (eqb (r.bits / 8 % 2) 1) n in
    omega (arith, eqb-false (r.bits / 8 % 2) 1 o)

pub gone_at_once : {b b' v : List ℕ} {m d : ℕ} {y : Row} → 1 ≤ d → d ≤ m → ListedRow b v m (d - 1) y
    → ((st : State) → Sound st → Writes b st → Shorn b' st (each (kept_row (goes_by y)) (rows_of st.table)) (each (kept_row (goes_by y)) (rows_of st.table)))
    → Gone b b' v m d
gone_at_once {b} {b'} {v} {m} {d} {y} some few f h st s g x =
    let i = d - 1 in
    let t = st.table in
    let vs = take i x.rows in
    let ws = drop (suc i) x.rows in
    let n : d ≡ i + 1 = omega arith in
    let l : i < m = omega arith in
    let first : Foremost (vs ++ (y ∷ ws)) (rows_of t) = subst (λ (z : List Row). Foremost z (rows_of t)) (sym (all_of x l (f st s g x))) x.first in
    let together : Foremost ((vs ++ (y ∷ [])) ++ ws) (rows_of t) = subst (λ (z : List Row). Foremost z (rows_of t)) (sym (append_assoc vs (y ∷ []) ws)) first in
    let e : take d x.rows ≡ vs ++ (y ∷ []) = ap (λ (j : ℕ). take j x.rows) n ∙ up_to x l (f st s g x) in
    let rows = rows-cuts st s vs y ws first in
    subst (λ (z : List Row). Writes b' (on_table (cuts z t) st)) (sym e)
    (writes_by st (cuts (vs ++ (y ∷ [])) t) rows (ap tally rows) (cuts-places st s (vs ++ (y ∷ [])) ws together) (h st s g))

-- ---- the first by itself

pub gone_first : {b b' v : List ℕ} {m : ℕ} {y : Row} {j : Key} → 1 ≤ m → ListedRow b v m 0 y → j ≡ key_at y
    → Makes b b' (λ t. (has y.conn (at j t).candidates ≡ true) × (owner_is y.conn (at j t).owner ≡ false)) (cut j y.conn) → Gone b b' v m 1
unfolding cuts
gone_first {b} {b'} {v} {m} {y} {j} l f q h st s g x =
    let here = f st s g x in
    let first : Foremost (y ∷ drop 1 x.rows) (rows_of st.table) = subst (λ (z : List Row). Foremost z (rows_of st.table)) (from_there x (omega arith) here) x.first in
    subst (λ (vs : List Row). Writes b' (on_table (cuts vs st.table) st)) (sym (up_to x (omega arith) here)) (cut-writes st s y (first_goes st s y (drop 1 x.rows) first) q h g)

-- none
pub gone_none : {b v : List ℕ} {m d : ℕ} → d ≡ 0 → Gone b b v m d
unfolding cuts
gone_none e st s g x = rw e g
