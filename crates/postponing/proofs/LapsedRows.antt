-- The rows of a table say whether an owner has the deadline 0.
use Prim.Native.Nat.{ℕ, zero, suc, ◌+◌, ◌≤◌}
use mathlib.Core.Path.{◌≡◌, refl, sym, ap, ◌∙◌}
use mathlib.Core.Logic.{inl, inr}
use mathlib.Core.Bool.{Bool, true, false, not, ◌&&◌}
use mathlib.Core.List.{List, [], ◌∷◌, ◌++◌, map}
use mathlib.Core.Option.{Option, none, some}
use native.Mathlib.Numerals.{add-one}
use native.Mathlib.Omega.{arith}
use lib.Dec.{leb, eqb}
use lib.ListN.{length, drop, get_or, drop_of_length-le}
use lib.Seq.{drop-cons}
use borrow.Author.Tests.{eqb-true, eq-eqb, not-true}
use Rattle.std.specs.List.{list_all, range_with_len}
use Rattle.regions.specs.declared.Row.{Row}
use Rattle.regions.specs.Regions.{each}
use Rattle.machine.specs.State.{Candidate, Owner, Request, State, Table, owner_is}
use Rattle.machine.specs.Table.{has}
use Rattle.machine.specs.Sound.{All, OwnerFits, Lawful, Sound}
use Rattle.machine.specs.Typed.{Each}
use Rattle.machine.proofs.Tests.{test, never, and_left, and_right}
use Rattle.store.specs.Flat.{deadline_for, row_of, rows_for, rows_of}
use Rattle.store.proofs.Bits.{owns-row}
use Rattle.postponing.specs.Silent.{late, is_due}
use Rattle.postponing.specs.Lapses.{none_due, Timely}

-- the row says no owner with the deadline 0
abbrev Undue : Row → Type 0
Undue r = is_due 0 r ≡ false

-- the same of the i-th row
abbrev pub undue_at : List Row → Row → ℕ → Bool
undue_at rs d i = not (is_due 0 (get_or rs i d))

none_from : (rs : List Row) (d : Row) (n i : ℕ) → i + n ≡ length rs → list_all (undue_at rs d) (range_with_len i n) ≡ none_due (drop i rs)
unfolding none_due
none_from rs d zero i h = let e : length rs ≤ i = omega arith in rw (drop_of_length-le rs e) refl
none_from rs d (suc n) i h =
    ap (λ (b : Bool). undue_at rs d i && b) (none_from rs d n (i + 1) (omega arith))
    ∙ sym (ap none_due (drop-cons rs i d (omega arith)) ∙ ap (λ (j : ℕ). undue_at rs d i && none_due (drop j rs)) (sym (add-one i)))

pub none_by : (rs : List Row) (d : Row) (n : ℕ) → n ≡ length rs → list_all (undue_at rs d) (range_with_len 0 n) ≡ none_due rs
none_by rs d n h = none_from rs d n 0 (omega arith)

none_each : (rs : List Row) → none_due rs ≡ true → Each Undue rs
unfolding none_due
none_each [] e = tt
none_each (r ∷ rs) e = (not-true (is_due 0 r) (and_left (not (is_due 0 r)) (none_due rs) e), none_each rs (and_right (not (is_due 0 r)) (none_due rs) e))

each_front : (xs ys : List Row) → Each Undue (xs ++ ys) → Each Undue xs
each_front [] ys a = tt
each_front (x ∷ xs) ys a = (a.0, each_front xs ys a.1)

each_back : (xs ys : List Row) → Each Undue (xs ++ ys) → Each Undue ys
each_back [] ys a = a
each_back (x ∷ xs) ys a = each_back xs ys a.1

-- the owner's row would be one
owner_due : (q : Request) (o : Owner) → q.owner ≡ some o → leb o.deadline 0 ≡ true → (cs : List Candidate) → has o.connection cs ≡ true
    → Each Undue (map (row_of q) cs) → ⊥
unfolding has
owner_due q o e l [] h a = never h
owner_due q o e l (c ∷ cs) h a =
    elim (test (eqb c.connection o.connection)) [
      | inl z ↦ never (sym a.0 ∙ due z)
      | inr z ↦ owner_due q o e l cs (rw z at h) a.1
    ]
  where
    due : eqb c.connection o.connection ≡ true → is_due 0 (row_of q c) ≡ true
    due z =
        let y : eqb o.connection c.connection ≡ true = eq-eqb _ _ (sym (eqb-true c.connection o.connection z)) in
        let d : (row_of q c).deadline ≡ deadline_for c.connection q.owner = unfold row_of in refl in
        ap (λ (x : Bool). x && leb (row_of q c).deadline 0) (owns-row q c) ∙ ap (λ (x : ℕ). owner_is c.connection q.owner && leb x 0) d
        ∙ ap (λ (w : Option Owner). owner_is c.connection w && leb (deadline_for c.connection w) 0) e ∙ rw (y, l) refl

timely_one : (q : Request) → Lawful q → Each Undue (rows_for q) → late 0 q.owner ≡ false
unfolding rows_for
timely_one q l a = go q.owner refl l.owner
  where
    go : (w : Option Owner) → q.owner ≡ w → OwnerFits w q.candidates → late 0 w ≡ false
    go none e f = refl
    go (some o) e f = elim (test (leb o.deadline 0)) [ inl d ↦ absurd (owner_due q o e d q.candidates f.0 a) | inr d ↦ d ]

timely_rows : (t : Table) → All Lawful t → Each Undue (rows_of t) → Timely t
unfolding each
timely_rows [] l a = tt
timely_rows (q ∷ t) l a = (timely_one q l.0 (each_front (rows_for q) (rows_of t) a), timely_rows t l.1 (each_back (rows_for q) (rows_of t) a))

pub none_timely : (st : State) → Sound st → none_due (rows_of st.table) ≡ true → Timely st.table
none_timely st s e = timely_rows st.table s.bounded.lawful (none_each (rows_of st.table) e)
