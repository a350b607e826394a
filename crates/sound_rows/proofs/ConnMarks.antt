-- Marks of connections: one whose slot has no mark is in no row that was marked.
use Prim.Native.Nat.{ℕ, ◌+◌, ◌%◌, ◌≤◌, ◌<◌}
use mathlib.Core.Path.{◌≡◌, refl, ◌∙◌}
use mathlib.Core.Logic.{◌⊎◌, inl, inr}
use mathlib.Core.List.{List, []}
use native.Mathlib.Omega.{arith}
use lib.Dec.{ltb, eqb}
use lib.ListN.{length, get_or, set}
use lib.Seq.{get_or-set_same, get_or-set_other}
use borrow.Author.Tests.{ltb-true, ltb-false, eqb-true, eqb-false}
use Rattle.regions.specs.declared.Row.{Row}
use Rattle.machine.specs.Table.{one}
use Rattle.machine.proofs.Tests.{test}
use Rattle.store.specs.FlatSound.{count_rows}
use Rattle.sound_rows.specs.Groups.{row_at, rows_in, rows_by, conn_slots, ConnsMarked, Distinct, Marking}
use Rattle.sound_rows.proofs.Groups.{in_none, one_more}

none_by : (x : ℕ) → rows_by x [] ≡ 0
none_by x = unfold count_rows in refl

pub marked-nil : (v : ℕ) (t : List ℕ) → ConnsMarked v t []
marked-nil v t x h = absurd (omega (arith, none_by x))

module _ (v : ℕ) (t : List ℕ) where
  unmarked : (rs : List Row) (x : ℕ) → ConnsMarked v t rs → (get_or t (x % conn_slots) 0 ≡ v → ⊥) → rows_by x rs ≡ 0
  unmarked rs x m z = elim (test (ltb 0 (rows_by x rs))) [
    | inl b ↦ absurd (z (m x (ltb-true 0 (rows_by x rs) b)))
    | inr b ↦ omega (arith, ltb-false 0 (rows_by x rs) b)
  ]

  module _ (y : ℕ) (h : y % conn_slots < length t) where
    kept : (x : ℕ) → (x % conn_slots ≡ y % conn_slots → ⊥) ⊎ (x % conn_slots ≡ y % conn_slots) → get_or t (x % conn_slots) 0 ≡ v → get_or (set t (y % conn_slots) v) (x % conn_slots) 0 ≡ v
    kept x (inl n) e = get_or-set_other t (y % conn_slots) (x % conn_slots) v 0 n ∙ e
    kept x (inr q) e = rw q (get_or-set_same t (y % conn_slots) v 0 h)

    either : (x : ℕ) → (x % conn_slots ≡ y % conn_slots → ⊥) ⊎ (x % conn_slots ≡ y % conn_slots)
    either x = elim (test (eqb (x % conn_slots) (y % conn_slots))) [
      | inl b ↦ inr (eqb-true (x % conn_slots) (y % conn_slots) b)
      | inr b ↦ inl (eqb-false (x % conn_slots) (y % conn_slots) b)
    ]

    marked_kept : (rs : List Row) → ConnsMarked v t rs → ConnsMarked v (set t (y % conn_slots) v) rs
    marked_kept rs m x b = kept x (either x) (m x b)

    -- one row more
    marked_more : (rs rs' : List Row) → ((x : ℕ) → rows_by x rs' ≡ rows_by x rs + one (eqb y x)) → ConnsMarked v t rs → ConnsMarked v (set t (y % conn_slots) v) rs'
    marked_more rs rs' e m x b = elim (test (eqb y x)) [
      | inl d ↦ rw (← (eqb-true y x d)) (get_or-set_same t (y % conn_slots) v 0 h)
      | inr d ↦ kept x (either x) (m x (omega (arith, rw d at (e x))))
    ]

-- ---- the walk

-- what a walk from the row `from` to the one at i has shown, with the slots t₀ before it and t after it
abbrev pub Marks : List ℕ → ℕ → ℕ → ℕ → List ℕ → List ℕ → Type 0
Marks w from i v t₀ t = (others : List Row) → ConnsMarked v t₀ others → Distinct others []
    → Distinct others (rows_in w from i) × ConnsMarked v t others × ConnsMarked v t (rows_in w from i)

pub marks_none : (w : List ℕ) (from v : ℕ) (t : List ℕ) → Marks w from from v t t
marks_none w from v t others m d = rw (in_none w from from (omega arith)) (d, m, marked-nil v t)

pub marks_turn : (w : List ℕ) (from i v : ℕ) (t₀ t : List ℕ) (r : Row) {y : ℕ} → from ≤ i → r ≡ row_at w i → y ≡ r.conn % conn_slots → y < length t → (get_or t y 0 ≡ v → ⊥)
    → Marks w from i v t₀ t → Marks w from (i + 1) v t₀ (set t y v)
marks_turn w from i v t₀ t r {y} l e q h z m others o d =
    let a = m others o d in
    let h' : r.conn % conn_slots < length t = rw q at h in
    let z' : get_or t (r.conn % conn_slots) 0 ≡ v → ⊥ = rw q at z in
    let more : (x : ℕ) → rows_by x (rows_in w from (i + 1)) ≡ rows_by x (rows_in w from i) + one (eqb r.conn x) = λ x. rw e (one_more (λ s. eqb s.conn x) w from i l) in
    rw q (
      λ x. elim (test (eqb r.conn x)) [
        | inl b ↦ let g : r.conn ≡ x = eqb-true r.conn x b in
            omega (arith, rw b at (more x), unmarked v t (rows_in w from i) x a.2 (rw g at z'), unmarked v t others x a.1 (rw g at z'))
        | inr b ↦ omega (arith, rw b at (more x), a.0 x)
      ],
      marked_kept v t r.conn h' others a.1,
      marked_more v t r.conn h' (rows_in w from i) (rows_in w from (i + 1)) more a.2,
    )

-- two walks, one behind the other, from no mark
pub distinct_both : (w : List ℕ) (i a j b v : ℕ) (t t' t'' : List ℕ) → Marking w i a v t t' → Marking w j b v t' t'' → Distinct (rows_in w i a) (rows_in w j b)
distinct_both w i a j b v t t' t'' m n =
    let p = m [] (marked-nil v t) (λ x. omega (arith, none_by x)) in
    (n (rows_in w i a) p.1 (λ x. omega (arith, p.0 x))).0
