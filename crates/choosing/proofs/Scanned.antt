-- A scan of rows for the candidate to choose: what each test shows, and what one row more does.
use Prim.Native.Nat.{ℕ, zero, suc, ◌+◌, ◌-◌, ◌/◌, ◌%◌, ◌≤◌, ◌<◌}
use mathlib.Core.Path.{◌≡◌, refl, sym, ap, ◌∙◌}
use mathlib.Core.Logic.{inl, inr}
use mathlib.Core.Bool.{Bool, true, false, not, ◌&&◌, ◌||◌}
use mathlib.Core.List.{List, [], ◌∷◌}
use mathlib.Core.Option.{Option, none, some}
use native.Mathlib.Omega.{arith}
use lib.Dec.{ltb, eqb}
use lib.ListN.{length, get_or}
use lib.Seq.{drop-cons}
use borrow.Author.Tests.{lt-ltb, le-ltb, lt-leb, le-leb, eq-eqb, ne_eqb, eqb-true, eqb-false, ltb-true, ltb-false}
use Rattle.std.specs.List.{list_any, range_with_len}
use Rattle.std.specs.Prelude.{if◌then◌else◌}
use Rattle.regions.specs.declared.Row.{Row}
use Rattle.machine.specs.Limits.{max_in_flight}
use Rattle.machine.specs.State.{Candidate, Table, Entry}
use Rattle.machine.specs.Table.{owned_by}
use Rattle.machine.specs.Plan.{able, chosen_by, sooner, better, or_else}
use Rattle.machine.proofs.Tests.{test}
use Rattle.store.specs.FlatSound.{owns}
use Rattle.store.specs.Gather.{candidate_at}
use Rattle.announcing.specs.Evicts.{entry_at, part}
use Rattle.choosing.specs.Choosing.{with_row, least_rows, any_owns}

-- ---- which of two rows comes sooner

-- by two bits, and by z where they are equal
abbrev by_bits : ℕ → ℕ → Bool → Bool
by_bits x y z = if eqb x 1 && not (eqb y 1) then true else if eqb y 1 && not (eqb x 1) then false else z

bits-differ : (x y : ℕ) (z : Bool) → x < 2 → y < 2 → (x ≡ y → ⊥) → ltb y x ≡ by_bits x y z
bits-differ x y z p q n = elim (test (eqb x 1)) [
  | inl e ↦ let d = eqb-true x 1 e in
      let c : eqb y 1 ≡ false = ne_eqb y 1 (λ f. n (d ∙ sym f)) in
      rw (e, c) (lt-ltb y x (omega (arith, d, eqb-false y 1 c)))
  | inr e ↦ let d = eqb-false x 1 e in
      let c : eqb y 1 ≡ true = eq-eqb y 1 (omega (arith, d, n)) in
      rw (e, c) (le-ltb y x (omega (arith, d, n)))
]

bits_same : (x : ℕ) (z : Bool) → z ≡ by_bits x x z
bits_same x z = elim (test (eqb x 1)) [ inl e ↦ rw e refl | inr e ↦ rw e refl ]

module _ (a b : Row) where
  pub sooner-bits : (a.bits / 4 % 2 ≡ b.bits / 4 % 2 → ⊥) → ltb (b.bits / 4 % 2) (a.bits / 4 % 2) ≡ sooner (candidate_at a) (candidate_at b)
  unfolding sooner candidate_at
  sooner-bits n = bits-differ (a.bits / 4 % 2) (b.bits / 4 % 2) (ltb a.prio b.prio) (omega arith) (omega arith) n

  pub unpreferred : ltb (1 - a.bits / 4 % 2) (1 - b.bits / 4 % 2) ≡ ltb (b.bits / 4 % 2) (a.bits / 4 % 2)
  unpreferred = elim (test (ltb (b.bits / 4 % 2) (a.bits / 4 % 2))) [
    | inl t ↦ rw t (lt-ltb (1 - a.bits / 4 % 2) (1 - b.bits / 4 % 2) (omega (arith, ltb-true (b.bits / 4 % 2) (a.bits / 4 % 2) t)))
    | inr t ↦ rw t (le-ltb (1 - a.bits / 4 % 2) (1 - b.bits / 4 % 2) (omega (arith, ltb-false (b.bits / 4 % 2) (a.bits / 4 % 2) t)))
  ]

  pub sooner-prio : a.bits / 4 % 2 ≡ b.bits / 4 % 2 → ltb a.prio b.prio ≡ sooner (candidate_at a) (candidate_at b)
  unfolding sooner candidate_at
  sooner-prio e = rw e (bits_same (b.bits / 4 % 2) (ltb a.prio b.prio))

-- ---- whether a row's candidate is able

module _ (now : ℕ) (t : Table) (r : Row) where
  pub able-late : now < r.ready → false ≡ able now t [] (candidate_at r)
  unfolding able candidate_at
  able-late l = rw (lt-leb r.ready now l)

  pub able-owned : {o : ℕ} → (now < r.ready → ⊥) → o ≡ owned_by r.conn t → ltb o max_in_flight ≡ able now t [] (candidate_at r)
  unfolding able candidate_at chosen_by
  able-owned {o} n e =
      let z : o ≡ owned_by r.conn t + 0 = omega (arith, e) in
      rw (le-leb r.ready now (omega (arith, n))) (ap (λ (x : ℕ). ltb x max_in_flight) z)

-- ---- the better of a row and of what has been found

pub better_first : (r : Row) → some (entry_at r) ≡ better (entry_at r) none
unfolding better
better_first r = refl

module _ (r row : Row) {x : Bool} (f : x ≡ sooner (candidate_at row) (candidate_at r)) where
  pub better_found : x ≡ true → some (entry_at row) ≡ better (entry_at r) (some (entry_at row))
  unfolding better
  better_found d = rw (sym f ∙ d) refl

  pub better-row : x ≡ false → some (entry_at r) ≡ better (entry_at r) (some (entry_at row))
  unfolding better
  better-row d = rw (sym f ∙ d) refl

pub else_first : (r : Row) (o : Option Entry) {v : Option Entry} → v ≡ better (entry_at r) o → v ≡ or_else (some (entry_at r)) o
unfolding or_else
else_first r o e = e

pub else-second : (o : Option Entry) → o ≡ or_else none o
unfolding or_else
else-second o = refl

-- ---- a part of a list of rows

module _ (rs : List Row) where
  pub least_none : (p : Candidate → Bool) (i to : ℕ) → to ≤ i → none ≡ least_rows p (part i to rs)
  unfolding least_rows
  least_none p i to h = let z : to - i ≡ 0 = omega arith in rw z refl

  pub part_more : (i to : ℕ) (d : Row) → i < to → to ≤ length rs → part i to rs ≡ get_or rs i d ∷ part (i + 1) to rs
  part_more i to d l h =
      let m : i < length rs = omega arith in
      let z : to - i ≡ suc (to - (i + 1)) = omega arith in
      let s : suc i ≡ i + 1 = omega arith in
      rw (drop-cons rs i d m, z, s) refl

  -- a turn of the scan from the last row to the first
  pub least_step : (p : Candidate → Bool) {v o : Option Entry} {r : Row} (d : Row) {j : ℕ} (i to : ℕ) → j ≡ i + 1 → i < to → to ≤ length rs → v ≡ with_row p r o → r ≡ get_or rs i d → o ≡ least_rows p
      (part j to rs) → v ≡ least_rows p (part i to rs)
  unfolding least_rows
  least_step p d i to e l h q f w = rw (part_more i to d l h, ← f, ← e, ← w) q

  -- the i-th owns its request
  abbrev pub owns_at : Row → ℕ → Bool
  owns_at d i = owns (get_or rs i d)

  pub owns_by : (d : Row) (n i to : ℕ) → to - i ≡ n → to ≤ length rs → list_any (owns_at d) (range_with_len i n) ≡ any_owns (part i to rs)
  unfolding any_owns
  owns_by d zero i to e h = rw e refl
  owns_by d (suc n) i to e h =
      ap (λ (b : Bool). owns_at d i || b) (owns_by d n (i + 1) to (omega arith) h) ∙ sym (ap any_owns (part_more i to d (omega arith) h))
