-- The keys of the rows, whatever is marked in them.
use Prim.Native.Nat.{ℕ, zero, suc, ◌+◌, ◌-◌, ◌≤◌, ◌<◌}
use mathlib.Core.Path.{◌≡◌, refl, sym, ap, subst, ◌∙◌}
use mathlib.Core.Bool.{Bool, true, false, not}
use mathlib.Core.Option.{Option}
use mathlib.Core.List.{List, [], ◌∷◌, ◌++◌, map}
use native.Mathlib.Omega.{arith}
use lib.Dec.{eqb}
use lib.ListN.{length, get_or, take, drop}
use Rattle.std.specs.Prelude.{if◌then◌else◌}
use Rattle.ident.specs.Number.{Key, place}
use Rattle.regions.specs.declared.Row.{Row}
use Rattle.words.specs.Words.{words}
use Rattle.machine.specs.Sweep.{round}
use Rattle.machine.specs.State.{Entry, State, on_table}
use Rattle.machine.specs.Table.{keys}
use Rattle.machine.specs.Sound.{CursorFits, Sound}
use Rattle.store.specs.Flat.{Flat, rows_of}
use Rattle.store.specs.Gather.{key_at, gather}
use Rattle.store.specs.Image.{Shows}
use Rattle.store.specs.Shown.{rows_in}
use Rattle.store.proofs.Frame.{sizes}
use Rattle.announcing.specs.Evicts.{entry_at, part}
use Rattle.announcing.proofs.Ranking.{map-take}
use Rattle.cursors.specs.InWords.{ready_at, cursor_in}
use Rattle.cursors.proofs.InState.{ready_read}
use Rattle.sweeping.specs.Batches.{keys_over, last_row, AfterCursor}
use Rattle.sweeping.proofs.Rounds.{keys_step, keys-rows, key-ends, key_goes_on}
use Rattle.selecting.specs.declared.Scan.{Scan}
use Rattle.selecting.specs.Selecting.{mark_all, until, Marks}
use Rattle.selecting.specs.Phasing.{Scans, Phased}
use Rattle.selecting.proofs.Walked.{Opened, scans_as, scans_for, scans_both, phased}
use Rattle.selecting.proofs.SameRows.{marked-rows}

-- ---- the keys of rows that say the same entries

last_same : (r q : Row) (rs qs : List Row) → key_at r ≡ key_at q → map entry_at rs ≡ map entry_at qs → last_row r rs ≡ last_row q qs
unfolding last_row
last_same r q [] [] k e = refl
last_same r q [] (b ∷ qs) k e = let z : ◌≡◌ {A = ℕ} 0 1 = cc in absurd (omega arith)
last_same r q (a ∷ rs) [] k e = let z : ◌≡◌ {A = ℕ} 0 1 = cc in absurd (omega arith)
last_same r q (a ∷ rs) (b ∷ qs) k e =
    let h : entry_at a ≡ entry_at b = cc in
    let j : key_at a ≡ key_at b = ap (λ (x : Entry). x.key) h in
    λ i. not (eqb (place (k i)) (place (j i)))

keys_same : (rs qs : List Row) → map entry_at rs ≡ map entry_at qs → keys (gather rs) ≡ keys (gather qs)
keys_same [] [] e = refl
keys_same [] (q ∷ qs) e = let z : ◌≡◌ {A = ℕ} 0 1 = cc in absurd (omega arith)
keys_same (r ∷ rs) [] e = let z : ◌≡◌ {A = ℕ} 0 1 = cc in absurd (omega arith)
keys_same (r ∷ rs) (q ∷ qs) e =
    let h : entry_at r ≡ entry_at q = cc in
    let t : map entry_at rs ≡ map entry_at qs = cc in
    let k : key_at r ≡ key_at q = ap (λ (x : Entry). x.key) h in
    let l = last_same r q rs qs k t in
    let n = keys_same rs qs t in
    keys_step r rs ∙ (λ i. if l i then k i ∷ n i else n i) ∙ sym (keys_step q qs)

map-drop : (n : ℕ) (l : List Row) → map entry_at (drop n l) ≡ drop n (map entry_at l)
map-drop zero l = refl
map-drop (suc n) [] = refl
map-drop (suc n) (r ∷ l) = map-drop n l

over_same : (rs qs : List Row) (i to : ℕ) → map entry_at rs ≡ map entry_at qs → keys_over i to rs ≡ keys_over i to qs
over_same rs qs i to e = keys_same (part i to rs) (part i to qs) (cut rs ∙ ap (λ (l : List Entry). take (to - i) (drop i l)) e ∙ sym (cut qs))
  where
    cut : (l : List Row) → map entry_at (part i to l) ≡ take (to - i) (drop i (map entry_at l))
    cut l = map-take (to - i) (drop i l) ∙ ap (take (to - i)) (map-drop i l)

-- ---- the rows of a table with selections marked, read

module _ {b p : List ℕ} {now n : ℕ} {st : State} {l : List Entry} (s : Sound st) (m : Marks now st l b p n) (i to : ℕ) where
  abbrev rows : List Row
  rows = rows_of (mark_all (until now) l st.table)

  over_marked : (j : ℕ) → keys_over j to rows ≡ keys_over j to (rows_of st.table)
  over_marked j = over_same rows (rows_of st.table) j to (marked-rows (until now) l st.table s.bounded.ordered m.free)

  module _ (h : i < to) (most : to ≤ rows_in b) {r : Row} (e : (f : Flat) (d : Row) → Shows b f → r ≡ get_or f.rows i d) {y : Bool}
      (q : (f : Flat) → Shows b f → y ≡ last_row r (part (i + 1) to f.rows)) where
    fits : to ≤ length rows
    fits = omega (arith, most, (sizes m.writes).rows)

    pub row_ends : y ≡ true → keys_over i to (rows_of st.table) ≡ key_at r ∷ keys_over (i + 1) to (rows_of st.table)
    row_ends t = sym (over_marked i) ∙ key-ends rows i to r h fits (e _ r m.writes) (q _ m.writes) t ∙ ap (λ (ks : List Key). key_at r ∷ ks) (over_marked (i + 1))

    pub row_goes_on : y ≡ false → keys_over i to (rows_of st.table) ≡ keys_over (i + 1) to (rows_of st.table)
    row_goes_on t = sym (over_marked i) ∙ key_goes_on rows i to r h fits (e _ r m.writes) (q _ m.writes) t ∙ over_marked (i + 1)

-- ---- all of them

-- the rows after the ready cursor and round to it have the machine's keys
pub round_over : {b p : List ℕ} {now n from : ℕ} {st : State} {l : List Entry} (c : Option Key) → c ≡ cursor_in (words b) ready_at → AfterCursor b c from → Sound st → Marks now st l b p n
    → round st.ready_cursor (keys st.table) ≡ keys_over from (rows_in b) (rows_of st.table) ++ keys_over 0 from (rows_of st.table)
round_over {b} {now = now} {from = from} {st} {l} c e a s m =
    let t = mark_all (until now) l st.table in
    let k : c ≡ st.ready_cursor = e ∙ ready_read (on_table t st) m.writes in
    let same = marked-rows (until now) l st.table s.bounded.ordered m.free in
    let x = a.round_is (subst CursorFits (sym k) s.ready) (on_table t st) m.sound m.writes in
    let q : keys t ≡ keys st.table =
    sym (keys-rows 0 t m.sound.bounded.ordered m.sound.bounded.lawful m.sound.bounded.filled) ∙ keys_same (rows_of t) (rows_of st.table) same
    ∙ keys-rows 0 st.table s.bounded.ordered s.bounded.lawful s.bounded.filled in
    (λ i. round (sym k i) (sym q i)) ∙ sym x
    ∙ (λ i. over_same (rows_of t) (rows_of st.table) from (rows_in b) same i ++ over_same (rows_of t) (rows_of st.table) 0 from same i)

-- a phase over them, in two walks
pub round_phased : {b b₁ b₂ p p₁ p₂ : List ℕ} {now from n : ℕ} (c : Option Key) {v v₁ x w : Scan} → c ≡ cursor_in (words b) ready_at → AfterCursor b c from → n ≡ rows_in b → Opened v v₁
    → Scans b b₁ p p₁ now (λ st. keys_over from n (rows_of st.table)) (λ st. []) v₁ x (n - from) → Scans b₁ b₂ p₁ p₂ now (λ st. keys_over 0 from (rows_of st.table)) (λ st. []) x w (from - 0)
    → Phased b b₂ p p₂ now (λ st. round st.ready_cursor (keys st.table)) v w (rows_in b)
round_phased {b} {from = from} {n} c e a all o f g =
    let few : n - from + (from - 0) ≤ rows_in b = omega (arith, a.most, all) in
    phased o
    (scans_for (λ st. round st.ready_cursor (keys st.table))
    (λ st l s m. round_over c e a s m ∙ ap (λ (i : ℕ). keys_over from i (rows_of st.table) ++ keys_over 0 from (rows_of st.table)) (sym all))
    (scans_as (scans_both f g) (λ st. []) (rows_in b) few (λ st l s m. refl)))
