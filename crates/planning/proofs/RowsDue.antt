-- The owners that are due, as the rows say them.
use Prim.Native.Nat.{ℕ, zero, suc, ◌+◌, ◌≤◌, ◌<◌}
use mathlib.Core.Path.{◌≡◌, refl, sym, ap, subst, ◌∙◌}
use mathlib.Core.Logic.{inl, inr}
use mathlib.Core.Bool.{Bool, true, false, ◌&&◌}
use mathlib.Core.List.{List, [], ◌∷◌, ◌++◌, map, append_assoc, append-nil}
use mathlib.Core.Option.{Option, none, some}
use native.Mathlib.Omega.{arith}
use native.Mathlib.Numerals.{add-one}
use lib.Dec.{leb, eqb}
use lib.ListN.{length, get_or, drop, drop_of_length-le}
use lib.Seq.{drop-cons}
use borrow.Author.Tests.{eqb-true, eqb-false, eq-eqb, ne_eqb, lt-leb}
use Rattle.std.specs.Prelude.{if◌then◌else◌}
use Rattle.ident.specs.Number.{Key, place}
use Rattle.regions.specs.declared.Row.{Row}
use Rattle.regions.specs.Regions.{each}
use Rattle.machine.specs.State.{Candidate, Owner, Request, Table, owner_is}
use Rattle.machine.specs.Table.{has, count_in}
use Rattle.machine.specs.Plan.{Due}
use Rattle.machine.specs.Sound.{OwnerFits, All, Lawful}
use Rattle.machine.proofs.Tests.{test, by_test, never}
use Rattle.store.specs.Flat.{Flat, deadline_for, row_of, rows_for, rows_of}
use Rattle.store.specs.FlatSound.{owns}
use Rattle.store.specs.Gather.{key_at}
use Rattle.store.specs.Image.{Shows}
use Rattle.store.specs.Shown.{rows_in, row_numbers}
use Rattle.store.proofs.Bits.{key_row, owns-row, conn-row}
use Rattle.store.proofs.Counts.{DistinctIn}
use Rattle.store.proofs.Frame.{sizes}
use Rattle.store.proofs.Keys.{row_number}
use Rattle.planning.specs.Expiring.{due_still, still_here, still_from, is_still, row_due, due_rows}

-- ---- rows that say nothing

abbrev due_as : ℕ → ℕ → ℕ → Key → Option Owner → List Due
due_as low now x k o = if leb x (place k) then due_still low now k o else []

-- what a row says by its key, bit, deadline and connection
abbrev said : ℕ → ℕ → ℕ → Key → Bool → ℕ → ℕ → List Due
said low now x k own deadline n = if leb x (place k) then if (own && leb deadline now) && leb low deadline then record { key = k; connection = n } ∷ [] else [] else []

pub not_due : (low now x : ℕ) (r : Row) → is_still low now r ≡ false → row_due low now x r ≡ []
not_due low now x r e = rw e (by_test (λ (l : List Due). l ≡ []) (leb x (place (key_at r))) (λ d. refl) (λ d. refl))

not_from : (low now x : ℕ) (r : Row) → place (key_at r) < x → row_due low now x r ≡ []
not_from low now x r h = rw (lt-leb x (place (key_at r)) h) refl

unowned-row : (low now : ℕ) (r : Row) → owns r ≡ false → is_still low now r ≡ false
unowned-row low now r e = rw e refl

rows_append : (low now x : ℕ) (a b : List Row) → due_rows low now x (a ++ b) ≡ due_rows low now x a ++ due_rows low now x b
unfolding due_rows
rows_append low now x [] b = refl
rows_append low now x (r ∷ a) b = ap (λ (l : List Due). row_due low now x r ++ l) (rows_append low now x a b) ∙ sym (append_assoc (row_due low now x r) (due_rows low now x a) (due_rows low now x b))

-- ---- the rows of a request

module _ (low now x : ℕ) (q : Request) where
  -- no row of these candidates owns it
  rows_none : (cs : List Candidate) → ((c : Candidate) → owner_is c.connection q.owner ≡ false) → due_rows low now x (map (row_of q) cs) ≡ []
  unfolding due_rows
  rows_none [] f = refl
  rows_none (c ∷ cs) f =
      ap (λ (l : List Due). l ++ due_rows low now x (map (row_of q) cs)) (not_due low now x (row_of q c) (unowned-row low now (row_of q c) (owns-row q c ∙ f c))) ∙ rows_none cs f

  module _ (o : Owner) (e : q.owner ≡ some o) where
    other_row : (c : Candidate) → eqb c.connection o.connection ≡ false → row_due low now x (row_of q c) ≡ []
    other_row c d =
        not_due low now x (row_of q c) (unowned-row low now (row_of q c)
        (owns-row q c ∙ ap (owner_is c.connection) e ∙ ne_eqb o.connection c.connection (λ z. eqb-false c.connection o.connection d (sym z))))

    own-deadline : (c : Candidate) → c.connection ≡ o.connection → (row_of q c).deadline ≡ o.deadline
    unfolding row_of
    own-deadline c d = ap (deadline_for c.connection) e ∙ rw (eq-eqb o.connection c.connection (sym d)) refl

    owner-row : (c : Candidate) → c.connection ≡ o.connection → row_due low now x (row_of q c) ≡ still_here low now x q
    owner-row c d =
        let own : owns (row_of q c) ≡ true = owns-row q c ∙ ap (owner_is c.connection) e ∙ eq-eqb o.connection c.connection (sym d) in
        let who : (row_of q c).conn ≡ o.connection = conn-row q c ∙ d in
        let k = key_row q c in
        let l = own-deadline c d in
        (λ i. said low now x (k i) (own i) (l i) (who i)) ∙ sym (ap (λ (w : Option Owner). due_as low now x q.key w) e)

    rows_rest : (cs : List Candidate) → count_in (λ m. eqb m o.connection) cs ≡ 0 → due_rows low now x (map (row_of q) cs) ≡ []
    unfolding due_rows count_in
    rows_rest [] h = refl
    rows_rest (c ∷ cs) h = elim (test (eqb c.connection o.connection)) [
      | inl d ↦ absurd (omega (arith, rw d at h))
      | inr d ↦ ap (λ (l : List Due). l ++ due_rows low now x (map (row_of q) cs)) (other_row c d) ∙ rows_rest cs (omega (arith, rw d at h))
    ]

    rows-owner : (cs : List Candidate) → count_in (λ m. eqb m o.connection) cs ≤ 1 → has o.connection cs ≡ true → due_rows low now x (map (row_of q) cs) ≡ still_here low now x q
    unfolding due_rows count_in has
    rows-owner [] h f = never f
    rows-owner (c ∷ cs) h f = elim (test (eqb c.connection o.connection)) [
      | inl d ↦ (λ i. owner-row c (eqb-true c.connection o.connection d) i ++ rows_rest cs (omega (arith, rw d at h)) i) ∙ append-nil (still_here low now x q)
      | inr d ↦ ap (λ (l : List Due). l ++ due_rows low now x (map (row_of q) cs)) (other_row c d) ∙ rows-owner cs (omega (arith, rw d at h)) (rw d at f)
    ]

request-rows : (low now x : ℕ) (q : Request) (o : Option Owner) → q.owner ≡ o → OwnerFits o q.candidates → DistinctIn q → due_rows low now x (map (row_of q) q.candidates) ≡ still_here low now x q
request-rows low now x q none e f d =
    rows_none low now x q q.candidates (λ c. ap (owner_is c.connection) e)
    ∙ sym (ap (λ (w : Option Owner). due_as low now x q.key w) e ∙ by_test (λ (l : List Due). l ≡ []) (leb x (place q.key)) (λ z. refl) (λ z. refl))
request-rows low now x q (some o) e f d = rows-owner low now x q o e q.candidates (d o.connection) f.0

-- the rows of a table say its due owners
pub table-rows : (low now x : ℕ) (t : Table) → All Lawful t → All DistinctIn t → due_rows low now x (rows_of t) ≡ still_from low now x t
unfolding still_from each rows_for
table-rows low now x [] l d = unfold due_rows in refl
table-rows low now x (q ∷ t) l d =
    rows_append low now x (map (row_of q) q.candidates) (rows_of t)
    ∙ ap (λ (a : List Due). a ++ due_rows low now x (rows_of t)) (request-rows low now x q q.owner refl l.0.owner d.0)
    ∙ ap (λ (a : List Due). still_here low now x q ++ a) (table-rows low now x t l.1 d.1)

-- ---- the rows from one on

pub rows_from : (low now x from : ℕ) (rs : List Row) → ((k : ℕ) → k < from → k < length rs → get_or (row_numbers rs) k 0 < x) → due_rows low now x rs ≡ due_rows low now x (drop from rs)
unfolding due_rows
rows_from low now x zero rs h = refl
rows_from low now x (suc from) [] h = refl
rows_from low now x (suc from) (r ∷ rs) h =
    ap (λ (l : List Due). l ++ due_rows low now x rs) (not_from low now x r (subst (λ (n : ℕ). n < x) (row_number r) (h 0 (omega arith) (omega arith))))
    ∙ rows_from low now x from rs (λ k p q. h (suc k) (omega arith) (omega arith))

pub rows_next : (low now x : ℕ) (d : Row) (i : ℕ) (rs : List Row) → i < length rs → due_rows low now x (drop i rs) ≡ row_due low now x (get_or rs i d) ++ due_rows low now x (drop (i + 1) rs)
unfolding due_rows
rows_next low now x d i rs h = ap (due_rows low now x) (drop-cons rs i d h ∙ ap (λ (n : ℕ). get_or rs i d ∷ drop n rs) (sym (add-one i)))

pub rows_over : (low now x i : ℕ) (rs : List Row) → length rs ≤ i → due_rows low now x (drop i rs) ≡ []
unfolding due_rows
rows_over low now x i rs h = rw (drop_of_length-le rs {i = i} h) refl

-- ---- one row of the bytes

module _ {b : List ℕ} (low now : ℕ) {i : ℕ} {r : Row} (h : i < rows_in b) (e : (f : Flat) (d : Row) → Shows b f → r ≡ get_or f.rows i d) where
  pub pass-row : is_still low now r ≡ false → (f : Flat) (x : ℕ) → Shows b f → due_rows low now x (drop i f.rows) ≡ due_rows low now x (drop (i + 1) f.rows)
  pass-row t f x w =
      rows_next low now x r i f.rows (omega (arith, h, (sizes w).rows))
      ∙ ap (λ (l : List Due). l ++ due_rows low now x (drop (i + 1) f.rows)) (not_due low now x (get_or f.rows i r) (subst (λ (q : Row). is_still low now q ≡ false) (e f r w) t))
