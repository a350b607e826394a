-- Whether a connection is a candidate, from where its row stands.
use Prim.Native.Nat.{ℕ, ◌+◌, ◌-◌, ◌≤◌, ◌<◌}
use mathlib.Core.Path.{◌≡◌, sym, ap, ◌∙◌}
use mathlib.Core.Logic.{inl, inr}
use mathlib.Core.Bool.{Bool, true, false, ◌||◌}
use mathlib.Core.List.{List, [], ◌∷◌, ◌++◌, map}
use native.Mathlib.Nat.{zero-add}
use native.Mathlib.Omega.{arith}
use lib.Dec.{ltb, eqb}
use lib.ListN.{length, get_or, length-append, length-map, get_or-append}
use lib.Seq.{get_or-append-add}
use borrow.Author.Tests.{lt-ltb, le-ltb, ltb-true, ltb-false}
use Rattle.ident.specs.Number.{top, Key, txid, wtxid}
use Rattle.regions.specs.declared.Row.{Row}
use Rattle.regions.specs.Order.{First}
use Rattle.machine.specs.State.{Candidate, Table}
use Rattle.machine.specs.Table.{at, has, count_in, is_candidate}
use Rattle.machine.specs.Sound.{Ordered}
use Rattle.machine.proofs.Tests.{test}
use Rattle.store.specs.Flat.{row_of, rows_for, rows_of}
use Rattle.store.specs.Shown.{row_conns}
use Rattle.store.proofs.RowsAt.{among}
use Rattle.store.proofs.Split.{rows_below, rows_above, rows_at}
use Rattle.requests.proofs.AtHash.{at-hash}
use Rattle.requests.proofs.Cutting.{conns-append, hasnt_at, ahead_in, found_at}

-- ---- at one key

module _ (k : Key) (n lo : ℕ) (t : Table) (o : Ordered lo t) {from to i : ℕ} (p : from ≡ length (rows_below k t)) (q : to ≡ length (rows_below k t ++ rows_for (at k t)))
    (m : First (row_conns (rows_of t)) from to n i) where
  abbrev rows : List Row
  rows = map (row_of (at k t)) (at k t).candidates

  -- a row of the window is one of the request's
  conn_in : from ≤ i → i < to → get_or (row_conns (rows_of t)) i 0 ≡ get_or (row_conns rows) (i - from) 0
  unfolding rows_for
  conn_in l h =
      let e : i ≡ length (row_conns (rows_below k t)) + (i - from) = omega (arith, length-map (rows_below k t) (λ (a : Row). a.conn)) in
      let s : i - from < length (row_conns rows) = omega (arith, length-map rows (λ (a : Row). a.conn), length-append (rows_below k t) rows) in
      ap (λ (l : List Row). get_or (row_conns l) i 0) (rows_at k lo t o)
      ∙ ap (λ (l : List ℕ). get_or l i 0) (conns-append (rows_below k t) (rows ++ rows_above k t) ∙ ap (λ (l : List ℕ). row_conns (rows_below k t) ++ l) (conns-append rows (rows_above k t)))
      ∙ ap (λ (j : ℕ). get_or (row_conns (rows_below k t) ++ (row_conns rows ++ row_conns (rows_above k t))) j 0) e
      ∙ get_or-append-add (row_conns (rows_below k t)) (row_conns rows ++ row_conns (rows_above k t)) (i - from) 0
      ∙ get_or-append (row_conns rows) (row_conns (rows_above k t)) 0 (i - from) s

  pub holds_by : ltb i to ≡ has n (at k t).candidates
  unfolding rows_for
  holds_by =
      elim (test (has n (at k t).candidates)) [
        | inl h ↦ let f = among n (at k t).candidates h in
            rw h (lt-ltb i to (omega (arith, found_at k n lo t o f p q m, ahead_in k n lo t o f)))
        | inr h ↦ rw h (elim (test (ltb i to)) [
          | inl e ↦ let l : i < to = ltb-true i to e in
              absurd (hasnt_at (at k t) n (at k t).candidates h (i - from) (omega (arith, m.least, length-map rows (λ (a : Row). a.conn), length-append (rows_below k t) rows))
              (sym (conn_in m.least l) ∙ m.found l))
          | inr e ↦ e
        ])
      ]

-- ---- at a hash, under either kind

has-counts : (n : ℕ) (cs : List Candidate) → has n cs ≡ ltb 0 (count_in (λ m. eqb m n) cs)
unfolding has count_in
has-counts n [] = sym (le-ltb 0 0 (omega arith))
has-counts n (c ∷ cs) =
    elim (test (eqb c.connection n)) [
      | inl e ↦ rw e (sym (lt-ltb 0 (1 + count_in (λ m. eqb m n) cs) (omega arith)))
      | inr e ↦ rw (e, zero-add) (has-counts n cs)
    ]

or_sum : (a b : ℕ) → (ltb 0 a || ltb 0 b) ≡ ltb 0 (a + b)
or_sum a b =
    elim (test (ltb 0 a)) [
      | inl e ↦ rw e (sym (lt-ltb 0 (a + b) (omega (arith, ltb-true))))
      | inr e ↦ let z : a ≡ 0 = omega (arith, ltb-false) in rw (e, z, zero-add)
    ]

pub either-kind : (n h : ℕ) → h < top → (t : Table) → Ordered 0 t → (has n (at (txid h) t).candidates || has n (at (wtxid h) t).candidates) ≡ is_candidate n h t
either-kind n h s t o =
    rw (has-counts n (at (txid h) t).candidates, has-counts n (at (wtxid h) t).candidates, at-hash h s (λ m. eqb m n) 0 t o)
    (or_sum (count_in (λ m. eqb m n) (at (txid h) t).candidates) (count_in (λ m. eqb m n) (at (wtxid h) t).candidates))

module _ (n h : ℕ) (s : h < top) (t : Table) (o : Ordered 0 t) {a : Bool} (e : a ≡ has n (at (txid h) t).candidates) where
  pub candidate_first : a ≡ true → a ≡ is_candidate n h t
  candidate_first y = y ∙ ap (λ (x : Bool). x || has n (at (wtxid h) t).candidates) (sym y ∙ e) ∙ either-kind n h s t o

  pub candidate-second : {b : Bool} → a ≡ false → b ≡ has n (at (wtxid h) t).candidates → b ≡ is_candidate n h t
  candidate-second y d = d ∙ ap (λ (x : Bool). x || has n (at (wtxid h) t).candidates) (sym y ∙ e) ∙ either-kind n h s t o
