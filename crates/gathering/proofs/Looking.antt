-- The region of rows that wait: what its searches find, and what is put in.
use Prim.Native.Nat.{ℕ, ◌+◌, ◌≤◌, ◌<◌}
use mathlib.Core.Path.{◌≡◌, sym, ap, subst, ◌∙◌}
use mathlib.Core.Bool.{Bool, true, false, not, ◌||◌}
use mathlib.Core.List.{List, []}
use native.Mathlib.Omega.{arith}
use lib.Dec.{ltb}
use lib.ListN.{length}
use borrow.Author.Tests.{not-true, not-false}
use Rattle.ident.specs.Number.{top, place, txid, wtxid}
use Rattle.words.specs.Words.{recs}
use Rattle.regions.specs.declared.Key.{Key as RowKey}
use Rattle.regions.specs.declared.Row.{Row}
use Rattle.regions.specs.Order.{Bound, Sought}
use Rattle.regions.specs.Regions.{Holds, Inserted}
use Rattle.regions.specs.Rows.{row_size, row_words, row_key, key_number, key_of}
use Rattle.machine.specs.State.{Entry, Table}
use Rattle.machine.proofs.Tests.{never}
use Rattle.store.specs.Shown.{row_numbers}
use Rattle.store.proofs.Searches.{row_sought}
use Rattle.gathering.specs.Merges.{gathered}
use Rattle.gathering.specs.Aside.{space, numbered, KeyIn, PutIn, Mixed, WaitsAt, OpenAt}
use Rattle.gathering.proofs.ComingIn.{length-gathered}
use Rattle.gathering.proofs.InOrder.{sorted-gathered, put-placed, numbered_is, waits_is}

pub key_in_lem : {w : List ℕ} {m i j : ℕ} (x : ℕ) → Sought (recs row_size row_key m w) m x i → Sought (recs row_size row_key m w) m (x + 1) j → KeyIn w m x (ltb i j)
key_in_lem x a b L ys e l s h =
    numbered_is x ys (row_sought L ys (omega arith) h (sym e) a s) (row_sought L ys (omega arith) h (sym e) b s)

pub row_put : {w w' : List ℕ} {m i : ℕ} {y : Row} {k : RowKey} → k ≡ key_of y → Sought (recs row_size row_key m w) m (key_number k + 1) i → Inserted row_size row_words w w' m i y → PutIn w w' m y
row_put {w} {w'} {m} {i} {y} {k} q a p L ys e l s h =
    let b = row_sought L ys (omega arith) h (sym e) a s in
    let z = put-placed y i ys (subst (λ (j : RowKey). Bound (row_numbers ys) (key_number j + 1) i) q b) in
    subst (λ (zs : List Row). Holds row_size row_words L zs w') z (p.region L ys e h)

-- ---- whether one that waits is at a hash

module _ {t : Table} {es : List Entry} {w : List ℕ} {m : ℕ} (a : Mixed t es w m) where
  pub few_rows : length (gathered t es []) ≡ m
  few_rows = omega (arith, length-gathered t es [], a.count)

  key-waits : (x : ℕ) {r : Bool} → m ≤ space → KeyIn w m x r → r ≡ numbered x (gathered t es [])
  key-waits x l k = k space (gathered t es []) few_rows l (sorted-gathered t es) a.rows

module _ {w : List ℕ} {m x h : ℕ} {p : Bool} (l : m ≤ space) (small : h < top) (k : KeyIn w m x p) (e : x ≡ place (txid h)) where
  pub waits_first : p ≡ true → WaitsAt w m h p
  waits_first q t o es a =
      let N = gathered t es [] in
      let i : numbered (place (txid h)) N ≡ true = ap (λ (z : ℕ). numbered z N) (sym e) ∙ sym (key-waits a x l k) ∙ q in
      q ∙ sym (ap (λ (b : Bool). b || numbered (place (wtxid h)) N) i) ∙ waits_is h t es small o a.ready

  pub waits-second : {y : ℕ} {r : Bool} → p ≡ false → KeyIn w m y r → y ≡ place (wtxid h) → WaitsAt w m h r
  waits-second {y} {r} q j f t o es a =
      let N = gathered t es [] in
      let i : numbered (place (txid h)) N ≡ false = ap (λ (z : ℕ). numbered z N) (sym e) ∙ sym (key-waits a x l k) ∙ q in
      key-waits a y l j ∙ ap (λ (z : ℕ). numbered z N) f ∙ sym (ap (λ (b : Bool). b || numbered (place (wtxid h)) N) i) ∙ waits_is h t es small o a.ready

-- ---- whether one more can wait, at a hash of its own

pub open_none : {w : List ℕ} {m h : ℕ} → space ≤ m → OpenAt w m h false
open_none l = record { spare = λ e. never e; apart = λ e. never e; shut = λ _ g. absurd (omega arith) }

pub open_by : {w : List ℕ} {m h : ℕ} {b : Bool} → m < space → WaitsAt w m h b → OpenAt w m h (not b)
open_by {w} {m} {h} {b} l x = record {
  spare = λ _. l;
  apart = λ e t o es a. sym (not-true b e) ∙ x t o es a;
  shut = λ e _ t o es a. sym (not-false b e) ∙ x t o es a;
}
