-- The rows of any number for a kind: from where `regions::start_at` says, for the number and behind it.
use Prim.Native.Nat.{ℕ, min, ◌+◌, ◌*◌, ◌≤◌, ◌<◌}
use mathlib.Core.List.{List}
use native.Mathlib.Omega.{arith}
use lib.ListN.{length, get_or}
use Rattle.ident.specs.Number.{top}
use Rattle.store.specs.Flat.{flat_of}
use Rattle.store.specs.Shown.{rows_in, row_numbers, Seek, Kept}
use Rattle.store.proofs.Numbered.{seek_numbered}
use Rattle.requests.specs.Changes.{Spans}
use Rattle.requests.proofs.Keeping.{kept_shown, rows_in_order, sought_order}

module _ {b : List ℕ} (k : Kept b) (fits : (i : ℕ) → i < length b → get_or b i 0 < 256) where
  pub spans_numbered : {x from to : ℕ} → Seek b (λ f. row_numbers f.rows) (rows_in b) (min x (2 * top)) from → Seek b (λ f. row_numbers f.rows) (rows_in b) (min (x + 1) (2 * top)) to
      → Spans b x from to
  spans_numbered p q =
      let s = kept_shown k in
      let few : length s.flat.rows ≤ s.flat.head.limit = s.sized.rows_few in
      let p' = seek_numbered b fits (omega (arith, few, s.sizes)) p in
      let q' = seek_numbered b fits (omega (arith, few, s.sizes)) q in
      record {
        order = sought_order k p' q';
        most = q'.most;
        from_is = λ st z w. p'.bound (flat_of st) w (rows_in_order st z);
        to_is = λ st z w. q'.bound (flat_of st) w (rows_in_order st z);
      }
