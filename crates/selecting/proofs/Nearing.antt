-- A search that begins at a guess, and the rows of a key between two such searches.
use Prim.Native.Nat.{ℕ, ◌+◌, ◌-◌, ◌≤◌, ◌<◌}
use mathlib.Core.Path.{◌≡◌}
use mathlib.Core.List.{List}
use native.Mathlib.Omega.{arith}
use lib.ListN.{length, get_or}
use Rattle.ident.specs.declared.Key.{Key}
use Rattle.ident.specs.Words.{hash_num}
use Rattle.regions.specs.declared.Key.{Key as RowKey}
use Rattle.regions.specs.Order.{Sorted}
use Rattle.regions.specs.Rows.{key_number}
use Rattle.regions.proofs.Order.{Searching}
use Rattle.store.specs.Flat.{flat_of}
use Rattle.store.specs.Shown.{rows_in, row_numbers, Seek, Kept}
use Rattle.requests.specs.Changes.{KeyWords, Spans}
use Rattle.requests.proofs.Keeping.{rows_in_order}
use Rattle.choosing.specs.Choosing.{WindowAs}
use Rattle.selecting.specs.Near.{Behind}

-- ---- where it begins

-- the row before the guess is below
pub behind-guess : (ks : List ℕ) (n x g : ℕ) → length ks ≡ n → 1 ≤ g → g ≤ n → get_or ks (g - 1) 0 < x → Behind ks n x g
unfolding Sorted
behind-guess ks n x g l a m h = record { most = m; below = λ s j i. omega (arith, s j (g - 1) (omega arith) (omega arith)) }

pub begins : {ks : List ℕ} {n x r : ℕ} → length ks ≡ n → Behind ks n x r → Searching ks n x r n
begins l b = record { long = l; lo-le = b.most; hi-le = omega arith; below = b.below; above = λ s j h m. absurd (omega arith) }

-- ---- the rows of a key

module _ {b : List ℕ} {k : Key} {w : RowKey} {from to : ℕ} (kept : Kept b) (x : Seek b (λ f. row_numbers f.rows) (rows_in b) (key_number w) from)
    (y : Seek b (λ f. row_numbers f.rows) (rows_in b) (key_number w + 1) to) where
  pub window_by : KeyWords k w → (o : from ≤ to) → WindowAs b k.kind (hash_num k.hash) (record { from = from; to = to; order = o })
  window_by e o =
      let z : Spans b (key_number w) from to = record {
        order = o;
        most = y.most;
        from_is = λ st s v. x.bound (flat_of st) v (rows_in_order st s);
        to_is = λ st s v. y.bound (flat_of st) v (rows_in_order st s);
      } in
      record { small = e.small; spans = rw e.number at z }
