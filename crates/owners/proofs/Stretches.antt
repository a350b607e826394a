-- The walk along the rows of one kind up to a hash, row by row.
use Prim.Native.Nat.{ℕ, ◌+◌, ◌≤◌, ◌<◌}
use mathlib.Core.Path.{◌≡◌, sym, ap, subst, ◌∙◌}
use mathlib.Core.List.{List, ◌∷◌}
use mathlib.Core.Option.{Option}
use native.Mathlib.Nat.{le_refl}
use native.Mathlib.Omega.{arith}
use lib.ListN.{length, get_or}
use Rattle.std.specs.Prelude as rust
use Rattle.regions.specs.declared.Row.{Row}
use Rattle.machine.specs.Table.{keys, one}
use Rattle.machine.specs.Owners.{Holding, or_holding, keys_up_to}
use Rattle.store.specs.Flat.{Flat}
use Rattle.store.specs.Gather.{gather}
use Rattle.store.specs.Image.{Shows}
use Rattle.store.specs.Shown.{rows_in}
use Rattle.store.proofs.Frame.{sizes}
use Rattle.announcing.specs.Evicts.{part}
use Rattle.sweeping.specs.Batches.{keys_over, last_row}
use Rattle.sweeping.proofs.Rounds.{part_more, part_none, over_none}
use Rattle.owners.specs.declared.Owner.{Owner}
use Rattle.owners.specs.Walk.{Says, row_hash, row_holding, holding_over, Rises, Stretched, Along}
use Rattle.owners.proofs.Rows.{or_none, or_assoc, over_lower, up_lower, rises_from, over_above, up_above}

-- the rows before i are done: what is left comes to the same as all of them, from what has been found
pub record Gone (rs : List Row) (from to h i n : ℕ) (v : rust.Option Owner) : Type 0 where
  pub counts : (g : ℕ) → h ≤ g → keys_up_to g (keys_over from to rs) ≡ n + keys_up_to g (keys_over i to rs)
  pub passes : (g : ℕ) → h < g → holding_over g (part from to rs) ≡ holding_over g (part i to rs)
  pub rises : Rises 0 (part from to rs) → Rises 0 (part i to rs)
  pub found : Option Holding
  pub says : Says v found
  pub rest : or_holding found (holding_over h (part i to rs)) ≡ holding_over h (part from to rs)

module _ {rs : List Row} {from to h i n : ℕ} {v : rust.Option Owner} (k : Gone rs from to h i n v) where
  gone_done : to ≤ i → Stretched rs from to h (record { at = i; keys = n; owner = v })
  unfolding keys_up_to holding_over
  gone_done l = record {
    counts = k.counts;
    passes = k.passes;
    rises = k.rises;
    ends = λ a. rw (over_none rs i to l);
    names = λ a. subst (Says v) (sym (or_none k.found) ∙ ap (λ (x : List Row). or_holding k.found (holding_over h x)) (sym (part_none rs i to l)) ∙ k.rest) k.says;
  }

  module _ (l : i < to) (m : to ≤ length rs) {r : Row} (e : r ≡ get_or rs i r) where
    front : part i to rs ≡ r ∷ part (i + 1) to rs
    front = part_more rs i to r l m ∙ ap (λ (x : Row). x ∷ part (i + 1) to rs) (sym e)

    gone_past : h < row_hash r → Stretched rs from to h (record { at = i; keys = n; owner = v })
    gone_past p = record {
      counts = k.counts;
      passes = k.passes;
      rises = k.rises;
      ends = λ a. up_above h (row_hash r) (part i to rs) p (above a);
      names = λ a. subst (Says v) (sym (or_none k.found) ∙ ap (or_holding k.found) (sym (over_above h (row_hash r) (part i to rs) p (above a))) ∙ k.rest) k.says;
    }
      where
        above : Rises 0 (part from to rs) → Rises (row_hash r) (part i to rs)
        above a = subst (Rises (row_hash r)) (sym front) (le_refl _, (subst (Rises 0) front (k.rises a)).1)

    gone_more : row_hash r ≤ h → {w : rust.Option Owner} → ((o : Option Holding) → Says v o → Says w (or_holding o (row_holding h r))) → {x : ℕ} → x ≡ one (last_row r (part (i + 1) to rs))
        → Gone rs from to h (i + 1) (n + x) w
    unfolding holding_over
    gone_more p q {x} z = record {
      counts = λ g d. omega (arith, k.counts g d, z, ap (λ (y : List Row). keys_up_to g (keys (gather y))) front, up_lower g r (part (i + 1) to rs) (omega arith));
      passes = λ g d. k.passes g d ∙ ap (holding_over g) front ∙ over_lower h g r (part (i + 1) to rs) p d;
      rises = λ a. rises_from (row_hash r) 0 (part (i + 1) to rs) (omega arith) (subst (Rises 0) front (k.rises a)).1;
      found = or_holding k.found (row_holding h r);
      says = q k.found k.says;
      rest = sym (or_assoc k.found (row_holding h r) (holding_over h (part (i + 1) to rs))) ∙ ap (λ (y : List Row). or_holding k.found (holding_over h y)) (sym front) ∙ k.rest;
    }

-- ---- the loop's invariant

pub record Going (b : List ℕ) (from to h i n : ℕ) (v : rust.Option Owner) : Type 0 where
  pub least : from ≤ i
  pub most : i ≤ to
  pub few : n + from ≤ i
  pub is : (f : Flat) → Shows b f → Gone f.rows from to h i n v

module _ {b : List ℕ} {from to h i n : ℕ} {v : rust.Option Owner} (k : Going b from to h i n v) where
  pub going_done : to ≤ i → Along b from to h (record { at = to; keys = n; owner = v })
  going_done l =
      let e : i ≡ to = omega (arith, k.most) in
      subst (λ (x : ℕ). Along b from to h (record { at = x; keys = n; owner = v })) e
      (record { least = k.least; most = k.most; few = k.few; is = λ f w. gone_done (k.is f w) l })

  module _ (l : i < to) (m : to ≤ rows_in b) {r : Row} (e : (f : Flat) (d : Row) → Shows b f → r ≡ get_or f.rows i d) where
    fits : (f : Flat) → Shows b f → to ≤ length f.rows
    fits f w = omega (arith, m, (sizes w).rows)

    pub going_past : h < row_hash r → Along b from to h (record { at = i; keys = n; owner = v })
    going_past p = record { least = k.least; most = k.most; few = k.few; is = λ f w. gone_past (k.is f w) l (fits f w) (e f r w) p }

    pub going_more : row_hash r ≤ h → {w : rust.Option Owner} → ((o : Option Holding) → Says v o → Says w (or_holding o (row_holding h r))) → {x : ℕ} → x ≤ 1
        → ((f : Flat) → Shows b f → x ≡ one (last_row r (part (i + 1) to f.rows))) → Going b from to h (i + 1) (n + x) w
    going_more p q s z = record { least = omega (arith, k.least); most = omega arith; few = omega (arith, k.few); is = λ f w. gone_more (k.is f w) l (fits f w) (e f r w) p q (z f w) }
