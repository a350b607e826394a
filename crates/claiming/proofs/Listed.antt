-- A claim of a list of declared entries, entry by entry.
use Prim.Native.Nat.{ℕ, ◌+◌, ◌*◌, ◌<◌, ◌≤◌}
use mathlib.Core.Path.{◌≡◌, sym, ap, ◌∙◌}
use mathlib.Core.List.{List, ◌∷◌, map}
use native.Mathlib.Numerals.{add-one, add-one-le}
use native.Mathlib.Omega.{arith}
use lib.ListN.{length, drop, drop_of_length-le}
use lib.Seq.{drop-cons}
use Rattle.machine.specs.Call.{entry_bytes}
use Rattle.machine.specs.Limits.{latest_clock}
use Rattle.machine.specs.State as machine
use Rattle.store.specs.Shown.{Kept}
use Rattle.claiming.specs.declared.Entry.{Entry}
use Rattle.claiming.specs.Claiming.{entry_of, no_entry, nth_entry, OneMore, Claims}
use Rattle.claiming.proofs.Going.{Turning, turning_start, turning_more, turning_done}

abbrev pub entries_of : List Entry → List machine.Entry
entries_of l = map entry_of l

-- where the loop's test is reached: the first i entries have been claimed, n of them taken
pub record Reached (clock : ℕ) (l : List Entry) (s₀ s u₀ u : List ℕ) (i n : ℕ) : Type 0 where
  pub within : i ≤ length l
  pub turning : Turning clock (entries_of l) (entries_of (drop i l)) s₀ s u₀ u n i

pub reached_start : (clock : ℕ) (l : List Entry) (s u : List ℕ) → Reached clock l s s u u 0 0
reached_start clock l s u = record { within = omega arith; turning = turning_start clock (entries_of l) s u }

module _ {clock i n : ℕ} {l : List Entry} {s₀ s u₀ u : List ℕ} (v : Reached clock l s₀ s u₀ u i n) where
  pub reached_done : length l ≤ i → Claims s₀ s u₀ u clock (entries_of l) n
  reached_done h = turning_done v.turning (ap entries_of (drop_of_length-le l h))

  module _ (less : i < length l) (k : Kept s₀) (late : clock ≤ latest_clock) (room : entry_bytes * length l ≤ length u₀) where
    pub reached_more : {s' u' : List ℕ} {n' : ℕ} (e : Entry) → e ≡ nth_entry l i → length s' ≡ length s → length u' ≡ length u → OneMore s s' u u' clock (entry_of e) n n'
        → Reached clock l s₀ s' u₀ u' (i + 1) n'
    reached_more e f p q x = record {
      within = add-one-le less;
      turning = turning_more v.turning (entry_of e) (entries_of (drop (i + 1) l))
          (ap entries_of (drop-cons l i no_entry less) ∙ ap (λ (j : ℕ). entry_of (nth_entry l i) ∷ entries_of (drop j l)) (sym (add-one i))
          ∙ ap (λ (h : Entry). entry_of h ∷ entries_of (drop (i + 1) l)) (sym f)) late (omega (arith, less, room)) p q x;
    }
