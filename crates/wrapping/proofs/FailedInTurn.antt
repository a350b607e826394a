-- Items that are not found, each by itself, one after the other.
use Prim.Native.Nat.{ℕ, ◌+◌, ◌*◌, ◌≤◌, ◌<◌}
use mathlib.Core.Path.{◌≡◌, refl, ap}
use mathlib.Core.List.{List, [], ◌∷◌, ◌++◌}
use native.Mathlib.Omega.{arith}
use lib.ListN.{length, length-append}
use Rattle.ident.specs.Number.{Item, top}
use Rattle.machine.specs.Limits.{Limits, word, max_parents}
use Rattle.machine.specs.State.{Table, limits_of}
use Rattle.machine.specs.Table.{places_held}
use Rattle.machine.specs.Call.{key_bytes}
use Rattle.machine.specs.Fail.{Listed}
use Rattle.machine.specs.Wrapper.{not_found_one, not_found_each}
use Rattle.machine.specs.Sound.{Bounded}
use Rattle.machine.proofs.Fail.{Peer}
use Rattle.machine.proofs.Wrapper.{bounded-not_found_one}
use Rattle.machine.proofs.Failing.{length-not_found_each}
use Rattle.store.specs.Shown.{places_in}
use Rattle.store.proofs.Frame.{sizes}
use Rattle.requests.specs.Changes.{Tells}
use Rattle.announcing.specs.Answers.{KeysListed}
use Rattle.wrapping.specs.Lapses.{in_turn}
use Rattle.wrapping.proofs.Unfound.{listed_as}
use Rattle.wrapping.proofs.Turning.{Steady}

module _ {n now : ℕ} (p : Peer n) (w : now < word) where
  few_one : {m : Limits} {Q : ℕ} {t : Table} (i : Item) → i.hash < top → Bounded m Q t
      → length (not_found_one m n now i t).keys + max_parents * places_held (not_found_one m n now i t).table ≤ 1 + max_parents * places_held t
  unfolding not_found_each
  few_one {m} {t = t} i h b = omega (arith, length-not_found_each n now (i ∷ []) p w (h, tt) b, length-append (not_found_one m n now i t).keys [])

  pub failing_steady : Steady (λ m i t. not_found_one m n now i t) (λ t. max_parents * places_held t) (λ i. i.hash < top)
  failing_steady = record {
    bounded = λ m Q t i h b. bounded-not_found_one n now i p w h b;
    few = λ m Q t i h b. few_one i h b;
  }

pub failing_room : {s₀ : List ℕ} (l : List Item) (u₀ : List ℕ) → key_bytes * (length l + max_parents * places_in s₀) ≤ length u₀
    → Tells s₀ (λ t. key_bytes * (length l + max_parents * places_held t) ≤ length u₀)
failing_room l u₀ h st g w = omega (arith, g.bounded.room, (sizes w).places)

in_turn_each : (m : Limits) (n now : ℕ) (l : List Item) (t : Table) → in_turn (not_found_one m n now) l t ≡ not_found_each m n now l t
unfolding in_turn not_found_each
in_turn_each m n now [] t = refl
in_turn_each m n now (i ∷ l) t = let a = not_found_one m n now i t in ap (λ (y : Listed). record { keys = a.keys ++ y.keys; table = y.table }) (in_turn_each m n now l a.table)

pub each_failed : {b b' u u' : List ℕ} {c : ℕ} (n now : ℕ) (l : List Item) → KeysListed b b' u u' c (λ m t. in_turn (not_found_one m n now) l t)
    → KeysListed b b' u u' c (λ m t. not_found_each m n now l t)
each_failed n now l v = listed_as _ _ (λ st g w. in_turn_each (limits_of st) n now l st.table) v
