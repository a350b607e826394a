-- The packages among the items that are not found, behind the items.
use Prim.Native.Nat.{ℕ, ◌+◌, ◌-◌, ◌*◌, ◌≤◌}
use mathlib.Core.Path.{◌≡◌}
use mathlib.Core.List.{List, ◌++◌}
use native.Mathlib.Omega.{arith}
use lib.ListN.{length, take, drop, length-drop}
use lib.Seq.{length-take-le}
use Rattle.ident.specs.Number.{Item}
use Rattle.machine.specs.Limits.{max_parents}
use Rattle.machine.specs.State.{State, limits_of, on_table}
use Rattle.machine.specs.Table.{places_held}
use Rattle.machine.specs.Call.{key_bytes}
use Rattle.machine.specs.Package.{failed_package_claims}
use Rattle.machine.specs.Wrapper.{not_found_each, packages_in, not_found}
use Rattle.machine.specs.Sound.{Sound}
use Rattle.machine.proofs.Wrapper.{bounded-not_found_each}
use Rattle.machine.proofs.Kept.{sound-table}
use Rattle.machine.proofs.Failing.{length-not_found_each, length-not_found}
use Rattle.store.specs.Image.{Writes}
use Rattle.store.specs.Shown.{places_in, Kept}
use Rattle.store.proofs.Frame.{sizes}
use Rattle.requests.specs.Changes.{Tells}
use Rattle.announcing.specs.Answers.{KeysListed}
use Rattle.failing.proofs.Leaving.{told}
use Rattle.wrapping.proofs.Asked.{Asked}
use Rattle.wrapping.proofs.Behind.{listed_then}

module _ {n now kept : ℕ} (l : List Item) {s₀ s u₀ u : List ℕ} (v : KeysListed s₀ s u₀ u kept (λ m t. not_found_each m n now l t)) (long : length u ≡ length u₀) (q : Asked n now l) (k : Kept s₀)
    (room : key_bytes * (length l + max_parents * places_in s₀) ≤ length u₀) where
  abbrev after : State → State
  after st = on_table (not_found_each (limits_of st) n now l st.table).table st

  after-sound : (st : State) → Sound st → Sound (after st)
  after-sound st g = sound-table g (bounded-not_found_each n now l q.peer q.late q.hashed g.bounded)

  -- the claims are looked up in what the items leave
  pub items_kept : Kept s
  items_kept = record { state = after k.state; sound = after-sound k.state k.sound; writes = v.table k.state k.sound k.writes }

  -- an item lists a key or names a package, so that both lists are within the need
  within : (st : State) → Sound st → Writes s₀ st → kept + length (packages_in l) + max_parents * places_held (after st).table ≤ length l + max_parents * places_in s₀
  within st g w = omega (arith, v.count st g w, length-not_found_each n now l q.peer q.late q.hashed g.bounded, g.bounded.room, (sizes w).places)

  pub items-within : key_bytes * kept ≤ length u
  items-within = omega (arith, within k.state k.sound k.writes, long)

  module _ {a y : ℕ} (from : a ≡ key_bytes * kept) (end : y ≡ length u) where
    part_long : length (take (y - a) (drop a u)) ≡ y - a
    part_long = length-take-le (y - a) (drop a u) (simp length-drop (omega arith))

    pub packages-room : Tells s (λ t. key_bytes * (length (packages_in l) + max_parents * places_held t) ≤ length (take (y - a) (drop a u)))
    packages-room =
        let st = k.state in
        told (λ t. key_bytes * (length (packages_in l) + max_parents * places_held t) ≤ length (take (y - a) (drop a u))) (after st) (after-sound st k.sound) (v.table st k.sound k.writes)
        (omega (arith, within st k.sound k.writes, part_long, long))

    module _ {c : ℕ} {s₁ z : List ℕ} (o : KeysListed s s₁ (take (y - a) (drop a u)) z c (λ m t. failed_package_claims m n (packages_in l) now t)) where
      pub packages-listed : KeysListed s₀ s₁ u₀ (take a u ++ (z ++ drop (y - a) (drop a u))) (kept + c) (λ m t. not_found m n now l t)
      unfolding not_found
      packages-listed = listed_then (λ m t. not_found_each m n now l t) (λ m t. failed_package_claims m n (packages_in l) now t) v after-sound from end o

      pub packages-within : key_bytes * (kept + c) ≤ length u₀
      packages-within =
          let st = k.state in
          let g = k.sound in
          omega (arith, packages-listed.count st g k.writes, length-not_found n now l q.peer q.late q.hashed g.bounded, g.bounded.room, (sizes k.writes).places)
