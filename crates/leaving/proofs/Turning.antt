-- disconnected: one key of the connection, as the code takes it.
use Prim.Native.Nat.{ℕ, ◌+◌, ◌-◌, ◌*◌, ◌≤◌, ◌<◌}
use mathlib.Core.Path.{◌≡◌, refl, subst}
use mathlib.Core.Bool.{Bool, true, false}
use mathlib.Core.List.{List, ◌++◌}
use lib.ListN.{length, take, drop}
use Rattle.ident.specs.Number.{Key}
use Rattle.machine.specs.Limits.{word}
use Rattle.machine.specs.State.{State, on_table, owner_is}
use Rattle.machine.specs.Table.{at}
use Rattle.machine.specs.Call.{key_bytes}
use Rattle.machine.specs.Leave.{drop_at_key}
use Rattle.store.specs.Shown.{Kept}
use Rattle.requests.specs.Changes.{Tells}
use Rattle.merging.specs.Merges.{InOrder}
use Rattle.handing.specs.Hands.{Roomy, KeysMerged, KeyWaits}
use Rattle.leaving.specs.Parting.{key_out, CutListed, Going, Underway}
use Rattle.leaving.proofs.Walking.{going_kept, next_key, turn_waits}
use Rattle.leaving.proofs.Departing.{start_inside, part_order, cut_kept, cut-owned, cut-room, turn_drops}

-- its own keys are within the buffer
pub keys_inside : {n now : ℕ} {b u : List ℕ} {own from i parents : ℕ} → Underway n now b u own from i parents → own * key_bytes ≤ length u
keys_inside g = start_inside g.going

module _ {n now : ℕ} {st : State} {u₀ b u : List ℕ} {own from i parents : ℕ} (g : Going n now st u₀ b u own from i parents) (late : now < word) where
  module _ (k : Key) (h : i < own) (e : k ≡ key_out u i) {b₁ : List ℕ} {r : Bool} (w : KeyWaits n now k b b₁ r) where
    pub turn_rests : r ≡ true → Going n now st u₀ b₁ u own from (i + 1) parents
    turn_rests q = turn_waits g late (next_key g k h e) (w.rests q (on_table g.table st) g.sound g.writes)

    module _ (q : r ≡ false) where
      pub still_kept : Kept b₁
      still_kept = rw (w.same q) (going_kept g)

      module _ {b₂ : List ℕ} (c : CutListed n u from i b₁ b₂) where
        cut : CutListed n u from i b b₂
        cut = subst (λ (x : List ℕ). CutListed n u from i x b₂) (w.same q) c

        owns : owner_is n (at k g.table).owner ≡ true
        owns = w.owns q (on_table g.table st) g.sound g.writes

        pub drop-asks : Kept b₂ × Tells b₂ (λ t. owner_is n (at k t).owner ≡ true) × InOrder (take (length u - own * key_bytes) (drop (own * key_bytes) u)) parents
            × Roomy b₂ (take (length u - own * key_bytes) (drop (own * key_bytes) u)) parents (λ m t. drop_at_key m n now k t)
        drop-asks =
            let x = next_key g k h e in
            (cut_kept g late (length u) refl x cut owns, cut-owned g late (length u) refl x cut owns, part_order g late (length u) refl, cut-room g late (length u) refl x cut owns)

        pub turn_owned : {b₃ v : List ℕ} {s : ℕ} → KeysMerged b₂ b₃ (take (length u - own * key_bytes) (drop (own * key_bytes) u)) v parents s (λ m t. drop_at_key m n now k t)
            → Going n now st u₀ b₃ (take (own * key_bytes) u ++ (v ++ drop (length u - own * key_bytes) (drop (own * key_bytes) u))) own (i + 1) (i + 1) s
        turn_owned km = turn_drops g late (length u) refl (next_key g k h e) cut owns km
