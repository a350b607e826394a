-- The steps by which an owner fails and waits to go, on the bytes: given back, owned until 0, and the candidates made ready.
use Prim.Native.Nat.{ℕ, ◌<◌}
use mathlib.Core.Path.{◌≡◌, subst}
use mathlib.Core.Bool.{true}
use mathlib.Core.List.{List}
use mathlib.Core.Option.{none}
use Rattle.ident.specs.Number.{Key, top, other}
use Rattle.machine.specs.Limits.{word}
use Rattle.machine.specs.State.{State, Table, on_table, owned_until, owner_is}
use Rattle.machine.specs.Table.{at, change, has}
use Rattle.machine.specs.Sound.{Sound}
use Rattle.machine.proofs.Kept.{sound-table}
use Rattle.store.specs.Image.{Writes}
use Rattle.store.specs.Shown.{Kept}
use Rattle.requests.specs.Changes.{Makes, Tells}
use Rattle.failing.specs.Changes.{readied}
use Rattle.failing.proofs.Leaving.{Clears, freed_sound, freed_kept}
use Rattle.postponing.specs.Lapses.{overdue, lapsed}
use Rattle.postponing.proofs.LapsedOwner.{owned_again, overdue_is, bounded_overdue, bounded_half}

module _ {b b₁ : List ℕ} (k : Key) (s : k.hash < top) (n : ℕ) (own : Tells b (λ t. owner_is n (at k t).owner ≡ true)) (c : Clears b b₁ k n) where
  -- given back
  pub lapse_first : Kept b → Kept b₁
  lapse_first p = let e = own p.state p.sound p.writes in freed_kept p.state p.sound k s n e (c p.state p.sound p.writes e)

  module _ {b₂ : List ℕ} (o : Makes b₁ b₂ (λ t. (has n (at k t).candidates ≡ true) × ((at k t).owner ≡ none)) (change k (owned_until n 0))) where
    abbrev again_state : State → State
    again_state st = on_table (change k (overdue n) st.table) st

    again : (st : State) → Sound st → Writes b st → Writes b₂ (again_state st)
    again st g w =
        let e = own st g w in
        subst (λ (t : Table). Writes b₂ (on_table t st)) (overdue_is g.bounded k s n e) (o _ (freed_sound st g k s n e) (c st g w e) (owned_again g.bounded k s n e))

    again_sound : (st : State) → Sound st → Writes b st → Sound (again_state st)
    again_sound st g w = sound-table g (bounded_overdue g.bounded k s n (own st g w))

    pub lapse_second : Kept b → Kept b₂
    lapse_second p = record { state = again_state p.state; sound = again_sound p.state p.sound p.writes; writes = again p.state p.sound p.writes }

    module _ {b₃ : List ℕ} (now : ℕ) (l : now < word) (r : Makes b₂ b₃ (λ t. Unit {0}) (change k (readied now))) where
      abbrev half_state : State → State
      half_state st = on_table (change k (readied now) (change k (overdue n) st.table)) st

      half : (st : State) → Sound st → Writes b st → Writes b₃ (half_state st)
      half st g w = r (again_state st) (again_sound st g w) (again st g w) tt

      half_sound : (st : State) → Sound st → Writes b st → Sound (half_state st)
      half_sound st g w = sound-table g (bounded_half g.bounded k s n (own st g w) now l)

      pub lapse_third : Kept b → Kept b₃
      lapse_third p = record { state = half_state p.state; sound = half_sound p.state p.sound p.writes; writes = half p.state p.sound p.writes }

      pub lapse_makes : {b₄ : List ℕ} {j : Key} → j ≡ other k → Makes b₃ b₄ (λ t. Unit {0}) (change j (readied now)) → Makes b b₄ (λ t. Unit {0}) (lapsed k n now)
      lapse_makes {b₄} {j} q x st g w u = (rw q at x) (half_state st) (half_sound st g w) (half st g w) tt
