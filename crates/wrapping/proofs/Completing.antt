-- What an answer leaves is sound; transaction_response_completed is one failing after another.
use Prim.Native.Nat.{ℕ, ◌<◌}
use mathlib.Core.Path.{◌≡◌}
use mathlib.Core.Bool.{Bool}
use mathlib.Core.List.{List}
use Rattle.ident.specs.Number.{Key, top, txid, wtxid}
use Rattle.machine.specs.Limits.{word}
use Rattle.machine.specs.State.{State, Table, on_table}
use Rattle.machine.specs.Fail.{failed}
use Rattle.machine.specs.Wrapper.{response_completed}
use Rattle.machine.specs.Sound.{Sound}
use Rattle.machine.proofs.Fail.{bounded-failed}
use Rattle.machine.proofs.Kept.{sound-table}
use Rattle.store.specs.Shown.{Kept}
use Rattle.requests.specs.Changes.{Makes}
use Rattle.announcing.specs.Answers.{Answered}

module _ {b b₁ : List ℕ} {r : Bool} (k : Key) (small : k.hash < top) (n now : ℕ) (late : now < word) (a : Answered b b₁ r (λ m t. failed k n now t)) where
  abbrev after : State → State
  after st = on_table (failed k n now st.table).table st

  after-sound : (st : State) → Sound st → Sound (after st)
  after-sound st s = sound-table s (bounded-failed k n now small late s.bounded)

  pub after_kept : Kept b → Kept b₁
  after_kept p = record { state = after p.state; sound = after-sound p.state p.sound; writes = a.table p.state p.sound p.writes }

  -- and then the other identity
  pub both_failed : {b₂ : List ℕ} {q : Bool} (x w : ℕ) (j : Key) → k ≡ txid x → j ≡ wtxid w → Answered b₁ b₂ q (λ m t. failed j n now t)
      → Makes b b₂ (λ (t : Table). Unit {0}) (response_completed n x w now)
  unfolding response_completed
  both_failed x w j e f c st s g u = rw (e, f) at (c.table (after st) (after-sound st s) (a.table st s g))
