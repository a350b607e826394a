-- Owners whose time is over, where no place is held: all candidates beside them are ready, under both kinds; then they go, in one pass.
use Rattle.std.specs.Prelude.{ℕ, List, [], ◌∷◌}
use Rattle.machine.specs.State.{Table, State, on_table}
use Rattle.machine.specs.Plan.{Due, due}
use Rattle.machine.specs.Sound.{Sound}
use Rattle.requests.specs.Changes.{Makes}
use Rattle.postponing.specs.Silent.{readied_both, dropped_all}

unfoldable pub ready_each : ℕ → List Due → Table → Table
ready_each now [] t = t
ready_each now (d ∷ ds) t = ready_each now ds (readied_both now d.key t)

abbrev pub silenced : ℕ → Table → Table
silenced now t = dropped_all now (ready_each now (due now t) t)

-- the candidates beside each of them are ready, under both kinds
pub record MadeReady (b b' : List ℕ) (now : ℕ) : Type 0 where
  pub sound : (st : State) → Sound st → Sound (on_table (ready_each now (due now st.table) st.table) st)
  pub table : Makes b b' (λ t. Unit {0}) (λ t. ready_each now (due now t) t)
