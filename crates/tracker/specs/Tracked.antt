-- Demands 2 and 3 of a whole list of public calls on one store (document 01, "Demand 3 is one claim about a whole list").
use Rattle.std.specs.Prelude.{ℕ, ◌≡◌, List, [], ◌∷◌, length}
use Rattle.machine.specs.State.{State}
use Rattle.machine.specs.Call.{Call}
use Rattle.machine.specs.Step.{step}
use Rattle.machine.specs.Demand3.{run, Bounds, Fair}
use Rattle.store.specs.Image.{SoundStore}
use Rattle.outcome.specs.Outcome.{Effect, Does}
use Rattle.outcome.specs.Steps.{Stepped}

-- ---- what a list of calls leaves

-- every call has its contract, on the store that the one before it left
abbrev pub Ran : List ℕ → List Call → List Effect → Type 0
Ran b [] [] = Unit {0}
Ran b [] (e ∷ es) = ⊥
Ran b (c ∷ cs) [] = ⊥
Ran b (c ∷ cs) (e ∷ es) = Does c b e × Ran e.store cs es

unfoldable pub last_store : List ℕ → List Effect → List ℕ
last_store b [] = b
last_store b (e ∷ es) = last_store e.store es

-- ---- what the machine says of it

-- "After each call its reply is the tracker's and the store, as far as its need, is the byte image of its state; demand 3
-- speaks of that state."
pub record Agrees (n : ℕ) (b : List ℕ) (c : Call) (s : State) (e : Effect) : Type 0 where
  pub stepped : Stepped b (step n c s) e
  pub bounds : Bounds (step n c s).state

-- the machine "knows that store's length and gets the same calls, nothing else"
abbrev pub Follows : ℕ → List ℕ → State → List Call → List Effect → Type 0
Follows n b s [] [] = Unit {0}
Follows n b s [] (e ∷ es) = ⊥
Follows n b s (c ∷ cs) [] = ⊥
Follows n b s (c ∷ cs) (e ∷ es) = Agrees n b c s e × Follows n e.store (step n c s).state cs es

pub record Tracked (b : List ℕ) (first : State) (calls : List Call) (es : List Effect) : Type 0 where
  pub follows : Follows (length b) b first calls es
  pub store : SoundStore (last_store b es)
  pub state : store.state ≡ run (length b) calls first
  pub bounds : Bounds (run (length b) calls first)
  pub fair : Fair (length b) first calls
