-- What the contracts of calls on any part of the state say.
use Rattle.std.specs.Prelude.{ℕ, ◌≡◌, Bool, List, length}
use Rattle.ident.specs.Number.{Key}
use Rattle.machine.specs.State.{State}
use Rattle.machine.specs.Sound.{Sound}
use Rattle.machine.specs.Step.{keys_answer, written}
use Rattle.store.specs.Image.{Writes}

-- whatever sound state the bytes b write, r is what is answered of it, and b' write what it becomes
pub record Replied (b b' : List ℕ) (r : Bool) (reply : State → Bool) (next : State → State) : Type 0 where
  pub reply_is : (st : State) → Sound st → Writes b st → r ≡ reply st
  pub state_is : (st : State) → Sound st → Writes b st → Writes b' (next st)

-- the same of a call that hands keys out: n of them, written over the first bytes of the buffer u
pub record KeysHanded (b b' u u' : List ℕ) (n : ℕ) (ks : State → List Key) (next : State → State) : Type 0 where
  pub count : (st : State) → Sound st → Writes b st → n ≡ length (ks st)
  pub keys-are : (st : State) → Sound st → Writes b st → u' ≡ written (keys_answer (ks st)) u
  pub state_is : (st : State) → Sound st → Writes b st → Writes b' (next st)
