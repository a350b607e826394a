-- What a public call leaves: reply, answer buffer and store, one definition for all calls.
use Rattle.std.specs.Prelude.{ℕ, Bool, ◌≡◌, List, [], eqb, length, if◌then◌else◌}
use Rattle.words.specs.Words.{words, Decides}
use Rattle.machine.specs.Call.{Buffer, Call, Open, Restore, On, refusal}
use Rattle.machine.specs.Step.{Reply, step_if}
use Rattle.store.specs.Image.{SoundStore, stored}
use Rattle.store.specs.Read.{state_of}

-- the reply, and the bytes of answer buffer and store after a call
pub record Effect : Type 0 where
  pub reply : Reply
  pub buffer : Buffer
  pub store : List ℕ

-- The call on a store of the bytes b, which write a sound state if `sound`. A call that is carried out leaves the image of the
-- machine's next state as far as the need; a refused one leaves every byte.
unfoldable pub outcome_if : Bool → List ℕ → Call → Effect
outcome_if sound b c =
    let s = state_of (words b) in
    let o = step_if (length b) sound c s in
    record { reply = o.reply; buffer = o.buffer; store = if eqb (refusal (length b) sound c s) 0 then stored o.state b else b }

-- opening and the reading of a listing take any store; the other calls go by whether its bytes write a sound state
abbrev pub Tested : Call → Bool → List ℕ → Type 0
Tested (Open L Q) sound b = Unit {0}
Tested (Restore x) sound b = Unit {0}
Tested (On a) sound b = Decides sound (SoundStore b)

-- the contract of every public call: e is what the call leaves of the bytes b
pub record Does (c : Call) (b : List ℕ) (e : Effect) : Type 0 where
  pub sound : Bool
  pub tested : Tested c sound b
  pub effect : e ≡ outcome_if sound b c

-- The same in a line. A call without an answer buffer replies r, and leaves b' of the bytes b.
abbrev pub Leaves : Call → List ℕ → List ℕ → Reply → Type 0
Leaves c b b' r = Does c b (record { reply = r; buffer = []; store = b' })

-- One with an answer buffer leaves u in it; the reply, where it is a list, stands there.
abbrev pub LeavesWith : Call → List ℕ → List ℕ → Buffer → (Buffer → Reply) → Type 0
LeavesWith c b b' u r = Does c b (record { reply = r u; buffer = u; store = b' })
