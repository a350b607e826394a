-- What the numbers of the exported calls on payloads say.
use Rattle.std.specs.Prelude.{ℕ, zero, suc, ◌≡◌, List, Result}
use Rattle.ident.specs.Number.{Item}
use Rattle.machine.specs.Call.{Buffer}
use Rattle.wire.specs.declared.Refusal.{Refusal}
use Rattle.wire.specs.Calls.{refusal_number, PayloadReply, PayloadRefused, PayloadBytes, items_listed, Reads, Writes}
use Rattle.crossing.specs.Status.{Stays}
use Rattle.crossing.specs.Handed.{HandedOut}

-- an answer, its status, and the count handed out, which stood at `was` and is now `is`
abbrev pub CountHanded : Result ℕ Refusal → ℕ → ℕ → ℕ → Type 0
CountHanded a was is status = HandedOut (λ r k. k ≡ refusal_number r) a was is status

-- the reply of a status: r, if the call was carried out
abbrev pub said : ℕ → PayloadReply → PayloadReply
said zero r = r
said (suc k) r = PayloadRefused (suc k)

-- What reading the payload p leaves in the buffer u, which is u' then: the status, and the count of items handed out, which stood at `was` and is now `is`
abbrev pub HandsItems : List ℕ → Buffer → Buffer → ℕ → ℕ → ℕ → Type 0
HandsItems p u u' status was is = Reads p u u' (said status (items_listed is u')) × Stays status was is

-- and writing the payload of the list l: the count of bytes
abbrev pub HandsBytes : List Item → Buffer → Buffer → ℕ → ℕ → ℕ → Type 0
HandsBytes l u u' status was is = Writes l u u' (said status (PayloadBytes is)) × Stays status was is
