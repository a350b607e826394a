-- The answer to a line, whatever it asks for.
use Prim.Native.Nat.{ℕ, ◌<◌}
use mathlib.Core.Path.{◌≡◌, refl, subst}
use mathlib.Core.List.{List}
use mathlib.Core.Option.{Option, none, some}
use Rattle.reading.specs.Line.{Line}
use Rattle.printing.specs.Replies.{refusal_text, unreadable}
use Rattle.printing.specs.Given.{answer_room, Printed}
use Rattle.printing.specs.Kept.{KeptLists, Meant, Calls, Parts, meant}
use Rattle.printing.specs.Answers.{MeantAs, AnsweredAs, Answered, Keeping}

pub keeps_unread : {o : Option Line} {b b' out out' : List ℕ} {r : ℕ} → none ≡ o → b' ≡ b → Printed out out' (refusal_text unreadable) r → Keeping o b b' out out' r
keeps_unread {o} {b} {b'} {out} {out'} {r} e s t = subst (λ (x : Option Line). Keeping x b b' out out' r) e (record { is = λ k. record { is = record { kept = refl; store = s; text = t } } })

-- the text ends inside out
pub room_of : {o : Option Line} {k k' : KeptLists} {b b' out out' : List ℕ} {r : ℕ} → Answered o k k' b b' out out' r → r < answer_room
room_of {o} {k} {k'} {b} {b'} {out} {out'} {r} p = of_line o p.is
  where
    of_meant : (x : Line) (m : Meant) → MeantAs x m k k' b b' out out' r → r < answer_room
    of_meant x (Calls c) q = q.carried.text.room
    of_meant x (Parts n) q = q.text.room

    of_line : (o : Option Line) → AnsweredAs o k k' b b' out out' r → r < answer_room
    of_line none q = q.text.room
    of_line (some x) q = of_meant x (meant k x) q
