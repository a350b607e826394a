-- From the answer of a call on a payload to the status and the count that its export hands out.
use Prim.Native.Nat.{ℕ}
use mathlib.Core.Path.{refl}
use mathlib.Core.List.{List}
use Rattle.ident.specs.Number.{Item}
use Rattle.std.specs.Prelude.{Result, Ok, Err}
use Rattle.wire.specs.declared.Refusal.{Refusal}
use Rattle.wire.specs.declared.Refusal.TheVariants.{AnswerTooShort, BadPayload}
use Rattle.wire.specs.Calls.{items_reply, bytes_reply, Reads, Writes}
use Rattle.crossing.specs.Payloads.{CountHanded, HandsItems, HandsBytes}

pub hands-items : (p u : List ℕ) (a : Result ℕ Refusal) (was : ℕ) {u' : List ℕ} {r n : ℕ} → Reads p u u' (items_reply a u') → CountHanded a was n r → HandsItems p u u' r was n
hands-items p u (Err AnswerTooShort) was d e = rw (e.told.0, e.told.1) (d, refl)
hands-items p u (Err BadPayload) was d e = rw (e.told.0, e.told.1) (d, refl)
hands-items p u (Ok k) was d e = rw (e.told.0, e.told.1) (d, tt)

pub hands_bytes : (l : List Item) (u : List ℕ) (a : Result ℕ Refusal) (was : ℕ) {u' : List ℕ} {r n : ℕ} → Writes l u u' (bytes_reply a) → CountHanded a was n r
    → HandsBytes l u u' r was n
hands_bytes l u (Err AnswerTooShort) was d e = rw (e.told.0, e.told.1) (d, refl)
hands_bytes l u (Err BadPayload) was d e = rw (e.told.0, e.told.1) (d, refl)
hands_bytes l u (Ok k) was d e = rw (e.told.0, e.told.1) (d, tt)
