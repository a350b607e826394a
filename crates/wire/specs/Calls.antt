-- What the two calls on payloads do: reply and answer buffer. They take no store (document 02, request a).
use Rattle.std.specs.Prelude.{ℕ, ◌*◌, ◌≡◌, List, [], ◌∷◌, ◌++◌, ltb, length, if◌then◌else◌, Result, Ok, Err}
use Rattle.std.proofs.Math.Option.{Option, none, some}
use Rattle.ident.specs.Number.{Item, type_of}
use Rattle.words.specs.Words.{bytes_of, recs}
use Rattle.machine.specs.Call.{Buffer}
use Rattle.machine.specs.Step.{hash_bytes, written}
use Rattle.lent_lists.specs.Items.{item_bytes, item_in}
use Rattle.wire.specs.declared.Refusal.{Refusal}
use Rattle.wire.specs.declared.Refusal.TheVariants.{AnswerTooShort, BadPayload}
use Rattle.wire.specs.Payload.{items_of, payload_of, writable}

-- "gets number 10"
abbrev pub bad_payload : ℕ
bad_payload = 10

abbrev pub short_buffer : ℕ
short_buffer = 7

abbrev pub refusal_number : Refusal → ℕ
refusal_number AnswerTooShort = short_buffer
refusal_number BadPayload = bad_payload

pub data PayloadReply : Type 0 where
  PayloadRefused : (number : ℕ) → PayloadReply
  Items : (l : List Item) → PayloadReply
  PayloadBytes : (n : ℕ) → PayloadReply

-- what a call leaves: its reply, and the buffer
pub record Handed : Type 0 where
  pub reply : PayloadReply
  pub buffer : Buffer

-- an item in an answer buffer: a word for its type, then the hash
abbrev pub item_answer : Item → List ℕ
item_answer i = bytes_of (type_of i.kind ∷ []) ++ hash_bytes i.hash

unfoldable pub items_answer : List Item → List ℕ
items_answer [] = []
items_answer (i ∷ l) = item_answer i ++ items_answer l

-- a refusal: "all lent bytes staying"
abbrev pub refused : ℕ → Buffer → Handed
refused n u = record { reply = PayloadRefused n; buffer = u }

-- "10 is tested before 7. The buffer's need is the items read": 40 bytes each
abbrev pub items_read : Option (List Item) → Buffer → Handed
items_read none u = refused bad_payload u
items_read (some l) u = if ltb (length u) (item_bytes * length l) then refused short_buffer u else record { reply = Items l; buffer = written (items_answer l) u }

abbrev pub read_payload : List ℕ → Buffer → Handed
read_payload p u = items_read (items_of p) u

-- "or the bytes written"
abbrev pub bytes_written : List ℕ → Buffer → Handed
bytes_written p u = if ltb (length u) (length p) then refused short_buffer u else record { reply = PayloadBytes (length p); buffer = written p u }

abbrev pub write_payload : List Item → Buffer → Handed
write_payload l u = if writable l then bytes_written (payload_of l) u else refused bad_payload u

-- ---- what an answer says

-- n items stand in the buffer, as the calls that are given items read them
abbrev pub items_listed : ℕ → Buffer → PayloadReply
items_listed n u = Items (recs item_bytes item_in n u)

abbrev pub items_reply : Result ℕ Refusal → Buffer → PayloadReply
items_reply (Err r) u = PayloadRefused (refusal_number r)
items_reply (Ok n) u = items_listed n u

abbrev pub bytes_reply : Result ℕ Refusal → PayloadReply
bytes_reply (Err r) = PayloadRefused (refusal_number r)
bytes_reply (Ok n) = PayloadBytes n

-- ---- the contracts: p is the payload, l the list given, u the buffer before the call and u' after it

abbrev pub Reads : List ℕ → Buffer → Buffer → PayloadReply → Type 0
Reads p u u' r = record { reply = r; buffer = u' } ≡ read_payload p u

abbrev pub Writes : List Item → Buffer → Buffer → PayloadReply → Type 0
Writes l u u' r = record { reply = r; buffer = u' } ≡ write_payload l u
