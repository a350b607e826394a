-- What the contracts of the texts say, and of a call that is carried out with its reply as text.
use Rattle.std.specs.Prelude.{ℕ, ◌+◌, ◌*◌, ◌<◌, ◌≤◌, ◌≡◌, List, [], ◌∷◌, ◌++◌, length, Result, Ok, Err}
use Rattle.machine.specs.State.{Candidate, Entry}
use Rattle.machine.specs.Call.{Buffer, key_bytes, owner_bytes, Ask, Call, On}
use Rattle.machine.specs.Step.{Reply, Refused, Number, answer_bytes}
use Rattle.outcome.specs.Reply.{keys_listed}
use Rattle.outcome.specs.Outcome.{Effect, Does}
use Rattle.machine.specs.Text.{decimal_digits, decimal, hash_digits, bool_text, key_text, item_text}
use Rattle.lines.specs.Text.{Wrote, with_commas, number_room, key_room}
use Rattle.printing.specs.Replies.{reply_text}

-- ---- room

-- the longest line that is read
abbrev pub line_room : ℕ
line_room = 65536

-- the bytes of the answer buffer: so many keys of at most 66 bytes each with a number before them, and a line feed, fit
abbrev pub answer_room : ℕ
answer_room = 1500000

-- "not-found its items + 100 × Q", for the 21,845 items that a line has room for and Q = 2: the most that a call of this program lists
abbrev pub most_keys : ℕ
most_keys = 22045

-- an answer buffer of 12,000 bytes has room for so many entries
abbrev pub most_entries : ℕ
most_entries = 107

-- owners of hashes that a call of this program tells: those of 1,024
abbrev pub most_owners : ℕ
most_owners = 1024

-- ---- entries

-- what stands behind an entry's key
abbrev pub candidate_texts : Candidate → List (List ℕ)
candidate_texts c = decimal c.connection ∷ item_text c.item ∷ decimal c.ready ∷ bool_text c.preferred ∷ decimal c.priority ∷ []

-- an entry's six texts, parted by commas
abbrev pub entry_text : Entry → List ℕ
entry_text a = key_text a.key ++ with_commas (candidate_texts a.candidate)

-- the most bytes of each text: a key behind a comma; `o`, a number and `:`; these and a hash
abbrev pub next_room : ℕ
next_room = 1 + key_room

abbrev pub kind_room : ℕ
kind_room = 2 + decimal_digits

abbrev pub item_room : ℕ
item_room = kind_room + hash_digits

-- three numbers, an item and a bool, each behind a comma
abbrev pub candidate_room : ℕ
candidate_room = 3 * number_room + (1 + item_room) + 2

-- an entry behind a comma
abbrev pub entry_room : ℕ
entry_room = 1 + key_room + candidate_room

-- ---- owners

-- a key and two numbers, each behind a comma
abbrev pub owner_room : ℕ
owner_room = 1 + key_room + 2 * number_room

-- ---- answers

-- the owners of the reply y stand in the answer buffer u, which holds no more of them than are printed
pub record OwnersFit (y : Reply) (u : Buffer) : Type 0 where
  pub long : length u ≤ owner_bytes * most_owners
  pub fits : length (answer_bytes y) ≤ length u

-- the keys of the reply y stand in the answer buffer u, which holds no more of them than are printed
pub record KeysFit (y : Reply) (u : Buffer) : Type 0 where
  pub long : length u ≤ key_bytes * most_keys
  pub fits : length (answer_bytes y) ≤ length u

-- the text of an answer at the front of out, with room for a line feed behind it
pub record Printed (out out' : List ℕ) (text : List ℕ) (r : ℕ) : Type 0 where
  pub wrote : Wrote out out' 0 text r
  pub room : r < answer_room

-- the reply of a call that is no opening
pub record ReplyPrinted (out out' : List ℕ) (y : Reply) (r : ℕ) : Type 0 where
  pub text : (a : Ask) → Printed out out' (reply_text (On a) y) r

-- ---- answers whose refusals have any numbers

-- k is the number given for the refusal of an answer that is one
abbrev pub RefusedWith : {T E : Type 0} → (E → ℕ → Type 0) → Result T E → ℕ → Type 0
RefusedWith numbered (Ok x) k = Unit {0}
RefusedWith numbered (Err e) k = numbered e k

-- the reply of an answer that is a number or a refusal with the number k, and of one that lists keys (those of public calls: `reply_of` and `listing_of`)
abbrev pub number_with : {E : Type 0} → ℕ → Result ℕ E → Reply
number_with k (Ok n) = Number n
number_with k (Err e) = Refused k

abbrev pub listing_with : {E : Type 0} → ℕ → Result ℕ E → Buffer → Reply
listing_with k (Ok n) u = keys_listed n u
listing_with k (Err e) u = Refused k

pub record NumberPrinted {E : Type 0} (numbered : E → ℕ → Type 0) (a : Result ℕ E) (out out' : List ℕ) (r : ℕ) : Type 0 where
  pub number : ℕ
  pub given : RefusedWith numbered a number
  pub text : ReplyPrinted out out' (number_with number a) r

pub record ListingPrinted {E : Type 0} (numbered : E → ℕ → Type 0) (a : Result ℕ E) (u : Buffer) (out out' : List ℕ) (r : ℕ) : Type 0 where
  pub number : ℕ
  pub given : RefusedWith numbered a number
  pub text : ReplyPrinted out out' (listing_with number a u) r

-- ---- calls

-- the call c on a store of the bytes b, which leaves b', and its reply as text
pub record Carried (c : Call) (b b' out out' : List ℕ) (r : ℕ) : Type 0 where
  pub effect : Effect
  pub does : Does c b effect
  pub store : b' ≡ effect.store
  pub text : Printed out out' (reply_text c effect.reply) r
