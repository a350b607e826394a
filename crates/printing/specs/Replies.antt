-- What is printed of a reply (docs/EVENTS.md, "Answers").
use Rattle.std.specs.Prelude.{ℕ, List, [], ◌∷◌, ◌++◌, length}
use Rattle.std.proofs.Math.Option.{Option, none, some}
use Rattle.ident.specs.Number.{Key}
use Rattle.machine.specs.State.{Entry}
use Rattle.machine.specs.Owners.{Holding}
use Rattle.machine.specs.Call.{Call, Open, Restore, On}
use Rattle.machine.specs.Step.{Reply, Refused, Number, Keys, Left, Entries, Chosen, Summed, Owned, Saved}
use Rattle.machine.specs.Text.{decimal, bool_text, key_text, item_text, joined}
use Rattle.machine.specs.Listing.{none_text}

-- "An empty list is `-`."
abbrev pub listed : List (List ℕ) → List ℕ
listed [] = 45 ∷ []
listed (t ∷ ts) = joined (t ∷ ts)

unfoldable pub key_texts : List Key → List (List ℕ)
key_texts [] = []
key_texts (k ∷ ks) = key_text k ∷ key_texts ks

-- "An entry is key, connection, item, ready, preferred, priority; entries and keys follow each other, parted by commas."
unfoldable pub entry_texts : List Entry → List (List ℕ)
entry_texts [] = []
entry_texts (a ∷ l) =
    let c = a.candidate in
    key_text a.key ∷ decimal c.connection ∷ item_text c.item ∷ decimal c.ready ∷ bool_text c.preferred ∷ decimal c.priority ∷ entry_texts l

-- "for each hash `none`, or key, connection, deadline"
abbrev pub owner_text : Option Holding → List (List ℕ)
owner_text none = none_text ∷ []
owner_text (some a) = key_text a.key ∷ decimal a.connection ∷ decimal a.deadline ∷ []

unfoldable pub owner_texts : List (Option Holding) → List (List ℕ)
owner_texts [] = []
owner_texts (o ∷ l) = owner_text o ++ owner_texts l

-- "A refusal is `no,` and its number."
abbrev pub refusal_text : ℕ → List ℕ
refusal_text n = 110 ∷ 111 ∷ 44 ∷ decimal n

-- "event line unreadable: 9"
abbrev pub unreadable : ℕ
unreadable = 9

-- a reply's number; an opening's is `ok`
abbrev pub number_text : Call → ℕ → List ℕ
number_text (Open L Q) n = 111 ∷ 107 ∷ []
number_text (Restore x) n = decimal n
number_text (On a) n = decimal n

-- a time, or `none`
abbrev pub time_text : Option ℕ → List ℕ
time_text none = none_text
time_text (some n) = decimal n

-- a plan's: the keys considered, the entries, and when to look again
abbrev pub selection_text : ℕ → List Entry → Option ℕ → List ℕ
selection_text considered l next = joined (decimal considered ∷ (entry_texts l ++ (time_text next ∷ [])))

unfoldable pub reply_text : Call → Reply → List ℕ
reply_text c (Refused n) = refusal_text n
reply_text c (Number n) = number_text c n
reply_text c (Keys ks) = listed (key_texts ks)
reply_text c (Left own parents) = joined (decimal (length own) ∷ (key_texts own ++ key_texts parents))
reply_text c (Entries l) = listed (entry_texts l)
reply_text c (Chosen considered l next) = selection_text considered l next
reply_text c (Summed s) = joined (decimal s.held ∷ decimal s.free ∷ decimal s.preferred ∷ decimal s.permille ∷ [])
reply_text c (Owned passed l) = joined (decimal passed ∷ owner_texts l)
-- no word asks for a listing; its length would be told
reply_text c (Saved t) = decimal (length t)
