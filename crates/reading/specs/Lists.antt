-- The lists of event lines, and what is made of them (docs/EVENTS.md, "Words").
use Rattle.std.specs.Prelude.{ℕ, List}
use Rattle.std.proofs.Math.Option.{Option}
use Rattle.ident.specs.Number.{Key, Item}
use Rattle.machine.specs.Wrapper.{Offer}
use Rattle.machine.specs.Call.{Ask, On}
use Rattle.machine.specs.Fields.{number_of, hash_of, key_of, item_of, taking}
use Rattle.reading.specs.Line.{Line, Asks, Send, Reader, list_then}

-- of hashes
unfoldable pub list_call : (List ℕ → Ask) → List (List ℕ) → Option Line
list_call ask fs = list_then (taking hash_of) (λ hs. Asks (On (ask hs))) fs

-- of keys
unfoldable pub key_list_call : (List Key → Ask) → List (List ℕ) → Option Line
key_list_call ask fs = list_then (taking key_of) (λ ks. Asks (On (ask ks))) fs

-- of items
unfoldable pub item_list_call : (List Item → Ask) → List (List ℕ) → Option Line
item_list_call ask fs = list_then (taking item_of) (λ is. Asks (On (ask is))) fs

abbrev pub offer_of : Item → ℕ → Offer
offer_of i p = record { item = i; priority = p }

-- of items with their priorities: an item, and the number behind it
unfoldable pub offer_then : Reader Offer
offer_then k fs = taking item_of (λ i. taking number_of (λ p. k (offer_of i p))) fs

unfoldable pub offers_call : (List Offer → Ask) → List (List ℕ) → Option Line
offers_call ask fs = list_then offer_then (λ os. Asks (On (ask os))) fs

-- "send: list of witness connections"
unfoldable pub send_line : List (List ℕ) → Option Line
send_line fs = list_then (taking number_of) Send fs
