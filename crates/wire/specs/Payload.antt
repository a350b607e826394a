-- Inventory payloads, as inv, getdata and notfound carry them: what one is, how it is read and how it is written (document 02, request a).
use Rattle.std.specs.Prelude.{ℕ, ◌+◌, ◌*◌, ◌^◌, Bool, true, ◌&&◌, List, [], ◌∷◌, ◌++◌, ltb, leb, eqb, length, take, drop, if◌then◌else◌}
use Rattle.std.proofs.Math.Option.{Option, none, some}
use Rattle.ident.specs.Number.{Item, type_of, item_kind_of, is_plain}
use Rattle.words.specs.Words.{number, digits, recs}
use Rattle.machine.specs.Step.{hash_bytes}

-- "at most 50,000"
abbrev pub max_items : ℕ
max_items = 50000

-- "items of 36 bytes"
abbrev pub wire_bytes : ℕ
wire_bytes = 36

-- ---- written

-- "a CompactSize count in its shortest form": one byte below 253; else 253, 254 or 255 and 2, 4 or 8 bytes, the least significant first
unfoldable pub compact_size : ℕ → List ℕ
compact_size n =
    if ltb n 253 then n ∷ [] else if ltb n (2 ^ 16) then 253 ∷ digits 256 2 n else if ltb n (2 ^ 32) then 254 ∷ digits 256 4 n else 255 ∷ digits 256 8 n

-- "four bytes of type, least significant first, and the 32 hash bytes, byte 0 first"
abbrev pub wire_of : Item → List ℕ
wire_of i = digits 256 4 (type_of i.kind) ++ hash_bytes i.hash

unfoldable pub wires_of : List Item → List ℕ
wires_of [] = []
wires_of (i ∷ l) = wire_of i ++ wires_of l

-- "A payload is a CompactSize count .. then that many items"
abbrev pub payload_of : List Item → List ℕ
payload_of l = compact_size (length l) ++ wires_of l

-- ---- read

-- how many bytes of a count follow its first
abbrev pub following : ℕ → ℕ
following c = if ltb c 253 then 0 else if eqb c 253 then 2 else if eqb c 254 then 4 else 8

-- the count whose first byte is c and whose others are the first of b
abbrev pub count_from : ℕ → List ℕ → ℕ
count_from c b = if ltb c 253 then c else number 256 (take (following c) b)

-- "in its shortest form": the count is there, and is written in as many bytes
abbrev pub shortest : ℕ → List ℕ → Bool
shortest c b = leb (following c) (length b) && eqb (length (compact_size (count_from c b))) (following c + 1)

-- "Types 1, 0x40000001 and 5 are t, v and w; every other type is kept with its number": the item of 36 bytes
unfoldable pub wire_item : List ℕ → Item
wire_item b = record { kind = item_kind_of (number 256 (take 4 b)); hash = number 256 (drop 4 b) }

-- n items, if n is at most 50,000 and the bytes are theirs: none is missing and none is left
abbrev pub items_after : ℕ → List ℕ → Option (List Item)
items_after n b = if leb n max_items && eqb (length b) (wire_bytes * n) then some (recs wire_bytes wire_item n b) else none

-- the items of a payload; none of one "whose count is not in its shortest form, is above 50,000 or does not match its bytes"
unfoldable pub items_of : List ℕ → Option (List Item)
items_of [] = none
items_of (c ∷ b) = if shortest c b then items_after (count_from c b) (drop (following c) b) else none

-- ---- what the writer refuses

-- no "other item of those three types"
unfoldable pub all_plain : List Item → Bool
all_plain [] = true
all_plain (i ∷ l) = is_plain i.kind && all_plain l

-- not "a list of more than 50,000, or one with an other item of those three types"
abbrev pub writable : List Item → Bool
writable l = leb (length l) max_items && all_plain l
