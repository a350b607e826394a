-- Items of an inventory in lent bytes, and the priorities beside them (document 01, "Wrappers' tracker part").
use Rattle.std.specs.Prelude.{ℕ, ◌%◌, ◌/◌, ◌^◌, List, [], ◌∷◌, ltb, length, take, drop, if◌then◌else◌}
use Rattle.ident.specs.declared.ItemKind.{ItemKind}
use Rattle.ident.specs.declared.ItemKind.TheVariants.{Other}
use Rattle.ident.specs.Number.{Item, item_kind_of}
use Rattle.words.specs.Words.{number, recs, words}
use Rattle.machine.specs.Wrapper.{Offer}

-- an item is a word for its type, then the hash
abbrev pub item_bytes : ℕ
item_bytes = 40

-- type numbers have 32 bits
abbrev pub type_top : ℕ
type_top = 2 ^ 32

-- a type's number decides the kind; a word from 2^32 on is an other item of the type that its low 32 bits are
abbrev pub item_kind_in : ℕ → ItemKind
item_kind_in w = if ltb w type_top then item_kind_of w else Other (w % type_top)

-- the item that 40 bytes hold
unfoldable pub item_in : List ℕ → Item
item_in b = record { kind = item_kind_in (number 256 (take 8 b)); hash = number 256 (drop 8 b) }

-- 40 bytes an item; a rest of fewer bytes is no item
unfoldable pub items_in : List ℕ → List Item
items_in b = recs item_bytes item_in (length b / item_bytes) b

-- each item with its priority; of lists of different lengths the shorter decides
unfoldable pub paired : List Item → List ℕ → List Offer
paired [] ps = []
paired (i ∷ l) [] = []
paired (i ∷ l) (p ∷ ps) = record { item = i; priority = p } ∷ paired l ps

-- items of 40 bytes, priorities of 8
abbrev pub offers_in : List ℕ → List ℕ → List Offer
offers_in b c = paired (items_in b) (words c)
