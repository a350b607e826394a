-- What is written on event lines and in listings (docs/EVENTS.md, "Lines and fields"): values as bytes of text.
use Rattle.std.specs.Prelude.{ℕ, zero, suc, ◌+◌, ◌/◌, ◌%◌, Bool, true, false, List, [], ◌∷◌, ◌++◌, ltb, if◌then◌else◌}
use Rattle.ident.specs.declared.Kind.{Kind}
use Rattle.ident.specs.declared.Kind.TheVariants.{Txid, Wtxid}
use Rattle.ident.specs.declared.ItemKind.{ItemKind}
use Rattle.ident.specs.declared.ItemKind.TheVariants.{Transaction, WitnessTransaction, WTx, Other}
use Rattle.ident.specs.Number.{Key, Item}

-- ---- numbers

-- the byte of a digit: `0` to `9`, then `a` to `f`
unfoldable pub digit_text : ℕ → ℕ
digit_text d = if ltb d 10 then 48 + d else 87 + d

-- the digits of n in base b without leading zeros, the most significant first, at most k of them
unfoldable pub numeral : ℕ → ℕ → ℕ → List ℕ
numeral b zero n = []
numeral b (suc k) n = if ltb n b then digit_text n ∷ [] else numeral b k (n / b) ++ (digit_text (n % b) ∷ [])

-- a number below 2^64 has at most 20 decimal digits
abbrev pub decimal_digits : ℕ
decimal_digits = 20

abbrev pub decimal : ℕ → List ℕ
decimal n = numeral 10 decimal_digits n

-- a hash has at most 64 hexadecimal digits
abbrev pub hash_digits : ℕ
hash_digits = 64

abbrev pub hexadecimal : ℕ → List ℕ
hexadecimal h = numeral 16 hash_digits h

-- ---- bools, keys, items

abbrev pub bool_text : Bool → List ℕ
bool_text true = 49 ∷ []
bool_text false = 48 ∷ []

-- `t` or `w`
abbrev pub kind_letter : Kind → ℕ
kind_letter Txid = 116
kind_letter Wtxid = 119

unfoldable pub key_text : Key → List ℕ
key_text k = kind_letter k.kind ∷ hexadecimal k.hash

-- `t`, `v` or `w`; `o`, the type and `:`
abbrev pub item_kind_text : ItemKind → List ℕ
item_kind_text Transaction = 116 ∷ []
item_kind_text WitnessTransaction = 118 ∷ []
item_kind_text WTx = 119 ∷ []
item_kind_text (Other n) = 111 ∷ (decimal n ++ (58 ∷ []))

unfoldable pub item_text : Item → List ℕ
item_text i = item_kind_text i.kind ++ hexadecimal i.hash

-- ---- fields parted by commas

unfoldable pub joined : List (List ℕ) → List ℕ
joined [] = []
joined (t ∷ []) = t
joined (t ∷ u ∷ ts) = t ++ (44 ∷ joined (u ∷ ts))
