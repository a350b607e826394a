-- What is accepted on event lines and in listings (docs/EVENTS.md, "Lines and fields"): the values of fields, none for a field of another form.
use Rattle.std.specs.Prelude.{ℕ, zero, suc, ◌+◌, ◌-◌, ◌*◌, ◌^◌, Bool, true, false, ◌&&◌, List, [], ◌∷◌, ◌++◌, ltb, leb, eqb, length, drop, if◌then◌else◌}
use Rattle.std.proofs.Math.Option.{Option, none, some}
use Rattle.ident.specs.declared.Kind.{Kind}
use Rattle.ident.specs.declared.Kind.TheVariants.{Txid, Wtxid}
use Rattle.ident.specs.declared.ItemKind.{ItemKind}
use Rattle.ident.specs.declared.ItemKind.TheVariants.{Transaction, WitnessTransaction, WTx, Other}
use Rattle.ident.specs.Number.{Key, Item, top, is_plain}

-- ---- numbers

-- the digit of a byte; 16 for a byte that is none
unfoldable pub digit_of : ℕ → ℕ
digit_of c = if leb 48 c && leb c 57 then c - 48 else if leb 97 c && leb c 102 then c - 87 else 16

-- whether the byte c may follow the digits of a in a number below m: no digit follows a 0
abbrev pub follows : ℕ → ℕ → ℕ → ℕ → Bool
follows b m a c = ltb 0 a && (ltb (digit_of c) b && ltb (a * b + digit_of c) m)

unfoldable pub further : ℕ → ℕ → ℕ → List ℕ → Option ℕ
further b m a [] = some a
further b m a (c ∷ cs) = if follows b m a c then further b m (a * b + digit_of c) cs else none

-- the number below m that the digits in base b write, the most significant first, without leading zeros
unfoldable pub numeral_of : ℕ → ℕ → List ℕ → Option ℕ
numeral_of b m [] = none
numeral_of b m (c ∷ cs) = if ltb (digit_of c) b then further b m (digit_of c) cs else none

-- "decimal, below 2^64, no sign, no leading zero"
abbrev pub number_of : List ℕ → Option ℕ
number_of f = numeral_of 10 (2 ^ 64) f

-- the type of an other item
abbrev pub type_of : List ℕ → Option ℕ
type_of f = numeral_of 10 (2 ^ 32) f

-- "lower-case hexadecimal without leading zeros, `0` for zero, at most 64 digits"
abbrev pub hash_of : List ℕ → Option ℕ
hash_of f = numeral_of 16 top f

-- ---- bools, keys, items

-- "`0` or `1`"
unfoldable pub bool_of : List ℕ → Option Bool
bool_of [] = none
bool_of (c ∷ []) = if eqb c 48 then some false else if eqb c 49 then some true else none
bool_of (c ∷ d ∷ f) = none

-- "`t` (Txid) or `w` (Wtxid)"
abbrev pub kind_of : ℕ → Option Kind
kind_of c = if eqb c 116 then some Txid else if eqb c 119 then some Wtxid else none

abbrev pub key_with : Option Kind → Option ℕ → Option Key
key_with none h = none
key_with (some k) none = none
key_with (some k) (some h) = some (record { kind = k; hash = h })

unfoldable pub key_of : List ℕ → Option Key
key_of [] = none
key_of (c ∷ f) = key_with (kind_of c) (hash_of f)

-- the bytes before the first x, and those behind it
unfoldable pub before : ℕ → List ℕ → List ℕ
before x [] = []
before x (c ∷ f) = if eqb c x then [] else c ∷ before x f

unfoldable pub behind : ℕ → List ℕ → List ℕ
behind x f = drop (length (before x f) + 1) f

abbrev pub item_with : Option ItemKind → Option ℕ → Option Item
item_with none h = none
item_with (some k) none = none
item_with (some k) (some h) = some (record { kind = k; hash = h })

-- "`t`, `v` or `w`"
abbrev pub letter_kind : ℕ → Option ItemKind
letter_kind c = if eqb c 116 then some Transaction else if eqb c 118 then some WitnessTransaction else if eqb c 119 then some WTx else none

-- "The type is below 2^32 and none of 1, 5 and 1073741825."
abbrev pub other_kind : Option ℕ → Option ItemKind
other_kind none = none
other_kind (some n) = if is_plain (Other n) then some (Other n) else none

-- "`o`, a type number, `:` and a hash": what stands behind the `o`
abbrev pub other_of : List ℕ → Option Item
other_of f = item_with (other_kind (type_of (before 58 f))) (hash_of (behind 58 f))

unfoldable pub item_of : List ℕ → Option Item
item_of [] = none
item_of (c ∷ f) = if eqb c 111 then other_of f else item_with (letter_kind c) (hash_of f)

-- ---- a line's fields

-- whether two texts are one
unfoldable pub same_text : List ℕ → List ℕ → Bool
same_text [] [] = true
same_text [] (b ∷ t) = false
same_text (a ∷ s) [] = false
same_text (a ∷ s) (b ∷ t) = eqb a b && same_text s t

unfoldable pub push : ℕ → List (List ℕ) → List (List ℕ)
push c [] = (c ∷ []) ∷ []
push c (f ∷ fs) = (c ∷ f) ∷ fs

-- "fields parted by commas": an empty line is one empty field
unfoldable pub fields : List ℕ → List (List ℕ)
fields [] = [] ∷ []
fields (c ∷ l) = if eqb c 44 then [] ∷ fields l else push c (fields l)

-- the fields from index p of a line on; none past its end
unfoldable pub rest : List ℕ → ℕ → List (List ℕ)
rest l p = if leb p (length l) then fields (drop p l) else []

-- ---- one field after the other

abbrev pub with_value : {A B : Type 0} → Option A → (A → Option B) → Option B
with_value none k = none
with_value (some v) k = k v

-- the first field is a value, and what k makes of it and of the other fields
unfoldable pub taking : {A B : Type 0} → (List ℕ → Option A) → (A → List (List ℕ) → Option B) → List (List ℕ) → Option B
taking read k [] = none
taking read k (f ∷ fs) = with_value (read f) (λ v. k v fs)

-- no field is left
abbrev pub ending : {B : Type 0} → Option B → List (List ℕ) → Option B
ending o [] = o
ending o (f ∷ fs) = none

-- "list: its length as a number, then so many elements": n elements more behind those of xs, each of one field or of several
unfoldable pub elements_then : {A B : Type 0} → ((A → List (List ℕ) → Option B) → List (List ℕ) → Option B) → ℕ → List A → (List A → List (List ℕ) → Option B) → List (List ℕ) → Option B
elements_then read zero xs k fs = k xs fs
elements_then read (suc n) xs k fs = read (λ x. elements_then read n (xs ++ (x ∷ [])) k) fs
