-- What the contracts of the readers of lists say.
use Rattle.std.specs.Prelude.{ℕ, ◌+◌, ◌*◌, ◌≤◌, ◌≡◌, true, List, length}
use Rattle.std.specs.Prelude as answer
use denote.Ref.{Bor}
use Rattle.inventory.specs.declared.offers.Offers.{Offers}
use Rattle.std.proofs.Math.Option.{Option, none, some}
use Rattle.ident.specs.declared.ItemKind.{ItemKind}
use Rattle.ident.specs.Number.{Item, is_plain}
use Rattle.words.specs.Words.{number, words, recs}
use Rattle.machine.specs.Wrapper.{Offer}
use Rattle.machine.specs.Call.{Ask, On, key_bytes}
use Rattle.lent_lists.specs.Lists.{given_keys}
use Rattle.lent_lists.specs.Items.{item_bytes, item_in, items_in, paired, offers_in}
use Rattle.machine.specs.Fields.{rest}
use Rattle.reading.specs.Line.{Line, Asks, Send}
use Rattle.reading.specs.Lists.{key_list_call, item_list_call, offers_call, send_line}
use Rattle.reading.specs.Given.{Stored}

-- ---- a list that a call takes

-- what a call with a list makes of the fields that list it
abbrev pub Lister : Type 0 → Type 0
Lister A = (List A → Ask) → List (List ℕ) → Option Line

-- the list behind the comma at index e is xs, in n records of `size` bytes
pub record Held {A : Type 0} (call : Lister A) (l : List ℕ) (e most size : ℕ) (b : List ℕ) (xs : List A) : Type 0 where
  pub n : ℕ
  pub few : n ≤ most
  pub long : length b ≡ n * size
  pub is : (ask : List A → Ask) → call ask (rest l (e + 1)) ≡ some (Asks (On (ask xs)))

-- there is no such list
abbrev pub Unlisted : {A : Type 0} → Lister A → List ℕ → ℕ → Type 0
Unlisted {A} call l e = (ask : List A → Ask) → call ask (rest l (e + 1)) ≡ none

-- the list behind the comma at index e has n elements, those of `first n`
abbrev pub FrontAs : {A : Type 0} → Lister A → List ℕ → ℕ → ℕ → (ℕ → List A) → answer.Option ℕ → Type 0
FrontAs call l e most first answer.None = Unlisted call l e
FrontAs {A} call l e most first (answer.Some n) = (n ≤ most) × ((ask : List A → Ask) → call ask (rest l (e + 1)) ≡ some (Asks (On (ask (first n)))))

pub record Front {A : Type 0} (call : Lister A) (l : List ℕ) (e most : ℕ) (first : ℕ → List A) (r : answer.Option ℕ) : Type 0 where
  pub is : FrontAs call l e most first r

-- ---- keys and items

-- a line of 65,536 bytes has at most 21,845 keys or items: each has at least three bytes, its comma counted
abbrev pub most_listed : ℕ
most_listed = 21845

abbrev pub listed_room : ℕ
listed_room = 873800

abbrev pub KeysAs : List ℕ → ℕ → answer.Option (Bor (List ℕ)) → Type 0
KeysAs l e answer.None = Unlisted key_list_call l e
KeysAs l e (answer.Some b) = Held key_list_call l e most_listed key_bytes b.now (given_keys b.now)

pub record KeysGiven (l : List ℕ) (e : ℕ) (r : answer.Option (Bor (List ℕ))) : Type 0 where
  pub is : KeysAs l e r

-- the first n items of bytes
abbrev pub items_of : ℕ → List ℕ → List Item
items_of n b = recs item_bytes item_in n b

-- one more, if it is none of the three kinds under another type's number
pub record ItemPut (b b' : List ℕ) (i : ℕ) (k : ItemKind) (h : ℕ) : Type 0 where
  pub is : is_plain k ≡ true → Stored item_bytes item_in b b' i (record { kind = k; hash = h })

abbrev pub ItemsAs : List ℕ → ℕ → answer.Option (Bor (List ℕ)) → Type 0
ItemsAs l e answer.None = Unlisted item_list_call l e
ItemsAs l e (answer.Some b) = Held item_list_call l e most_listed item_bytes b.now (items_in b.now)

pub record ItemsGiven (l : List ℕ) (e : ℕ) (r : answer.Option (Bor (List ℕ))) : Type 0 where
  pub is : ItemsAs l e r

-- ---- numbers

-- each has at least two bytes, its comma counted
abbrev pub most_numbers : ℕ
most_numbers = 32768

abbrev pub number_room : ℕ
number_room = 262144

abbrev pub number_bytes : ℕ
number_bytes = 8

-- the first n numbers of bytes
abbrev pub numbers_of : ℕ → List ℕ → List ℕ
numbers_of n b = recs number_bytes (number 256) n b

-- the connections of `send`: the first n numbers of the bytes b
abbrev pub NumbersFrontAs : List ℕ → ℕ → List ℕ → answer.Option ℕ → Type 0
NumbersFrontAs l e b answer.None = send_line (rest l (e + 1)) ≡ none
NumbersFrontAs l e b (answer.Some n) = (n ≤ most_numbers) × (send_line (rest l (e + 1)) ≡ some (Send (numbers_of n b)))

pub record NumbersFront (l : List ℕ) (e : ℕ) (b : List ℕ) (r : answer.Option ℕ) : Type 0 where
  pub is : NumbersFrontAs l e b r

-- the connections of `send`, in n records
pub record NumbersHeld (l : List ℕ) (e : ℕ) (b : List ℕ) : Type 0 where
  pub n : ℕ
  pub few : n ≤ most_numbers
  pub long : length b ≡ n * number_bytes
  pub is : send_line (rest l (e + 1)) ≡ some (Send (words b))

abbrev pub NumbersAs : List ℕ → ℕ → answer.Option (Bor (List ℕ)) → Type 0
NumbersAs l e answer.None = send_line (rest l (e + 1)) ≡ none
NumbersAs l e (answer.Some b) = NumbersHeld l e b.now

pub record NumbersGiven (l : List ℕ) (e : ℕ) (r : answer.Option (Bor (List ℕ))) : Type 0 where
  pub is : NumbersAs l e r

-- ---- items with their priorities

-- a line of 65,536 bytes has at most 13,107 offers: each has at least five bytes, its commas counted
abbrev pub most_offers : ℕ
most_offers = 13107

abbrev pub item_room : ℕ
item_room = 524280

abbrev pub priority_room : ℕ
priority_room = 104856

abbrev pub offers_of : ℕ → List ℕ → List ℕ → List Offer
offers_of n b c = paired (items_of n b) (numbers_of n c)

-- one more of each
pub record OfferPut (b b' c c' : List ℕ) (i : ℕ) (k : ItemKind) (h p : ℕ) : Type 0 where
  pub item : ItemPut b b' i k h
  pub priority : Stored number_bytes (number 256) c c' i p

-- so many items, and a priority for each
pub record OffersHeld (l : List ℕ) (e : ℕ) (o : Offers) : Type 0 where
  pub held : Held offers_call l e most_offers item_bytes o.items.now (offers_in o.items.now o.priorities.now)
  pub paired : length o.priorities.now ≡ held.n * number_bytes

abbrev pub OffersAs : List ℕ → ℕ → answer.Option Offers → Type 0
OffersAs l e answer.None = Unlisted offers_call l e
OffersAs l e (answer.Some o) = OffersHeld l e o

pub record OffersGiven (l : List ℕ) (e : ℕ) (r : answer.Option Offers) : Type 0 where
  pub is : OffersAs l e r
