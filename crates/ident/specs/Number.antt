-- Hashes, keys and items with the hash as a number (document 01, "What a state holds").
use Rattle.std.specs.Prelude.{ℕ, zero, suc, ◌+◌, ◌^◌, Bool, true, false, ◌||◌, eqb, if◌then◌else◌}
use Rattle.std.proofs.Math.Option.{Option, none, some}
use Rattle.ident.specs.declared.Kind.{Kind}
use Rattle.ident.specs.declared.Kind.TheVariants.{Txid, Wtxid}
use Rattle.ident.specs.declared.ItemKind.{ItemKind}
use Rattle.ident.specs.declared.ItemKind.TheVariants.{Transaction, WitnessTransaction, WTx, Other}

-- A hash is 32 bytes, so a number below 2^256. (Kept shut: omega reads no numeral of 78 digits.)
unfoldable pub top : ℕ
top = 2 ^ 256

-- "A key is a hash as Txid or as Wtxid."
pub record Key : Type 0 where
  pub kind : Kind
  pub hash : ℕ

abbrev pub txid : ℕ → Key
txid h = record { kind = Txid; hash = h }

abbrev pub wtxid : ℕ → Key
wtxid h = record { kind = Wtxid; hash = h }

-- a kind as a number, where rows and answers have one
abbrev pub kind_number : Kind → ℕ
kind_number Txid = 0
kind_number Wtxid = 1

-- and back: any other number than 0 is read as Wtxid's
abbrev pub kind_is : ℕ → Kind
kind_is zero = Txid
kind_is (suc n) = Wtxid

-- "A Txid and a Wtxid of equal bytes are two identities of one hash": the other one.
abbrev pub swap : Kind → Kind
swap Txid = Wtxid
swap Wtxid = Txid

abbrev pub other : Key → Key
other k = record { kind = swap k.kind; hash = k.hash }

-- "ordered by number", "every Txid key before every Wtxid key": a key's place in the order of keys
abbrev pub base : Kind → ℕ
base Txid = 0
base Wtxid = top

abbrev pub place : Key → ℕ
place k = base k.kind + k.hash

-- "An item is t, v, w or other with its type number."
pub record Item : Type 0 where
  pub kind : ItemKind
  pub hash : ℕ

-- "t (Transaction, type 1), v (WitnessTransaction, 0x40000001, BIP 144), w (WTx, 5, BIP 339) or other"
abbrev pub type_of : ItemKind → ℕ
type_of Transaction = 1
type_of WitnessTransaction = 1073741825
type_of WTx = 5
type_of (Other n) = n

-- "never one of those three": a type number decides the kind
abbrev pub item_kind_of : ℕ → ItemKind
item_kind_of n = if eqb n 1 then Transaction else if eqb n 1073741825 then WitnessTransaction else if eqb n 5 then WTx else Other n

-- an other item with one of the three numbers is no item
abbrev pub is_plain : ItemKind → Bool
is_plain Transaction = true
is_plain WitnessTransaction = true
is_plain WTx = true
is_plain (Other n) = if eqb n 1 || (eqb n 1073741825 || eqb n 5) then false else true

-- "t and v give the Txid key, w the Wtxid key. An item of any other kind has no key."
abbrev pub kind_of : ItemKind → Option Kind
kind_of Transaction = some Txid
kind_of WitnessTransaction = some Txid
kind_of WTx = some Wtxid
kind_of (Other n) = none

abbrev pub key_as : Option Kind → ℕ → Option Key
key_as none h = none
key_as (some k) h = some (record { kind = k; hash = h })

abbrev pub key_of : Item → Option Key
key_of i = key_as (kind_of i.kind) i.hash
