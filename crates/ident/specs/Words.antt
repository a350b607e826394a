-- The numbers that the declared types stand for: of a hash, of a key, of an item.
use Rattle.std.specs.Prelude.{ℕ, ◌^◌, Some, None}
use Rattle.std.specs.Prelude as Std
use Rattle.std.proofs.Math.Option.{Option, none, some}
use Rattle.words.specs.Words.{number}
use Rattle.ident.specs.declared.Kind.{Kind}
use Rattle.ident.specs.declared.Hash.{Hash}
use Rattle.ident.specs.declared.Key.{Key}
use Rattle.ident.specs.declared.Item.{Item}
use Rattle.ident.specs.Number as N

-- "32 bytes"
abbrev pub hash_bytes : ℕ
hash_bytes = 32

-- the words as digits in base 2^64, the least first
abbrev pub hash_num : Hash → ℕ
hash_num h = number (2 ^ 64) h.words

abbrev pub key_num : Key → N.Key
key_num k = record { kind = k.kind; hash = hash_num k.hash }

abbrev pub item_num : Item → N.Item
item_num i = record { kind = i.kind; hash = hash_num i.hash }

-- what may be missing
abbrev pub maybe_kind : Std.Option Kind → Option Kind
maybe_kind None = none
maybe_kind (Some k) = some k

abbrev pub maybe_key_num : Std.Option Key → Option N.Key
maybe_key_num None = none
maybe_key_num (Some k) = some (key_num k)
