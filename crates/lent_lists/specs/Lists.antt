-- Lists in lent bytes: hashes given to a call, keys written to its answer buffer (document 01, "Buffer needs in entries").
use Rattle.std.specs.Prelude.{ℕ, ◌/◌, List, length, take, drop}
use Rattle.ident.specs.Number.{Key, kind_is}
use Rattle.ident.specs.Words.{hash_bytes}
use Rattle.words.specs.Words.{number, recs}
use Rattle.machine.specs.Call.{key_bytes}

-- 32 bytes a hash; a rest of fewer bytes is no hash
unfoldable pub hashes_in : List ℕ → List ℕ
hashes_in b = recs hash_bytes (number 256) (length b / hash_bytes) b

-- the key that 40 bytes of an answer buffer hold: the word of its kind, 0 for Txid and else Wtxid, then the hash
unfoldable pub key_in : List ℕ → Key
key_in b = record { kind = kind_is (number 256 (take 8 b)); hash = number 256 (drop 8 b) }

-- the first n keys of an answer buffer
unfoldable pub keys_in : ℕ → List ℕ → List Key
keys_in n b = recs key_bytes key_in n b

-- the keys given to a call, 40 bytes each; a rest of fewer bytes is no key
abbrev pub key_count : List ℕ → ℕ
key_count b = length b / key_bytes

abbrev pub given_keys : List ℕ → List Key
given_keys b = keys_in (key_count b) b
