-- What the arguments of an exported call stand for.
use Rattle.std.specs.Prelude.{ℕ, Bool, List}
use Rattle.ident.specs.Number.{Key, kind_is, item_kind_of}
use Rattle.words.specs.Words.{number}
use Rattle.machine.specs.State.{Candidate}

-- a hash: by 32 bytes, "byte 31 the most significant"
abbrev pub hash_given : List ℕ → ℕ
hash_given hash = number 256 hash

-- a candidate: the item by its type number
abbrev pub candidate_in : ℕ → ℕ → List ℕ → ℕ → Bool → ℕ → Candidate
candidate_in connection type hash ready preferred priority =
    record { connection = connection; item = record { kind = item_kind_of type; hash = hash_given hash }; ready = ready; preferred = preferred; priority = priority }

-- a key: its kind by a number that is 0 for Txid and else Wtxid, as in answer buffers
abbrev pub key_given : ℕ → List ℕ → Key
key_given kind hash = record { kind = kind_is kind; hash = hash_given hash }
