-- Owners of many hashes in one walk (document 02, request e).
use Rattle.std.specs.Prelude.{ℕ, ◌+◌, max, Bool, true, false, ◌&&◌, List, [], ◌∷◌, map, ltb, leb}
use Rattle.std.proofs.Math.Option.{Option, none, some}
use Rattle.ident.specs.Number.{Key, txid, wtxid}
use Rattle.machine.specs.State.{Owner, Table}
use Rattle.machine.specs.Table.{at, keys, one}

-- "the owned kind, connection and deadline": the kind stands in the key, whose hash is the one that was asked for
pub record Holding : Type 0 where
  pub key : Key
  pub connection : ℕ
  pub deadline : ℕ

abbrev pub holding_as : Key → Option Owner → Option Holding
holding_as k none = none
holding_as k (some o) = some (record { key = k; connection = o.connection; deadline = o.deadline })

abbrev pub or_holding : Option Holding → Option Holding → Option Holding
or_holding none y = y
or_holding (some a) y = some a

-- the owner at a hash, over both kinds, whatever its deadline: no clock is given. A sound state has one at the most.
unfoldable pub holding_at : Table → ℕ → Option Holding
holding_at t h = or_holding (holding_as (txid h) (at (txid h) t).owner) (holding_as (wtxid h) (at (wtxid h) t).owner)

-- "for each, the owned kind, connection and deadline, or none"
abbrev pub holdings : List ℕ → Table → List (Option Holding)
holdings hs t = map (holding_at t) hs

-- "in strictly ascending order"
unfoldable pub ascending : List ℕ → Bool
ascending [] = true
ascending (h ∷ []) = true
ascending (h ∷ (g ∷ hs)) = ltb h g && ascending (g ∷ hs)

-- "the greatest hash in the list"
unfoldable pub greatest_hash : ℕ → List ℕ → ℕ
greatest_hash h [] = h
greatest_hash h (g ∷ hs) = greatest_hash (max h g) hs

-- how many of these keys have a hash "not above" h
unfoldable pub keys_up_to : ℕ → List Key → ℕ
keys_up_to h [] = 0
keys_up_to h (k ∷ ks) = one (leb k.hash h) + keys_up_to h ks

-- "exactly the held keys whose hash is not above the greatest hash in the list, so 0 for an empty list"
unfoldable pub passed : List ℕ → Table → ℕ
passed [] t = 0
passed (h ∷ hs) t = keys_up_to (greatest_hash h hs) (keys t)
