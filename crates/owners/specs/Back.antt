-- What an answer buffer says of the hashes that were asked for.
use Rattle.std.specs.Prelude as rust
use Rattle.std.specs.Prelude.{ℕ, zero, suc, List, [], ◌∷◌, take, drop}
use Rattle.std.proofs.Math.Option.{Option, none, some}
use Rattle.ident.specs.Number.{txid, wtxid}
use Rattle.words.specs.Words.{number}
use Rattle.machine.specs.Owners.{Holding}
use Rattle.machine.specs.Call.{owner_bytes}
use Rattle.owners.specs.declared.Owner.{Owner}

-- three words: 0 none, 1 Txid, 2 Wtxid; then connection and deadline
abbrev pub holding_from : ℕ → ℕ → ℕ → ℕ → Option Holding
holding_from h zero c d = none
holding_from h (suc zero) c d = some (record { key = txid h; connection = c; deadline = d })
holding_from h (suc (suc n)) c d = some (record { key = wtxid h; connection = c; deadline = d })

unfoldable pub holding_in : ℕ → List ℕ → Option Holding
holding_in h b = holding_from h (number 256 (take 8 b)) (number 256 (take 8 (drop 8 b))) (number 256 (take 8 (drop 8 (drop 8 b))))

-- "answers stand in the order of the list", 24 bytes each
unfoldable pub holdings_in : List ℕ → List ℕ → List (Option Holding)
holdings_in [] u = []
holdings_in (h ∷ hs) u = holding_in h u ∷ holdings_in hs (drop owner_bytes u)

-- what is answered of the hash h, if an owner is read
abbrev pub holding_of : ℕ → rust.Option Owner → Option Holding
holding_of h rust.None = none
holding_of h (rust.Some o) = some (record { key = record { kind = o.kind; hash = h }; connection = o.connection; deadline = o.deadline })
