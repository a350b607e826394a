-- The wrappers as instances of crates/outcome/proofs/Carried.
use Prim.Native.Nat.{ℕ, ◌+◌, ◌*◌}
use mathlib.Core.Path.{refl}
use mathlib.Core.Bool.{Bool}
use mathlib.Core.List.{List, [], ◌∷◌}
use lib.ListN.{length}
use Rattle.ident.specs.Number.{Item}
use Rattle.machine.specs.Limits.{max_parents}
use Rattle.machine.specs.State.{done}
use Rattle.machine.specs.Wrapper.{Offer, announce_transactions, response_completed, not_found}
use Rattle.machine.specs.Call.{Buffer, AnnounceTransactions, TransactionResponseCompleted, TransactionNotFound, named, takes_place}
use Rattle.machine.specs.Step.{perform}
use Rattle.outcome.proofs.Carried.{YesNo, Lists}

pub announces-transactions : (n clock : ℕ) (p v : Bool) (os : List Offer)
    → YesNo (AnnounceTransactions n clock p v os) (n ∷ []) (clock ∷ []) (λ m t. done (announce_transactions m n clock p v os t))
unfolding named takes_place perform
announces-transactions n clock p v os = record { names = record { are = λ s. refl; placeless = λ s. refl }; performs = λ s. refl }

pub completes : (n x w clock : ℕ) → YesNo (TransactionResponseCompleted n x w clock) (n ∷ []) (clock ∷ []) (λ m t. done (response_completed n x w clock t))
unfolding named takes_place perform
completes n x w clock = record { names = record { are = λ s. refl; placeless = λ s. refl }; performs = λ s. refl }

pub misses : (n : ℕ) (l : List Item) (clock : ℕ) (u : Buffer)
    → Lists (TransactionNotFound n l clock u) (n ∷ []) (clock ∷ []) 0 u (λ s. length l + max_parents * s.places) (λ m t. not_found m n clock l t)
unfolding named takes_place perform
misses n l clock u = record { names = record { are = λ s. refl; placeless = λ s. refl }; performs = λ s. refl }
