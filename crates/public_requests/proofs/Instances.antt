-- The calls of this crate as instances of crates/outcome/proofs/Carried.
use Prim.Native.Nat.{ℕ, min, ◌+◌}
use mathlib.Core.Path.{refl}
use mathlib.Core.List.{List, [], ◌∷◌}
use lib.ListN.{length}
use Rattle.ident.specs.Number.{Key}
use Rattle.machine.specs.Limits.{max_parents, max_known_checks}
use Rattle.machine.specs.State.{Candidate, done, with_next_poll, with_known_cursor}
use Rattle.machine.specs.Announce.{announce, request_parent}
use Rattle.machine.specs.Fail.{failed, unclaim, forget, announce_parents}
use Rattle.machine.specs.Package.{failed_with_parents}
use Rattle.machine.specs.Sweep.{last_of}
use Rattle.machine.specs.Wrapper.{due_at, next_poll_after}
use Rattle.machine.specs.Call.{Buffer, Announce, RequestParent, AnnounceParents, Failed, FailedWithParents, Unclaim, Forget, Sweep, PollGate, named, takes_place}
use Rattle.machine.specs.Step.{perform}
use Rattle.sweeping.specs.Batches.{next_batch}
use Rattle.outcome.proofs.Carried.{YesNo, Lists, Answers, Hands}

pub announces : (c : Candidate) → YesNo (Announce c) (c.connection ∷ []) [] (λ m t. announce m c t)
unfolding named takes_place perform
announces c = record { names = record { are = λ s. refl; placeless = λ s. refl }; performs = λ s. refl }

pub requests-parent : (c : Candidate) → YesNo (RequestParent c) (c.connection ∷ []) [] (λ m t. request_parent m c t)
unfolding named takes_place perform
requests-parent c = record { names = record { are = λ s. refl; placeless = λ s. refl }; performs = λ s. refl }

pub announces-parents : (n : ℕ) (hs : List ℕ) (clock : ℕ) (u : Buffer) → Lists (AnnounceParents n hs clock u) (n ∷ []) (clock ∷ []) (length hs) u (λ s. max_parents + 1)
    (λ m t. announce_parents m n clock hs t)
unfolding named takes_place perform
announces-parents n hs clock u = record { names = record { are = λ s. refl; placeless = λ s. refl }; performs = λ s. refl }

pub fails : (k : Key) (n clock : ℕ) → YesNo (Failed k n clock) (n ∷ []) (clock ∷ []) (λ m t. failed k n clock t)
unfolding named takes_place perform
fails k n clock = record { names = record { are = λ s. refl; placeless = λ s. refl }; performs = λ s. refl }

pub fails_with_parents : (k : Key) (n clock : ℕ) (u : Buffer) → Lists (FailedWithParents k n clock u) (n ∷ []) (clock ∷ []) 0 u (λ s. max_parents + 1) (λ m t. failed_with_parents m k n clock t)
unfolding named takes_place perform
fails_with_parents k n clock u = record { names = record { are = λ s. refl; placeless = λ s. refl }; performs = λ s. refl }

pub unclaims : (k : Key) (n : ℕ) → YesNo (Unclaim k n) (n ∷ []) [] (λ m t. done (unclaim k n t))
unfolding named takes_place perform
unclaims k n = record { names = record { are = λ s. refl; placeless = λ s. refl }; performs = λ s. refl }

pub forgets : (k : Key) → YesNo (Forget k) [] [] (λ m t. done (forget k t))
unfolding named takes_place perform
forgets k = record { names = record { are = λ s. refl; placeless = λ s. refl }; performs = λ s. refl }

pub sweeps : (u : Buffer) → Hands (Sweep u) [] [] 0 u (λ s. min max_known_checks s.limit) (λ s. next_batch s) (λ s. with_known_cursor (last_of (next_batch s)) s)
unfolding named takes_place perform
sweeps u = record { names = record { are = λ s. refl; placeless = λ s. refl }; performs = λ s. refl }

pub gates : (clock : ℕ) → Answers (PollGate clock) [] (clock ∷ []) (λ s. due_at clock s.next_poll) (λ s. with_next_poll (next_poll_after clock s.next_poll) s)
unfolding named takes_place perform
gates clock = record { names = record { are = λ s. refl; placeless = λ s. refl }; performs = λ s. refl }
