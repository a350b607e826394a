-- The arguments of an exported call have their widths, as those of the public call have (crates/tracker, proofs/Typed).
use Prim.Native.Nat.{ℕ, ◌<◌}
use mathlib.Core.Path.{◌≡◌}
use mathlib.Core.Bool.{Bool}
use mathlib.Core.List.{List}
use lib.ListN.{length}
use Rattle.ident.specs.Number.{top}
use Rattle.ident.specs.Words.{hash_bytes}
use Rattle.words.specs.Words.{number}
use Rattle.words.proofs.Digits.{number_below}
use Rattle.machine.specs.Limits.{word}
use Rattle.machine.specs.Typed.{KeyTyped, CandidateTyped}
use Rattle.store.specs.Image.{Bytes}
use Rattle.crossing.specs.Arguments.{candidate_in, key_given}

hash-small : (h : List ℕ) → length h ≡ hash_bytes → Bytes h → number 256 h < top
unfolding top
hash-small h l p = rw l at (number_below 256 h (λ i g. p i))

pub candidate_in_typed : (n type : ℕ) (h : List ℕ) (ready : ℕ) (preferred : Bool) (priority : ℕ) → n < word → length h ≡ hash_bytes → Bytes h → ready < word → priority < word
    → CandidateTyped (candidate_in n type h ready preferred priority)
candidate_in_typed n type h ready preferred priority a l p b c = record { connection = a; hash = hash-small h l p; ready = b; priority = c }

pub key_given_typed : (kind : ℕ) (h : List ℕ) → length h ≡ hash_bytes → Bytes h → KeyTyped (key_given kind h)
key_given_typed kind h l p = hash-small h l p
