-- claim: what it needs, and what it leaves.
use Prim.Native.Nat.{ℕ, ◌*◌}
use mathlib.Core.Path.{◌≡◌, refl, ap, ◌∙◌}
use mathlib.Core.List.{List, [], ◌∷◌, ◌++◌}
use lib.ListN.{length, take, drop}
use Rattle.machine.specs.State.{Entry}
use Rattle.machine.specs.Claim.{claim}
use Rattle.machine.specs.Typed.{Each}
use Rattle.machine.specs.Call.{Buffer, Claim, On, entry_bytes, named, takes_place}
use Rattle.machine.specs.Step.{Entries, perform, entries_answer, written}
use Rattle.store.specs.Image.{SoundStore, Bytes}
use Rattle.claiming.specs.Claiming.{entries_from, Claims}
use Rattle.outcome.specs.Outcome.{Does}
use Rattle.outcome.specs.Tests.{in_turn}
use Rattle.outcome.specs.Lent.{Lent}
use Rattle.outcome.proofs.Carried.{Names, passes, front_writes, does_front}
use Rattle.public_plans.proofs.Entered.{Whole, entries_back, claim_whole}

module _ (clock : ℕ) (l : List Entry) where
  pub claims : (u : Buffer) → Names (Claim clock l u) [] (clock ∷ []) 0 u (λ s. entry_bytes * length l)
  unfolding named takes_place
  claims u = record { are = λ s. refl; placeless = λ s. refl }

  pub claims_done : {u : Buffer} {b : List ℕ} (v : SoundStore b) → Each Whole l → 0 ≡ in_turn [] (clock ∷ []) 0 (length u) (entry_bytes * length l) → {m : ℕ} → Lent b m
      → {p : List ℕ} → Bytes (p ++ drop m b) → {u' : List ℕ} {n : ℕ} → Claims (take m b) p u u' clock l n
      → Does (On (Claim clock l u)) b (record { reply = Entries (entries_from u' 0 n); buffer = u'; store = p ++ drop m b })
  unfolding named perform
  claims_done {u} v w q e {p} h {u'} {n} g =
      let x = front_writes v e in
      let s = v.state in
      let taken = (claim clock l s.table).entries in
      let bytes : u' ≡ written (entries_answer taken) u = g.entries s v.sound x in
      let count : n ≡ length taken = g.count s v.sound x in
      let is : entries_from u' 0 n ≡ taken = (λ i. entries_from (bytes i) 0 (count i)) ∙ entries_back taken u (claim_whole clock l s.table w) in
      does_front v e (Claim clock l u) (passes (claims u) v q) p h _ u' (ap Entries is) bytes (g.table s v.sound x)
