-- What owners_of does on a sound store: the answers that the walk wrote are the machine's; the store stays.
use Prim.Native.Nat.{ℕ, ◌*◌}
use mathlib.Core.Path.{◌≡◌, refl, sym, ap, ◌∙◌}
use mathlib.Core.Bool.{Bool, true, false, not}
use mathlib.Core.List.{List}
use lib.Dec.{ltb}
use lib.ListN.{length, take}
use Rattle.machine.specs.Limits.{max_asked_hashes}
use Rattle.machine.specs.Claim.{elem}
use Rattle.machine.specs.State.{State}
use Rattle.machine.specs.Owners.{holdings, passed, ascending}
use Rattle.machine.specs.Call.{Buffer, On, OwnersOf, owner_bytes, named, any_late, takes_place, wrong_hashes, late, ask_refusal}
use Rattle.machine.specs.Step.{Refused, Owned, perform, holdings_answer, written}
use Rattle.machine.proofs.Tests.{never, or_right}
use Rattle.store.specs.Image.{SoundStore, Bytes}
use Rattle.owners.specs.Walk.{OwnersListed}
use Rattle.owners.specs.Back.{holdings_in}
use Rattle.owners.proofs.Back.{holdings_back}
use Rattle.outcome.specs.declared.refusal.Refusal.{Refusal}
use Rattle.outcome.specs.Refusals.{number_of}
use Rattle.outcome.specs.Outcome.{Does}
use Rattle.outcome.specs.Tests.{of_connections, of_clocks, of_parents, of_place, of_hashes, hashes_in_turn}
use Rattle.outcome.specs.Lent.{Lent}
use Rattle.outcome.proofs.Turns.{never_none, whole_turn, first_none}
use Rattle.outcome.proofs.Contract.{does-nothing}
use Rattle.outcome.proofs.Carried.{asked-refused, front_writes}

-- hashes that are not refused ascend
pub right_order : (hs : List ℕ) → wrong_hashes hs ≡ false → ascending hs ≡ true
right_order hs e = not_not (ascending hs) (or_right (ltb max_asked_hashes (length hs)) (not (ascending hs)) e)
  where
    not_not : (b : Bool) → not b ≡ false → b ≡ true
    not_not true d = refl
    not_not false d = never (sym d)

-- the need is said in other words
pub sized-hashes : (hs : List ℕ) (long : ℕ) {m n t : ℕ} → t ≡ hashes_in_turn hs long m → m ≡ n → t ≡ hashes_in_turn hs long n
sized-hashes hs long q e = q ∙ ap (λ (x : ℕ). hashes_in_turn hs long x) e

module _ (hs : List ℕ) (u : Buffer) where
  -- 13, then 7
  asked : (s : State) → ask_refusal true (OwnersOf hs u) s ≡ hashes_in_turn hs (length u) (owner_bytes * length hs)
  unfolding named takes_place late of_connections of_clocks of_parents of_place of_hashes elem any_late
  asked s = whole_turn (OwnersOf hs u) s ∙ first_none (hashes_in_turn hs (length u) (owner_bytes * length hs))

  buffer_is : (s : State) → u ≡ (named (OwnersOf hs u) s).buffer
  unfolding named
  buffer_is s = refl

  module _ {b : List ℕ} (v : SoundStore b) where
    pub owners-refused : {t : ℕ} → t ≡ hashes_in_turn hs (length u) (owner_bytes * length hs) → (t ≡ 0 → ⊥) → Does (On (OwnersOf hs u)) b (record { reply = Refused t; buffer = u; store = b })
    owners-refused {t} q = asked-refused (OwnersOf hs u) v (buffer_is v.state) t (q ∙ sym (asked v.state))

    pub owners_refused_by : (e : Refusal) → number_of e ≡ hashes_in_turn hs (length u) (owner_bytes * length hs)
        → Does (On (OwnersOf hs u)) b (record { reply = Refused (number_of e); buffer = u; store = b })
    owners_refused_by e q = owners-refused q (never_none e)

    pub owners_done : 0 ≡ hashes_in_turn hs (length u) (owner_bytes * length hs) → {m : ℕ} → Lent b m → Bytes b → {u' : List ℕ} {n : ℕ} → OwnersListed (take m b) hs u u' n
        → Does (On (OwnersOf hs u)) b (record { reply = Owned n (holdings_in hs u'); buffer = u'; store = b })
    unfolding named perform
    owners_done q e h {u'} {n} g =
        let x = front_writes v e in
        let s = v.state in
        let bytes : u' ≡ written (holdings_answer (holdings hs s.table)) u = g.owners-are s v.sound x in
        let so_many : n ≡ passed hs s.table = g.count s v.sound x in
        let is : holdings_in hs u' ≡ holdings hs s.table = ap (holdings_in hs) bytes ∙ holdings_back s v.sound hs u in
        does-nothing b _ (OwnersOf hs u) v (asked s ∙ sym q) (λ i. Owned (so_many i) (is i)) bytes refl h refl
