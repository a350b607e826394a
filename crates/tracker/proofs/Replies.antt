-- No call replies a refusal when it is carried out: one law for all. So a public call replies a refusal just where the machine refuses it, and with that number.
use Prim.Native.Nat.{ℕ, zero, suc}
use mathlib.Core.Path.{◌≡◌, sym, ap}
use mathlib.Core.List.{List}
use lib.Dec.{eqb}
use lib.ListN.{length}
use native.Mathlib.Omega.{arith}
use borrow.Author.Tests.{ne_eqb}
use Rattle.std.specs.Prelude.{if◌then◌else◌}
use Rattle.words.specs.Words.{words}
use Rattle.machine.specs.State.{State}
use Rattle.machine.specs.Call.{Ask, Announce}
use Rattle.machine.specs.Call.{Buffer, Call, Open, Restore, On, refusal}
use Rattle.machine.specs.Step.{Reply, Refused, perform, carry_out, step_if}
use Rattle.store.specs.Read.{state_of}
use Rattle.outcome.specs.Outcome.{outcome_if, Does}

-- r is no refusal
abbrev pub Carried : Reply → Type 0
Carried r = (n : ℕ) → r ≡ Refused n → ⊥

-- of the first call, and the same of each other
performed : (a : Ask) (s : State) → Carried (perform a s).reply
unfolding perform
performed (Announce c) s n e = cc
performed a s n e = cc

pub replies : (c : Call) (s : State) → Carried (carry_out c s).reply
unfolding carry_out
replies (Open L Q) s n e = cc
replies (Restore x) s n e = cc
replies (On a) s n e = performed a s n e

-- ---- of the public calls

-- a reply is the refusal n: then the machine refuses with n, which is not 0
settled : (k : ℕ) (r : Reply) → Carried r → (n : ℕ) → (if eqb k 0 then r else Refused k) ≡ Refused n → (k ≡ n) × (n ≡ 0 → ⊥)
settled zero r h n e = absurd (h n e)
settled (suc k) r h n e =
    let d : Refused (suc k) ≡ Refused n = rw (ne_eqb (suc k) 0 (λ q. omega (arith, q))) at e in
    let q : suc k ≡ n = cc in
    (q, λ z. omega arith)

pub refuses : {c : Call} {b z : List ℕ} {u : Buffer} {n : ℕ} (d : Does c b (record { reply = Refused n; buffer = u; store = z }))
    → (refusal (length b) d.sound c (state_of (words b)) ≡ n) × (n ≡ 0 → ⊥)
unfolding outcome_if step_if
refuses {c} {b} {z} {u} {n} d =
    let s = state_of (words b) in
    settled (refusal (length b) d.sound c s) (carry_out c s).reply (replies c s) n (sym (ap (λ x. x.reply) d.effect))
