-- The connections of entries in bytes, which two searches look at.
use Prim.Native.Nat.{ℕ, zero, suc, ◌+◌, ◌-◌, ◌*◌, ◌/◌, ◌<◌}
use mathlib.Core.Path.{◌≡◌, sym, ap, ◌∙◌}
use mathlib.Core.List.{List, []}
use native.Mathlib.Omega.{arith}
use lib.ListN.{length, get_or}
use Rattle.words.specs.Words.{words}
use Rattle.machine.specs.Call.{entry_bytes}
use Rattle.claiming.specs.Claiming.{entry_from, entries_from, entries_in}
use Rattle.sending.specs.Parts.{connections_in}
use Rattle.public_plans.proofs.Entered.{length-entries}

connection_from : (b : List ℕ) (i n j : ℕ) → j < n → get_or (connections_in (entries_from b i n)) j 0 ≡ get_or (words b) ((i + j) * 14 + 5) 0
unfolding entries_from entry_from
connection_from b i zero j h = absurd (omega (arith, h))
connection_from b i (suc n) zero h = ap (λ (k : ℕ). get_or (words b) (k * 14 + 5) 0) (omega arith)
connection_from b i (suc n) (suc j) h =
    connection_from b (i + 1) n j (omega (arith, h)) ∙ ap (λ (k : ℕ). get_or (words b) (k * 14 + 5) 0) (let e : i + 1 + j ≡ i + suc j = omega arith in e)

-- the j-th, which the code reads as a word
pub connection_at : (b : List ℕ) (j : ℕ) {c : ℕ} → j < length (entries_in b) → c ≡ get_or (words b) (j * 14 + 5) 0 → c ≡ get_or (connections_in (entries_in b)) j 0
connection_at b j h e =
    let z : j ≡ 0 + j = omega arith in
    e ∙ ap (λ (k : ℕ). get_or (words b) (k * 14 + 5) 0) z ∙ sym (connection_from b 0 (length b / entry_bytes) j (omega (arith, h, length-entries b)))
