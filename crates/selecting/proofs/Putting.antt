-- Entries of remembered rows written to an answer.
use Prim.Native.Nat.{ℕ, suc, ◌+◌, ◌*◌, ◌≤◌, ◌<◌}
use mathlib.Core.Path.{◌≡◌, sym, ap, ◌∙◌}
use mathlib.Core.List.{List}
use native.Mathlib.Omega.{arith}
use lib.ListN.{length, get_or, take}
use lib.Seq.{length-take-le, take-suc}
use Rattle.regions.specs.declared.Row.{Row}
use Rattle.words.specs.Words.{splice}
use Rattle.machine.specs.State.{Entry}
use Rattle.machine.specs.Call.{entry_bytes}
use Rattle.machine.specs.Step.{entry_answer, entries_answer, written}
use Rattle.announcing.specs.Evicts.{entry_at}
use Rattle.claiming.proofs.Stored.{written_more}
use Rattle.selecting.specs.Selecting.{Numbered}

-- one more of the entries whose rows' numbers are p
pub puts_more : (rs : List Row) (l : List Entry) (p u₀ : List ℕ) {u u' : List ℕ} (n j : ℕ) (e : Entry) (r : Row) → n ≡ length l → j < n
    → ((k : ℕ) (d : Entry) → k < n → Numbered rs (get_or p k 0) (get_or l k d)) → r ≡ get_or rs (get_or p j 0) r → e ≡ entry_at r → u ≡ written (entries_answer (take j l)) u₀
    → u' ≡ splice u (entry_bytes * j) (entry_answer e) → entry_bytes * n ≤ length u₀ → u' ≡ written (entries_answer (take (j + 1) l)) u₀
puts_more rs l p u₀ {u} n j e r long h numbers q f x y room =
    let a = get_or l j (entry_at r) in
    let is : e ≡ a = f ∙ ap entry_at q ∙ (numbers j (entry_at r) h).entry_is r in
    let m : length (take j l) ≡ j = length-take-le j l (omega (arith, long)) in
    let s : suc j ≡ j + 1 = omega arith in
    y ∙ rw (x, is) (ap (λ (i : ℕ). splice (written (entries_answer (take j l)) u₀) (entry_bytes * i) (entry_answer a)) (sym m))
    ∙ written_more (take j l) a u₀ (omega (arith, m))
    ∙ ap (λ (z : List Entry). written (entries_answer z) u₀) (sym (take-suc l j (entry_at r) (omega (arith, long))) ∙ ap (λ (i : ℕ). take i l) s)
