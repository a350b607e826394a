-- `public_plans::arrangements::part` meets its contract: two searches, by sending/proofs/Parting.
use Prim.Native.Nat.{ℕ, ◌+◌}
use mathlib.Core.Path.{◌≡◌, refl, sym, ap, ◌∙◌}
use native.Mathlib.Omega.{arith}
use lib.Dec.{ltb}
use lib.ListN.{length}
use Rattle.std.proofs.lemmas.List.{length-map}
use Rattle.machine.specs.State.{Entry}
use Rattle.claiming.specs.Claiming.{entries_in}
use Rattle.sending.specs.Parts.{connections_in}
use Rattle.sending.proofs.Parting.{at_most, between}
use Rattle.public_plans.proofs.Entered.{length-entries}
use Rattle.public_plans.proofs.Parting.{connection_at}
use Rattle.public_plans.proofs.arrangements.part.Goals as goal

pub returns : goal.returns
returns c =
    let b = c.args.list.now in
    let n = c.args.connection in
    let ks = connections_in (entries_in b) in
    let e : c.entries-n.result ≡ length (entries_in b) = c.entries-n.ensures ∙ sym (length-entries b) in
    let long = length-map (entries_in b) (λ (a : Entry). a.candidate.connection) ∙ sym e in
    rw c.saturating_sub.ensures (between n (entries_in b)
    (rw e at (c.lower_bound-first.ensures.bound ks n long (λ i t h p. p ∙ ap (λ (x : ℕ). ltb x n) (connection_at b i (omega arith) refl))))
    (rw e at (c.lower_bound-end.ensures.bound ks (n + 1) long (λ i t h p. p ∙ at_most _ n ∙ ap (λ (x : ℕ). ltb x (n + 1)) (connection_at b i (omega arith) refl)))))
