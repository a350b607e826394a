-- `wrapping::offering::announce_transactions` meets its contract.
use Prim.Native.Nat.{ℕ, ◌-◌, ◌≤◌}
use mathlib.Core.Path.{◌≡◌}
use mathlib.Core.Bool.{Bool}
use mathlib.Core.List.{List}
use lib.Dec.{leb}
use lib.ListN.{length}
use Rattle.ident.specs.declared.connection.Connection.{Connection}
use Rattle.machine.specs.declared.clock.Clock.{Clock}
use Rattle.machine.specs.Limits.{max_in_flight}
use Rattle.machine.specs.Table.{owned_by}
use Rattle.lent_lists.specs.Items.{offers_in}
use Rattle.requests.specs.Changes.{Tells}
use Rattle.wrapping.specs.declared.offering.Terms.{Terms}
use Rattle.wrapping.proofs.Batching.{Batched}
use Rattle.wrapping.proofs.offering.announce_transactions.Given as goal

-- the terms of the batch
abbrev pub terms : Connection → Clock → Bool → Bool → Bool → Terms
terms n clock preferred source late = record { connection = n; clock = clock; preferred = preferred; source = source; late = late }

abbrev pub invariant-loop-i : goal.invariant-loop-i
invariant-loop-i l = (length l.s ≡ length l.initial.s) × (l.i ≤ length (offers_in l.items l.priorities))
    × ((u : List ℕ) → Tells u (λ t. l.late ≡ leb max_in_flight (owned_by l.fn.n.number t))
    → Batched (terms l.fn.n l.fn.clock l.fn.preferred l.fn.source l.late) (offers_in l.items l.priorities) u l.initial.s l.initial.i
    → Batched (terms l.fn.n l.fn.clock l.fn.preferred l.fn.source l.late) (offers_in l.items l.priorities) u l.s l.i)

abbrev pub decreases-loop-i : goal.decreases-loop-i
decreases-loop-i l = length (offers_in l.items l.priorities) - l.i
