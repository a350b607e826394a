-- `apart::noting::announce_bits` meets its contract.
use Prim.Native.Nat.{◌-◌, ◌^◌, ◌≤◌, ◌<◌}
use mathlib.Core.Path.{◌≡◌}
use lib.ListN.{length}
use Rattle.words.specs.Words.{words}
use Rattle.parenting.specs.Displacing.{reserve_of}
use Rattle.apart.specs.Delayed.{delay_of}
use Rattle.apart.proofs.InHalves.{Way}
use Rattle.apart.proofs.noting.announce_bits.Given as goal

abbrev pub invariant-loop-j : goal.invariant-loop-j
invariant-loop-j l =
    ((l.from ≤ l.j) × (l.j ≤ l.to)) × (length l.s ≡ length l.initial.s) × (l.bits < 2 ^ (l.j - l.from))
    × Way (words l.p.slot.now) l.p.connection.number l.p.clock l.from l.to l.initial.s (words l.initial.q.listed.bytes) (delay_of l.initial.delayed)
    (reserve_of l.initial.q) l.s (words l.q.listed.bytes) (delay_of l.delayed) (reserve_of l.q) l.j l.bits (2 ^ (l.j - l.from))
