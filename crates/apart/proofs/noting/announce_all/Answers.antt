-- `apart::noting::announce_all` meets its contract.
use native.Mathlib.Omega.{arith}
use Rattle.words.specs.Words.{words}
use Rattle.apart.proofs.Delays.{fronts_open}
use Rattle.apart.proofs.InHalves.{half_opens, both_noted}
use Rattle.apart.proofs.noting.announce_all.Goals as goal

pub announce_bits-low-requires : goal.announce_bits-low-requires
announce_bits-low-requires c = let h = c.first_half-e.ensures in (
  fronts_open c.requires c.nothing_listed-q.ensures,
  omega arith,
  omega (arith, h.most),
  h.within,
)

pub announce_bits-high-requires : goal.announce_bits-high-requires
announce_bits-high-requires c = let h = c.first_half-e.ensures in (
  half_opens c.announce_bits-low.ensures (fronts_open c.requires c.nothing_listed-q.ensures),
  h.within,
  h.rest c.args.p.few,
  omega arith,
)

pub close-requires : goal.close-requires
close-requires c = half_opens c.announce_bits-high.ensures (half_opens c.announce_bits-low.ensures (fronts_open c.requires c.nothing_listed-q.ensures))

pub returns : goal.returns
returns c = both_noted (words c.args.p.slot.now) c.nothing_listed-q.ensures c.first_half-e.ensures c.announce_bits-low.ensures c.announce_bits-high.ensures
    c.close.ensures.0 c.close.ensures.1
