-- `apart::noting::announce_bits` meets its contract.
use Prim.Native.Nat.{ℕ, ◌+◌, ◌-◌, ◌^◌}
use mathlib.Core.Path.{sym, ap, ◌∙◌}
use native.Mathlib.Omega.{arith}
use Rattle.words.specs.Words.{words}
use Rattle.apart.proofs.Notes.{weight_next, one_most, shifted}
use Rattle.apart.proofs.InHalves.{way_opens, way_goes, way-ends}
use Rattle.apart.proofs.noting.announce_bits.Goals as goal

pub announce-kept-requires : goal.announce-kept-requires
announce-kept-requires c = way_opens (words c.args.p.slot.now)
    c.args.p.connection.number c.args.p.clock
    c.args.from c.args.to
    c.loop-j.invariant.3 c.parent.ensures c.requires.0

pub loop-j-preserved : goal.loop-j-preserved
loop-j-preserved c =
    let k = c.loop-j.j - c.args.from in
    let bit = shifted k c.announce-kept.result (omega (arith, c.loop-j.invariant.0, c.loop-j-test.true, c.requires.2)) c.from.ensures in
    let next = weight_next c.args.from c.loop-j.j c.loop-j.invariant.0.0 in (
      (omega (arith, c.loop-j.invariant.0), omega (arith, c.loop-j-test.true)),
      c.announce-kept.auto.s ∙ c.loop-j.invariant.1,
      (let y = one_most (2 ^ k) c.announce-kept.result in omega (arith, y, bit, next, c.loop-j.invariant.2)),
      rw (sym next) (way_goes (words c.args.p.slot.now) c.args.p.connection.number c.args.p.clock c.args.from c.args.to c.loop-j.invariant.3 c.loop-j-test.true c.parent.ensures
          c.announce-kept.ensures (ap (λ (x : ℕ). c.loop-j.bits + x) bit)),
    )

pub returns : goal.returns
returns c = way-ends (words c.args.p.slot.now) c.args.p.connection.number
    c.args.p.clock c.args.from
    c.args.to c.loop-j.invariant.3 (omega (arith, c.loop-j.invariant.0, c.loop-j-test.false))
