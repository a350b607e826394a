use borrow.Author.Rules.{rules}
use mathlib.Core.Path.{◌≡◌}
use native.Mathlib.Omega.{arith}
use Prim.Native.Nat.{◌/◌}
use Rattle.words.specs.Words.{words}
use Rattle.regions.proofs.Bits.{as_bit}
use Rattle.store.specs.Flat.{own_bit}
use Rattle.sound_rows.proofs.Groups.{owners_turn, owners_none}
use Rattle.sound_rows.proofs.group.owners.Goals as goal

pub loop-i-preserved : goal.loop-i-preserved
loop-i-preserved c =
    let own : c.from-sum.result ≡ own_bit c.get-r.result = as_bit (c.get-r.result.bits / 8) c.from-sum.ensures c.owns.ensures in
    let t = owners_turn (words c.args.part.rows.bytes.now) c.loop-i.i c.args.part.to (omega arith)
    c.get-r.ensures.words_are in
    (search rules, search rules, omega arith, omega (arith, c.loop-i.invariant.3))

pub returns : goal.returns
returns c = (
  omega (arith, c.loop-i.invariant.3, owners_none (words c.args.part.rows.bytes.now) c.loop-i.i c.args.part.to (omega arith)),
  omega arith,
)
