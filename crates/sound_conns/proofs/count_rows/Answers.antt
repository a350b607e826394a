use Prim.Native.Nat.{◌/◌}
use borrow.Author.Rules.{rules}
use native.Mathlib.Omega.{arith}
use mathlib.Core.Path.{◌≡◌, refl, ◌∙◌}
use Rattle.words.specs.Words.{words}
use Rattle.regions.proofs.Bits.{as_bit}
use Rattle.store.specs.Flat.{own_bit}
use Rattle.sound_conns.proofs.Tally.{tallied_none, tallied_turn, tallied_stop}
use Rattle.sound_conns.proofs.count_rows.Goals as goal

pub loop-i-init : goal.loop-i-init
loop-i-init c = (omega arith, refl, tallied_none _ _ _ _ _ _ _ c.requires.1)

pub returns-then-not-take_row : goal.returns-then-not-take_row
returns-then-not-take_row c =
    let own : c.from-own.result ≡ own_bit c.get-r.result = as_bit (c.get-r.result.bits / 8) c.from-own.ensures c.owns.ensures in
    let b = rw own at c.if-not-take_row.ensures in (
      λ o. tallied_stop _ _ (words c.args.rows.bytes.now) _ _ _ c.loop-i.i _ _ c.get-r.ensures.words_are c.loop-i.invariant.2 c.args.rows.count (omega arith) (rw b.1 at o) b.0,
      b.1 ∙ c.loop-i.invariant.1,
    )

pub loop-i-preserved : goal.loop-i-preserved
loop-i-preserved c =
    let own : c.from-own.result ≡ own_bit c.get-r.result = as_bit (c.get-r.result.bits / 8) c.from-own.ensures c.owns.ensures in
    let b = rw own at c.if-not-take_row.ensures in (
      search rules,
      b.1 ∙ c.loop-i.invariant.1,
      tallied_turn _ _ (words c.args.rows.bytes.now) _ _ _ c.loop-i.i _ _ c.get-r.ensures.words_are c.loop-i.invariant.2 _ b.1 b.0,
    )
