use borrow.Author.Rules.{rules}
use borrow.Author.Count.{below_more}
use native.Mathlib.Omega.{arith}
use Rattle.words.specs.Words.{words, recs}
use Rattle.regions.specs.Rows.{row_size, read_row}
use Rattle.sound.specs.Places.{PlaceSound, place_at, PlaceFollows}
use Rattle.sound.proofs.PlaceWalk.{places_made, place_of, follow_iff, place-lent}
use Rattle.sound.proofs.place.places_fit.Goals as goal

pub returns-then-not-place_fits : goal.returns-then-not-place_fits
returns-then-not-place_fits c = λ r z. (rw (place-lent c.args.s.now c.loop-i.i (omega arith)) at (c.if-not-place_fits.ensures r))
    (place_of _ c.args.q c.args.s.now c.requires z c.loop-i.i (omega arith))

pub returns-then-not-place_follows : goal.returns-then-not-place_follows
returns-then-not-place_follows c = λ _ z. c.if-not-place_follows.ensures ((follow_iff c.args.q (words c.args.s.now)).from z.ascend c.loop-i.i (omega arith))

pub loop-i-preserved : goal.loop-i-preserved
loop-i-preserved c =
    let w = words c.args.s.now in
    let rs = recs row_size read_row c.args.rows.count (words c.args.rows.bytes.now) in (
      search rules,
      (λ r. below_more (λ k. PlaceSound rs (place_at w k)) c.loop-i.i (c.loop-i.invariant.1 r)
          (rw (place-lent c.args.s.now c.loop-i.i (omega arith)) at (c.if-not-place_fits.ensures r))),
      below_more (λ k. PlaceFollows w k) c.loop-i.i c.loop-i.invariant.2 c.if-not-place_follows.ensures,
    )

pub returns : goal.returns
returns c = λ r. places_made _ c.args.q c.args.s.now c.requires (λ k l. c.loop-i.invariant.1 r k (omega arith)) (λ k l. c.loop-i.invariant.2 k (omega arith))
