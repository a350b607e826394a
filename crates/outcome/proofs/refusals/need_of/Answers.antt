-- `outcome::refusals::need_of` meets its contract: L and Q of the header are those of the state.
use mathlib.Core.Path.{◌∙◌}
use native.Mathlib.Omega.{arith}
use Rattle.outcome.proofs.Header.{head-inside, limit-word, places-word}
use Rattle.outcome.proofs.Carried.{lent}
use Rattle.outcome.proofs.refusals.need_of.Goals as goal

pub limit-l-requires : goal.limit-l-requires
limit-l-requires c = head-inside c.args.s.now c.requires

pub places-q-requires : goal.places-q-requires
places-q-requires c = head-inside c.args.s.now c.requires

pub need-requires : goal.need-requires
need-requires c =
    let w = c.requires in
    let b = c.args.s.now in
    (omega (arith, c.limit-l.ensures.word, limit-word b w, w.sound.most-limit), omega (arith, c.places-q.ensures.word, places-word b w, w.sound.most-places))

pub returns : goal.returns
returns c =
    let b = c.args.s.now in
    lent c.requires (λ w. c.need.ensures ∙ rw (c.limit-l.ensures.word ∙ limit-word b w, c.places-q.ensures.word ∙ places-word b w))
