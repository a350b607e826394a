-- `listed_pairs::pairs_fit` meets its contract. The loop's invariant: the requests that are left pass where all of them do.
use mathlib.Core.Path.{refl}
use Rattle.listed_pairs.proofs.Comparing.{pairs-begin, front_end, back_end}
use Rattle.listed_pairs.proofs.pairs_fit.Goals as goal

pub loop-front-init : goal.loop-front-init
loop-front-init c = (refl, c.first_wtxid-back.ensures.same, pairs-begin c.first_wtxid-back.ensures.first)

pub returns-then-is_empty : goal.returns-then-is_empty
returns-then-is_empty c = let i = c.loop-front.invariant in front_end i.2 (rw i.0 at (c.if-is_empty.ensures.0 refl))

pub returns : goal.returns
returns c = let i = c.loop-front.invariant in back_end i.2 (rw i.1 at (c.loop-front-test.ensures.0 refl))
