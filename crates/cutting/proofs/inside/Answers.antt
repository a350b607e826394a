use native.Mathlib.Omega.{arith}
use mathlib.Core.Path.{◌∙◌}
use Rattle.cutting.proofs.Spans.{within}
use Rattle.cutting.proofs.inside.Goals as goal

pub returns : goal.returns
returns c = c.contains.ensures.value ∙ rw (c.new.ensures.start, c.new.ensures.end, c.new.ensures.exhausted) (within c.args.p.from c.args.p.to c.args.k (omega arith) (omega arith) (omega arith))
