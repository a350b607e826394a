-- `regions::numbered_less` meets its contract: by the numbers for kinds, and under one number by the hashes.
use native.Mathlib.Omega.{arith}
use mathlib.Core.Path.{◌∙◌}
use Rattle.regions.proofs.Numbered.{apart_numbered, same_numbered}
use Rattle.regions.proofs.numbered_less.Goals as goal

pub returns-then-a-b : goal.returns-then-a-b
returns-then-a-b c =
    apart_numbered c.args.a.0 c.args.b.0 c.args.a.1 c.args.b.1 (omega arith) (omega arith) c.if-a-b.true

pub returns : goal.returns
returns c = c.quad_less.ensures ∙ same_numbered c.args.a.0 c.args.b.0 c.args.a.1 c.args.b.1 c.if-a-b.false
