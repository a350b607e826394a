use Rattle.std.proofs.Common.{rules}
use Rattle.words.proofs.Zeros.{cleared}
use Rattle.words.proofs.clear.Goals as goal

pub returns : goal.returns
returns c = cleared c.args.s.now c.fill.new.self c.args.a c.args.d c.requires (c.fill.ensures.after (λ y e. search rules))
