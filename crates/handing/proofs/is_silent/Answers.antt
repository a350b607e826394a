use Rattle.ident.specs.Words.{key_num}
use Rattle.handing.proofs.GivingBack.{single-silent}
use Rattle.handing.proofs.is_silent.Goals as goal

pub returns-then-is_single : goal.returns-then-is_single
returns-then-is_single c = λ e st s w o. single-silent st s c.args.n.number (key_num c.args.k) (c.is_single.ensures c.if-is_single.true st s w) o
