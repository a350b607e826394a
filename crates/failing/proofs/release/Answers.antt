use Rattle.ident.specs.Words.{key_num}
use Rattle.failing.proofs.Releasing.{owner-none}
use Rattle.failing.proofs.Forgetting.{nothing_released}
use Rattle.failing.proofs.release.Goals as goal

pub returns-in_default : goal.returns-in_default
returns-in_default c = λ st s w u. nothing_released st s (key_num c.args.k) (owner-none (c.request_at-r.ensures.is st s w) c.in_default.is) w
