use Rattle.ident.specs.Words.{key_num}
use Rattle.failing.proofs.Releasing.{named_positive}
use Rattle.claims.proofs.hand_on.Goals as goal

pub invariant_of-n : goal.invariant_of-n
invariant_of-n c = record {
  positive = named_positive (key_num c.args.k) (λ st s w. c.request_at-r.ensures.is st s w) c.requires c.in-Some.is;
}
