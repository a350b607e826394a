-- `restoring::head_fields::put_head` meets its contract.
use borrow.Author.Rules.{rules}
use mathlib.Core.Path.{refl}
use native.Mathlib.Omega.{arith}
use Rattle.machine.specs.Limits.{need}
use Rattle.restoring.proofs.Headers.{headed, key-over}
use Rattle.restoring.proofs.head_fields.put_head.Goals as goal

pub save-requires : goal.save-requires
unfolding need
save-requires c = omega (arith, c.fill.auto.s, c.requires.2)

pub returns : goal.returns
returns c = headed c.args.h _ c.fill.ensures c.save.ensures.state refl (key-over c.args.h.known _ (λ n k a. search rules) c.map.ensures.cases)
    (key-over c.args.h.ready _ (λ n k a. search rules) c.map-2.ensures.cases)
