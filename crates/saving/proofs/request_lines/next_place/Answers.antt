-- `saving::request_lines::next_place` meets its contract.
use mathlib.Core.Path.{ap, sym, ◌∙◌}
use native.Mathlib.Omega.{arith}
use Rattle.std.specs.Prelude.{Some}
use Rattle.ident.specs.Words.{key_num}
use Rattle.machine.proofs.Tests.{never}
use Rattle.package_stages.specs.Changes.{stage_word}
use Rattle.saving.proofs.Places.{staged_word, bare-laid, spot_held, place-laid}
use Rattle.saving.proofs.request_lines.next_place.Goals as goal

pub returns-in_default : goal.returns-in_default
returns-in_default c = (
  omega (arith, c.put_text.ensures.next),
  bare-laid (key_num c.args.k) (stage_word c.args.q.stage) (λ st s w. (c.requires.1.is st s w).stage) (ap stage_word c.in_default.is) c.put_text.ensures,
)

pub unreachable-requires : goal.unreachable-requires
unreachable-requires c =
    let k = c.requires.0 in
    let z = c.in_default-seek.ensures in
    never (spot_held (key_num c.args.k) (stage_word (Some c.in-Some.stage)) (λ st s w. sym (ap stage_word c.in-Some.is) ∙ (c.requires.1.is st s w).stage)
    z.small (staged_word c.in-Some.stage) k.state k.sound k.writes z)

pub returns : goal.returns
returns c = (
  omega (arith, c.next_package-e.ensures.0, c.next_parents.ensures.0),
  λ st s w. place-laid (key_num c.args.k) (stage_word (Some c.in-Some.stage)) (λ st s w. sym (ap stage_word c.in-Some.is) ∙ (c.requires.1.is st s w).stage)
      c.in-Ok.ensures.small (staged_word c.in-Some.stage) st s w c.in-Ok.ensures c.next_package-e.ensures.1 c.next_parents.ensures.1,
)
