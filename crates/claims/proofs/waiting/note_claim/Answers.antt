use native.Mathlib.Omega.{arith}
use mathlib.Core.Path.{refl, sym, ◌∙◌}
use Rattle.ident.proofs.Words.{key-four, hash_below}
use Rattle.claims.proofs.Gathering.{noted_none, noted_one}
use Rattle.claims.proofs.waiting.note_claim.Goals as goal

pub returns-then-is_claim : goal.returns-then-is_claim
returns-then-is_claim c =
    let kept = c.requires.0 in
    noted_one c.args.n c.args.r (λ st s w. sym (c.is_claim.ensures st s w) ∙ c.if-is_claim.true)
    (hash_below c.key_of-k.result.hash (key-four c.key_of-k.result c.key_of-k.type_inv)) c.key_of-k.ensures
    _ refl
    (omega (arith, c.told-claims, c.requires.1 kept.state kept.sound kept.writes (sym (c.is_claim.ensures kept.state kept.sound kept.writes) ∙ c.if-is_claim.true))) c.combined_of-combined.ensures

pub returns-else-is_claim : goal.returns-else-is_claim
returns-else-is_claim c = noted_none c.args.n c.args.r (λ st s w. sym (c.is_claim.ensures st s w) ∙ c.if-is_claim.false)
