-- `public_requests::on_sound::sum` meets its contract: the laws of proofs/Summing, on a sound store.
use native.Mathlib.Omega.{arith}
use Rattle.outcome.proofs.Header.{head-inside}
use Rattle.public_requests.proofs.Summing.{figures-fit, sum-figures}
use Rattle.public_requests.proofs.on_sound.sum.Goals as goal

pub limit-l-requires : goal.limit-l-requires
limit-l-requires c = head-inside c.args.s.now c.requires

pub rows-n-requires : goal.rows-n-requires
rows-n-requires c = head-inside c.args.s.now c.requires

pub figures-requires : goal.figures-requires
figures-requires c =
    figures-fit c.args.s.now c.requires c.rows-n.result c.limit-l.result c.evictable-m.result
    c.rows-n.ensures.word c.limit-l.ensures.word c.need_of-e.ensures c.evictable-m.ensures

pub returns : goal.returns
returns c =
    sum-figures c.args.s.now c.requires c.rows-n.result c.limit-l.result c.evictable-m.result
    (λ i. omega (arith, c.type_inv.s i)) c.rows-n.ensures.word
    c.limit-l.ensures.word c.need_of-e.ensures c.evictable-m.ensures c.figures.ensures
