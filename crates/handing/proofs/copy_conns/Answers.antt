use native.Mathlib.Omega.{arith}
use mathlib.Core.Path.{refl, ◌∙◌}
use Rattle.ident.specs.Words.{key_num}
use Rattle.store.specs.Flat.{flat_of}
use Rattle.store.proofs.Frame.{sizes}
use Rattle.requests.proofs.Keeping.{from_at, to_at}
use Rattle.requests.proofs.AtHash.{window-size}
use Rattle.handing.proofs.Copying.{few_candidates, copied_more, copied_all, copied_none}
use Rattle.handing.proofs.copy_conns.Goals as goal

pub loop-i-init : goal.loop-i-init
loop-i-init c = let kept = c.requires in
    let st = kept.state in
    let k = key_num c.args.k in
    let key = c.from-key.ensures in
    let n = window-size k st.table (from_at st kept.sound k key.small key.number (c.window_of-w.ensures.from_is st kept.sound kept.writes))
    (to_at st kept.sound k key.small key.number (c.window_of-w.ensures.to_is st kept.sound kept.writes)) in (
      copied_none c.args.s.now c.window_of-w.result.from c.len-n.result
          c.args.conns.now,
      omega (arith, n, c.len-n.ensures, few_candidates st kept.sound k key.small),
    )

pub loop-i-preserved : goal.loop-i-preserved
loop-i-preserved c = (
  copied_more c.row_at-r.result c.loop-i.invariant.0
      c.loop-i-test.true (omega (arith, c.loop-i.invariant.1)) (λ f h. omega (
        arith,
        c.window_of-w.ensures.most,
        c.window_of-w.ensures.order,
        c.len-n.ensures,
        (sizes h).rows,
      )) (λ f d h. c.row_at-r.ensures f d h),
  c.loop-i.invariant.1,
)

pub returns : goal.returns
returns c = λ st s w.
    let k = key_num c.args.k in
    let key = c.from-key.ensures in
    let from = from_at st s k key.small key.number (c.window_of-w.ensures.from_is st s w) in
    let n = window-size k st.table from (to_at st s k key.small key.number (c.window_of-w.ensures.to_is st s w)) in
    copied_all st s k c.loop-i.invariant.0 c.loop-i-test.false (flat_of st) refl w from (c.len-n.ensures ∙ n)
