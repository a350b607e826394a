-- `selecting::giving::give_back` meets its contract.
use Prim.Native.Nat.{◌+◌, ◌-◌, ◌<◌}
use mathlib.Core.Path.{◌≡◌, subst, ◌∙◌}
use native.Mathlib.Omega.{arith}
use lib.ListN.{length}
use Rattle.requests.proofs.Keeping.{kept_shown}
use Rattle.selecting.proofs.Picking.{conn-at}
use Rattle.selecting.proofs.GivingBack.{Back, back_done, back_kept, back_inside, back_more}
use Rattle.selecting.proofs.giving.give_back.Goals as goal

pub row_at-r-requires : goal.row_at-r-requires
row_at-r-requires c =
    let w = c.requires in
    let g = c.loop-j.invariant.2 w.clock w.state w.chosen w.sound w.marks in
    let j = c.loop-j.j - 1 in
    let next : c.loop-j.j ≡ j + 1 = omega (arith, c.loop-j-test.true) in
    let less : j < length c.args.picks.now = omega (arith, c.loop-j.invariant.0, c.loop-j-test.true) in
    (kept_shown (back_kept w.sound w.marks j next less g), back_inside w.sound w.marks j next less g)

pub loop-j-preserved : goal.loop-j-preserved
loop-j-preserved c = (
  omega (arith, c.loop-j.invariant.0, c.loop-j-test.true),
  c.disown.auto.s ∙ c.loop-j.invariant.1,
  λ now st l s m.
      back_more s m (c.loop-j.j - 1)
      (omega (arith, c.loop-j-test.true))
      (omega (arith, c.loop-j.invariant.0, c.loop-j-test.true))
      (c.loop-j.invariant.2 now st l s m) c.row_at-r.result
      c.row_at-r.ensures
      c.key_of.ensures (conn-at c.row_at-r.result) c.disown.ensures,
)

pub returns : goal.returns
returns c = λ now st l s m.
    let e : c.loop-j.j ≡ 0 = omega (arith, c.loop-j-test.false) in
    back_done (subst (Back now st l c.loop-j.s) e (c.loop-j.invariant.2 now st l s m))
