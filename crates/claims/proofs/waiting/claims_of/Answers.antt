use native.Mathlib.Omega.{arith}
use mathlib.Core.Path.{sym, ◌∙◌}
use Rattle.store.specs.Flat.{flat_of}
use Rattle.store.proofs.Frame.{sizes}
use Rattle.requests.proofs.Keeping.{kept_shown}
use Rattle.claims.proofs.Gathering.{gathered_none, gathered-room, gathered_more, gathered_done}
use Rattle.claims.proofs.waiting.claims_of.Goals as goal

pub rows-rows-requires : goal.rows-rows-requires
rows-rows-requires c = omega (arith, sizes c.requires.writes)

pub loop-i-init : goal.loop-i-init
loop-i-init c = gathered_none c.args.n c.args.s.now c.args.room.now c.told-room

pub row_at-r-requires : goal.row_at-r-requires
row_at-r-requires c = (kept_shown c.requires, omega (arith, c.rows-rows.ensures.word, c.loop-i-test.true))

pub note_claim-m-requires : goal.note_claim-m-requires
note_claim-m-requires c = (
  c.requires,
  gathered-room c.loop-i.invariant c.row_at-r.result (λ st w.
      omega (arith, c.rows-rows.ensures.field (flat_of st) w, c.loop-i-test.true)) (λ st d w. c.row_at-r.ensures
      (flat_of st) d w),
)

pub loop-i-preserved : goal.loop-i-preserved
loop-i-preserved c = gathered_more c.loop-i.invariant c.row_at-r.result
    (λ st w. omega (
      arith,
      c.rows-rows.ensures.field (flat_of st) w,
      c.loop-i-test.true,
    )) (λ st d w. c.row_at-r.ensures (flat_of st) d w)
    (c.note_claim-m.array_long ∙ sym c.loop-i.invariant.long)
    c.note_claim-m.ensures

pub returns : goal.returns
returns c = gathered_done c.loop-i.invariant c.requires
    (λ st w. omega (arith, c.rows-rows.ensures.field (flat_of st) w, c.loop-i-test.false))
