-- `saving::candidate_lines::put_candidates` meets its contract. The loop's invariant: the rows before i are done.
use mathlib.Core.Path.{refl, ◌∙◌}
use native.Mathlib.Omega.{arith}
use Rattle.saving.proofs.Candidates.{rows_none, rows-laid}
use Rattle.saving.proofs.candidate_lines.put_candidates.Goals as goal

pub loop-i-init : goal.loop-i-init
loop-i-init c = (
  omega arith,
  c.requires.1,
  refl,
  omega arith,
  rows_none c.args.s.now c.args.from c.args.out.now
      c.args.at,
)

pub loop-i-preserved : goal.loop-i-preserved
loop-i-preserved c = (
  omega (arith, c.loop-i.invariant.0),
  omega arith,
  c.put_candidate-e.ensures.1.long ∙ c.loop-i.invariant.2,
  omega (
    arith,
    c.put_candidate-e.ensures.0,
    c.loop-i.invariant.3,
  ),
  rows-laid _ _ _ _ c.loop-i.invariant.0 (omega (
    arith,
    c.requires.2,
  )) _ c.loop-i.invariant.4
      c.row_at-r.ensures c.put_candidate-e.ensures.1,
)
