-- `saving::put_requests` meets its contract. The loop's invariant: the rows before i are done.
use native.Mathlib.Omega.{arith}
use Rattle.requests.proofs.Keeping.{kept_shown}
use Rattle.saving.proofs.Walking.{walked_none, few_rows, row_ends, walked_more, walked_all}
use Rattle.saving.proofs.put_requests.Goals as goal

pub rows-n-requires : goal.rows-n-requires
rows-n-requires c = let z = (kept_shown c.requires.0).sizes in omega arith

pub loop-i-init : goal.loop-i-init
loop-i-init c = walked_none _ _ _

pub row_at-r-requires : goal.row_at-r-requires
row_at-r-requires c = (kept_shown c.requires.0, omega (arith, c.rows-n.ensures.word))

pub put_request-e-requires : goal.put_request-e-requires
put_request-e-requires c = (
  c.requires.0,
  c.request_at-q.ensures,
  omega (
    arith,
    c.loop-i.invariant.near,
    c.loop-i.invariant.inside,
    few_rows
        c.requires.0,
    c.requires.1,
  ),
)

pub put_candidates-at-requires : goal.put_candidates-at-requires
put_candidates-at-requires c = let g = row_ends c.loop-i.invariant (omega (
  arith,
  c.rows-n.ensures.word,
)) c.row_at-r.ensures _
    c.key_of-k.ensures c.request_at-q.ensures
    c.requires.0 in (
      kept_shown c.requires.0,
      omega arith,
      c.request_at-q.ensures.spans.most,
      omega (
        arith,
        g,
        c.put_request-e.ensures.0,
        c.loop-i.invariant.near,
        c.loop-i.invariant.inside,
        c.request_at-q.ensures.spans.most,
        few_rows c.requires.0,
        c.requires.1,
      ),
    )

pub loop-i-smaller : goal.loop-i-smaller
loop-i-smaller c = omega (
  arith,
  row_ends c.loop-i.invariant (omega (
    arith,
    c.rows-n.ensures.word,
  ))
      c.row_at-r.ensures _
      c.key_of-k.ensures c.request_at-q.ensures
      c.requires.0,
  c.request_at-q.ensures.spans.most,
  c.rows-n.ensures.word,
)

pub loop-i-preserved : goal.loop-i-preserved
loop-i-preserved c = walked_more c.loop-i.invariant (omega (
  arith,
  c.rows-n.ensures.word,
))
    c.row_at-r.ensures _
    c.key_of-k.ensures c.request_at-q.ensures
    c.requires.0
    c.put_request-e.ensures.0 c.put_candidates-at.ensures.0
    c.put_request-e.ensures.1 c.put_candidates-at.ensures.1

pub returns : goal.returns
returns c = walked_all c.loop-i.invariant (omega (arith, c.rows-n.ensures.word))
