use native.Mathlib.Omega.{arith}
use Rattle.store.proofs.Frame.{sizes}
use Rattle.sweeping.proofs.Tests.{ends_at, ends-before, same_row_key}
use Rattle.sweeping.proofs.batch.ends_key.Goals as goal

pub returns-then-j-to : goal.returns-then-j-to
returns-then-j-to c = λ f w. ends_at c.args.r f.rows c.args.j c.args.to c.if-j-to.true

pub returns : goal.returns
returns c = λ f w.
    let z = sizes w in
    ends-before c.args.r f.rows c.args.j c.args.to c.row_at-q.result (omega arith) (omega (arith, c.requires.2)) (c.row_at-q.ensures f c.row_at-q.result w)
    c.ne.ensures (same_row_key c.args.r c.row_at-q.result c.from.ensures c.from-2.ensures (omega arith) (omega arith))
