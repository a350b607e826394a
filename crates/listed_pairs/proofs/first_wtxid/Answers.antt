-- `listed_pairs::first_wtxid` meets its contract. The loop's invariant: the requests before these lines are Txid requests.
use Prim.Native.Nat.{◌<◌}
use mathlib.Core.Path.{refl, ◌∙◌}
use lib.ListN.{length}
use Rattle.std.proofs.Common.{rules}
use Rattle.listed_pairs.proofs.Passing.{some_passed}
use Rattle.listed_pairs.proofs.Seeking.{search_on, search_found, search_end}
use Rattle.listed_pairs.proofs.first_wtxid.Goals as goal

pub returns-then-meets_wtxid-clause-first : goal.returns-then-meets_wtxid-clause-first
returns-then-meets_wtxid-clause-first c =
    let i = c.loop-lines.invariant in
    let h : c.loop-lines.lines.at < length c.loop-lines.lines.text.now = search rules in
    let d = some_passed c.loop-lines.lines.text.now c.loop-lines.lines.at h in
    rw (← i.0) (search_found i.1 d.passed c.meets_wtxid.ensures c.if-meets_wtxid.true)

pub loop-lines-preserved : goal.loop-lines-preserved
loop-lines-preserved c =
    let i = c.loop-lines.invariant in
    (c.pass_line.ensures.same ∙ i.0, rw (c.pass_line.ensures.same) (search_on i.1 c.pass_line.ensures.passed c.meets_wtxid.ensures c.if-meets_wtxid.false))

pub returns-clause-first : goal.returns-clause-first
returns-clause-first c = let i = c.loop-lines.invariant in rw (← i.0) (search_end i.1 (c.loop-lines-test.ensures.0 refl))
