-- `listed_counts::count_lines` meets its contract. The loop's invariant: what is left of the lines, from the counts as they are, comes to the same as all of them.
use mathlib.Core.Path.{refl, sym, ◌∙◌}
use native.Mathlib.Omega.{arith}
use Rattle.heavy.specs.Counters.{names_in, counts_in}
use Rattle.heavy.proofs.Seeking.{length-names, length-counts}
use Rattle.listed_counts.proofs.Numbers.{sum_more}
use Rattle.listed_counts.proofs.Lines.{count-begin, count_on, count_end}
use Rattle.listed_counts.proofs.count_lines.Goals as goal

pub loop-front-init : goal.loop-front-init
loop-front-init c = (refl, refl, refl, omega (arith, c.requires.0), omega (arith, c.requires.1), count-begin _, count-begin _)

pub loop-front-preserved : goal.loop-front-preserved
loop-front-preserved c =
    let l = c.in-Some.ensures.front in
    let e = c.in-Some.ensures.same in
    let i = c.loop-front.invariant in
    let cs = c.loop-front.connections in
    let os = c.loop-front.owners in
    let n = c.count_front.ensures in (
      e ∙ i.0,
      n.connections.0 ∙ i.1,
      n.owners.0 ∙ i.2,
      omega (arith, sum_more (names_in cs) (counts_in cs) (length-names cs ∙ sym (length-counts cs)) n.connections.1, i.3, l.on),
      omega (arith, sum_more (names_in os) (counts_in os) (length-names os ∙ sym (length-counts os)) n.owners.1, i.4, l.on),
      rw e (count_on i.5 l (rw i.1 at n.connections.1)),
      rw e (count_on i.6 l (rw i.2 at n.owners.1)),
    )

pub returns-clause-connections : goal.returns-clause-connections
returns-clause-connections c = rw (← c.loop-front.invariant.0) (count_end c.loop-front.invariant.5 (c.in_default.ensures.none refl))

pub returns-clause-owners : goal.returns-clause-owners
returns-clause-owners c = rw (← c.loop-front.invariant.0) (count_end c.loop-front.invariant.6 (c.in_default.ensures.none refl))
