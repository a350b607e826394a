-- `listed_counts::note_lines` meets its contract. The loop's invariant: what is left of the lines, from the counters as they are, comes to the same as all of them.
use mathlib.Core.Path.{refl, sym, ◌∙◌}
use native.Mathlib.Omega.{arith}
use Rattle.heavy.specs.Counters.{names_in, counts_in}
use Rattle.heavy.proofs.Seeking.{length-names, length-counts}
use Rattle.listed_counts.proofs.Numbers.{sum-noted}
use Rattle.listed_counts.proofs.Lines.{note-begin, note_on, note_end}
use Rattle.listed_counts.proofs.note_lines.Goals as goal

pub loop-front-init : goal.loop-front-init
loop-front-init c = (refl, omega (arith, c.requires.0), omega (arith, c.requires.1), note-begin, note-begin)

pub loop-front-preserved : goal.loop-front-preserved
loop-front-preserved c =
    let l = c.in-Some.ensures.front in
    let e = c.in-Some.ensures.same in
    let i = c.loop-front.invariant in
    let cs = c.loop-front.connections in
    let os = c.loop-front.owners in
    let n = c.note_front.ensures in (
      e ∙ i.0,
      omega (arith, sum-noted (names_in cs) (counts_in cs) (length-names cs ∙ sym (length-counts cs)) n.connections, i.1, l.on),
      omega (arith, sum-noted (names_in os) (counts_in os) (length-names os ∙ sym (length-counts os)) n.owners, i.2, l.on),
      rw e (note_on i.3 l n.connections),
      rw e (note_on i.4 l n.owners),
    )

pub returns-clause-connections : goal.returns-clause-connections
returns-clause-connections c = rw (← c.loop-front.invariant.0) (note_end c.loop-front.invariant.3 (c.in_default.ensures.none refl))

pub returns-clause-owners : goal.returns-clause-owners
returns-clause-owners c = rw (← c.loop-front.invariant.0) (note_end c.loop-front.invariant.4 (c.in_default.ensures.none refl))
