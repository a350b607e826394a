use mathlib.Core.Path.{sym, ap, ◌∙◌}
use borrow.Author.Tests.{ne_eqb}
use Rattle.machine.proofs.Tests.{never}
use Rattle.cutting.specs.Cuts.{row_key_in}
use Rattle.cutting.proofs.Testing.{its_own, owned, anothers}
use Rattle.cutting.proofs.goes.Goals as goal
use Rattle.cutting.proofs.goes.Goals.{then-r-p, else-r-p}

pub returns-then-not-owns : goal.returns-then-not-owns
returns-then-not-owns c = elim c.if-r-p.branch [
  | then-r-p w ↦
      its_own c.args.r c.args.p.conn c.args.p.from c.args.p.to w.if-r-p.true w.owns.ensures (sym w.value-is ∙ c.if-not-owns.true)
      (c.inside.ensures ∙ ap (row_key_in c.args.p.from c.args.p.to) c.from.ensures)
  | else-r-p w ↦ never (sym (ne_eqb c.args.r.conn c.args.p.conn w.if-r-p.false) ∙ sym w.value-is ∙ c.if-not-owns.true)
]

pub returns-else-not-owns : goal.returns-else-not-owns
returns-else-not-owns c = elim c.if-r-p.branch [
  | then-r-p w ↦ owned c.args.r c.args.p.conn c.args.p.from c.args.p.to w.if-r-p.true w.owns.ensures w.value-is c.if-not-owns.false
  | else-r-p w ↦ w.value-is ∙ ne_eqb c.args.r.conn c.args.p.conn w.if-r-p.false ∙ anothers c.args.r c.args.p.conn c.args.p.from c.args.p.to w.if-r-p.false
]
