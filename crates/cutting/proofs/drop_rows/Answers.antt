use native.Mathlib.Omega.{arith}
use mathlib.Core.Path.{sym}
use Rattle.store.specs.PartLaws.{row_laws}
use Rattle.store.proofs.Frame.{part-lent, part_back, part-counted}
use Rattle.package_stages.specs.Dead.{filter}
use Rattle.cutting.specs.Cuts.{stays}
use borrow.Author.Rules.{rules}
use Rattle.cutting.proofs.drop_rows.Goals as goal

pub returns : goal.returns
returns c =
    let q = stays c.args.p.conn c.args.p.from c.args.p.to in
    record {
      gone = λ f h.
          let n = c.rows-n.ensures.field f h in
          let m = c.retain-m.ensures.count q (λ x u b e p. p x e) f.head.limit f.rows (sym n)
          (part-lent row_laws h c.rows_part-part.ensures) in
          omega (arith, c.retain-m.ensures.most);
      rows = λ f h.
          let n = c.rows-n.ensures.field f h in
          let held = part-lent row_laws h c.rows_part-part.ensures in
          let m = c.retain-m.ensures.count q (λ x u b e p. p x e) f.head.limit f.rows (sym n) held in
          part-counted row_laws h (search rules) (filter q f.rows) c.retain-m.result
          (sym m) (part_back row_laws h c.rows_part-part.ensures _ _ c.retain-m.auto.s
          (c.retain-m.ensures.region q (λ x u b e p. p x e) f.head.limit f.rows (sym n) held)) c.put.ensures.word;
    }
