-- `apart::slots::find_hash` meets its contract.
use mathlib.Core.Path.{sym, ◌∙◌}
use borrow.Author.Tests.{ltb-true, ltb-false}
use Rattle.ident.specs.Words.{hash_num}
use Rattle.regions.specs.Rows.{quad_number}
use Rattle.apart.proofs.Spotting.{spot_found, spot_dead, spot_missed, spot_over}
use Rattle.apart.proofs.slots.find_hash.Goals.{then-quad_less-via-then-quad_less, then-quad_less-via-else-quad_less+then-p-eq-DEAD}
use Rattle.apart.proofs.slots.find_hash.Goals as goal

pub returns-then-n-i : goal.returns-then-n-i
returns-then-n-i c = spot_over (hash_num c.args.h) c.from-q.ensures.words_are c.seek-i.ensures c.if-n-i.true

pub returns-then-quad_less : goal.returns-then-quad_less
returns-then-quad_less c =
    elim c.then-quad_less.branch [
      | then-quad_less-via-then-quad_less w ↦ spot_missed (hash_num c.args.h) c.from-q.ensures.words_are c.seek-i.ensures c.if-n-i.false c.head_at-p.ensures
          (ltb-true (quad_number c.from-q.result) (quad_number c.head_at-p.result.hash) (sym c.quad_less.ensures ∙ w.if-quad_less.true))
      | then-quad_less-via-else-quad_less+then-p-eq-DEAD w ↦ spot_dead (hash_num c.args.h) c.from-q.ensures.words_are c.seek-i.ensures c.if-n-i.false c.head_at-p.ensures
          (ltb-false (quad_number c.from-q.result) (quad_number c.head_at-p.result.hash) (sym c.quad_less.ensures ∙ w.if-quad_less.false)) w.if-p-eq-DEAD.true
    ]

pub returns : goal.returns
returns c = spot_found (hash_num c.args.h) c.from-q.ensures.words_are c.seek-i.ensures c.if-n-i.false c.head_at-p.ensures
    (ltb-false (quad_number c.from-q.result) (quad_number c.head_at-p.result.hash) (sym c.quad_less.ensures ∙ c.if-quad_less.false)) c.if-p-eq-DEAD.false
