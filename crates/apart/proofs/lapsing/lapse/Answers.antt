-- `apart::lapsing::lapse` meets its contract.
use mathlib.Core.Path.{refl}
use native.Mathlib.Omega.{arith}
use borrow.Author.Tests.{eq-eqb, ne_eqb}
use borrow.Author.Rules.{rules}
use Rattle.apart.proofs.SlotWords.{plain-long}
use Rattle.apart.proofs.Forgetting.{room_within}
use Rattle.apart.proofs.Overdue.{lapse-fails, lapse_stays}
use Rattle.apart.proofs.OneOwner.{around_fails, around_room, around_within}
use Rattle.apart.proofs.lapsing.lapse.Goals as goal

pub fail-requires : goal.fail-requires
fail-requires c = around_fails c.requires.around c.requires.own

pub returns-then-p-ne-ENQUEUED : goal.returns-then-p-ne-ENQUEUED
returns-then-p-ne-ENQUEUED c = λ st ps o h. lapse-fails o h c.args.n c.args.clock (ne_eqb c.args.p.stage 3 c.if-p-ne-ENQUEUED.true)
    (around_within o) c.fail.auto.s c.fail.ensures refl c.kill.ensures

pub returns-else-p-ne-ENQUEUED : goal.returns-else-p-ne-ENQUEUED
returns-else-p-ne-ENQUEUED c = λ st ps o h. lapse_stays o h c.args.n c.args.clock (eq-eqb c.args.p.stage 3 c.if-p-ne-ENQUEUED.false)
