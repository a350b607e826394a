-- `postponing::among::full` meets its contract.
use Prim.Native.Nat.{◌+◌}
use mathlib.Core.Path.{ap, ◌∙◌}
use lib.Dec.{leb}
use Rattle.store.specs.Flat.{flat_of}
use Rattle.store.proofs.Counts.{held-rows}
use Rattle.postponing.proofs.among.full.Goals as goal

pub returns : goal.returns
returns c = λ st s w. rw (c.limit.ensures.field (flat_of st) w)
    (ap (λ (i : _). leb (st.limit + c.args.c) (i + c.args.d)) (c.rows.ensures.field (flat_of st) w ∙ held-rows st.table))
