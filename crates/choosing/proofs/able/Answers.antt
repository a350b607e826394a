-- `choosing::able` meets its contract.
use native.Mathlib.Omega.{arith}
use Rattle.choosing.proofs.Scanned.{able-late, able-owned}
use Rattle.choosing.proofs.able.Goals as goal

pub returns-then-clock-r : goal.returns-then-clock-r
returns-then-clock-r c = λ st s w. able-late c.args.clock st.table c.args.r c.if-clock-r.true

pub returns : goal.returns
returns c = λ st s w. able-owned c.args.clock st.table c.args.r
    (λ l. absurd (omega (arith, c.if-clock-r.false))) (c.figures-f.ensures st s w).owned
