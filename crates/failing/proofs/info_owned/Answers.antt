use mathlib.Core.Path.{sym, ◌∙◌}
use Rattle.ident.specs.Words.{key_num}
use Rattle.machine.proofs.Table.{lawful_at}
use Rattle.failing.proofs.PackageInfo.{info-is}
use Rattle.failing.proofs.info_owned.Goals as goal

pub returns-else-eq : goal.returns-else-eq
returns-else-eq c = λ st s w.
    let x = c.request_at-r.ensures.is st s w in
    let l = lawful_at (key_num c.args.k) st.table s.bounded.lawful in
    rw (sym (info-is l x c.eq.ensures) ∙ c.if-eq.false) c.if-eq.false
