-- `postponing::lapsing::none_due` meets its contract: a scan of the rows.
use Prim.Native.Nat.{◌-◌}
use mathlib.Core.Path.{◌≡◌, refl, ◌∙◌}
use mathlib.Core.List.{[]}
use native.Mathlib.Omega.{arith}
use Rattle.std.proofs.Common.{rules, tests}
use Rattle.std.proofs.lemmas.Iterator.{YieldsList-from_range}
use Rattle.std.proofs.lemmas.Iterator.Search.{all_from_yields_List}
use Rattle.regions.specs.Rows.{read_row}
use Rattle.postponing.proofs.LapsedRows.{undue_at, none_by}
use Rattle.postponing.proofs.lapsing.none_due.Goals as goal

pub returns : goal.returns
returns c = λ f w e.
    let d = read_row [] in
    let n = c.args.n in
    let whole : n - 0 ≡ n = omega arith in
    all_from_yields_List (undue_at f.rows d) _ _ _ c.all.ensures.ran (YieldsList-from_range 0 n n refl whole) (λ i b q k. search (rules, tests, w))
    ∙ none_by f.rows d n e
