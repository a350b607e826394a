-- `choosing::owned_in` meets its contract: a scan of the rows.
use Prim.Native.Nat.{◌-◌}
use mathlib.Core.Path.{refl, ◌∙◌}
use mathlib.Core.List.{[]}
use native.Mathlib.Omega.{arith}
use Rattle.std.proofs.Common.{rules, tests}
use Rattle.std.proofs.lemmas.Iterator.{YieldsList-from_range}
use Rattle.std.proofs.lemmas.Iterator.Search.{any_from_yields_List}
use Rattle.regions.specs.Rows.{read_row}
use Rattle.store.proofs.Frame.{sizes}
use Rattle.choosing.proofs.Scanned.{owns_at, owns_by}
use Rattle.choosing.proofs.owned_in.Goals as goal

pub returns : goal.returns
returns c = λ f w.
    let x = c.args.x in
    let n = x.to - x.from in
    let d = read_row [] in
    let z = sizes w in
    any_from_yields_List (owns_at f.rows d) _ _ _ c.any.ensures.ran (YieldsList-from_range x.from x.to n refl refl) (λ i b q k. search (rules, tests, w))
    ∙ owns_by f.rows d n x.from x.to refl (omega (arith, c.requires.1))
