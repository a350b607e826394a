-- `wrapping::missing::all_keyed` meets its contract: a scan of the items.
use Prim.Native.Nat.{◌-◌}
use mathlib.Core.Path.{◌≡◌, refl, ◌∙◌}
use native.Mathlib.Omega.{arith}
use Rattle.std.proofs.Common.{rules, tests}
use Rattle.std.proofs.lemmas.Iterator.{YieldsList-from_range}
use Rattle.std.proofs.lemmas.Iterator.Search.{all_from_yields_List}
use Rattle.lent_lists.specs.Items.{items_in}
use Rattle.wrapping.proofs.Keyed.{keyed_at, keyed_by}
use Rattle.wrapping.proofs.missing.all_keyed.Goals as goal

pub returns : goal.returns
returns c =
    let l = items_in c.args.items.now in
    let n = c.items.result in
    let whole : n - 0 ≡ n = omega arith in
    all_from_yields_List (keyed_at l) _ _ _ c.all.ensures.ran (YieldsList-from_range 0 n n refl whole) (λ i b q k. search (rules, tests))
    ∙ keyed_by l n c.items.ensures
