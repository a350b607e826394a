-- `lent_lists::occurs_before` meets its contract: a scan of the hashes before it.
use Prim.Native.Nat.{◌-◌}
use mathlib.Core.Path.{◌≡◌, refl, ◌∙◌}
use native.Mathlib.Omega.{arith}
use lib.ListN.{get_or}
use Rattle.std.proofs.Common.{rules, tests}
use Rattle.std.proofs.lemmas.Iterator.{YieldsList-from_range}
use Rattle.std.proofs.lemmas.Iterator.Search.{any_from_yields_List}
use Rattle.lent_lists.specs.Lists.{hashes_in}
use Rattle.lent_lists.proofs.Given.{is_at, elem_by}
use Rattle.lent_lists.proofs.occurs_before.Goals as goal

pub returns : goal.returns
returns c =
    let hs = hashes_in c.args.s.now in
    let i = c.args.i in
    let x = get_or hs i 0 in
    let whole : i - 0 ≡ i = omega arith in
    any_from_yields_List (is_at x hs) _ _ _ c.any.ensures.ran (YieldsList-from_range 0 i i refl whole) (λ j b q k. search (rules, tests))
    ∙ elem_by x hs i (omega (arith, c.requires))
