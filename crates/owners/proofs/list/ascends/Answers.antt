-- `owners::list::ascends` meets its contract: a scan of the pairs.
use Prim.Native.Nat.{ℕ, ◌-◌}
use mathlib.Core.Path.{refl, ap, ◌∙◌}
use Rattle.std.proofs.Common.{rules, tests}
use Rattle.std.proofs.lemmas.Iterator.{YieldsList-from_range}
use Rattle.std.proofs.lemmas.Iterator.Search.{all_from_yields_List}
use lib.ListN.{length}
use Rattle.lent_lists.specs.Lists.{hashes_in}
use Rattle.owners.specs.Walk.{above_last}
use Rattle.owners.proofs.Listed.{ascends_by}
use Rattle.owners.proofs.list.ascends.Goals as goal

pub returns : goal.returns
returns c =
    let hs = hashes_in c.args.hashes.now in
    let n = length hs in
    all_from_yields_List (above_last hs) _ _ _ c.all.ensures.ran (YieldsList-from_range 1 c.hashes.result (n - 1) refl (ap (λ (m : ℕ). m - 1) c.hashes.ensures)) (λ x b q k. search (rules, tests))
    ∙ ascends_by hs (n - 1) refl
