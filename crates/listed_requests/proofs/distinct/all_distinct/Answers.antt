-- `listed_requests::distinct::all_distinct` meets its contract: a scan of the indices.
use Prim.Native.Nat.{◌-◌}
use mathlib.Core.Path.{◌≡◌, refl, ap, ◌∙◌}
use native.Mathlib.Omega.{arith}
use lib.ListN.{length}
use lib.Seq.{take_all}
use Rattle.std.proofs.Common.{rules, tests}
use Rattle.std.proofs.lemmas.Iterator.{YieldsList-from_range}
use Rattle.std.proofs.lemmas.Iterator.Search.{all_from_yields_List}
use Rattle.machine.specs.SoundTest.{no_repeat}
use Rattle.listed_requests.proofs.Repeats.{new_at, distinct_by}
use Rattle.listed_requests.proofs.distinct.all_distinct.Goals as goal

pub returns : goal.returns
returns c =
    let l = c.args.list.now in
    let n = length l in
    let whole : n - 0 ≡ n = omega arith in
    all_from_yields_List (new_at l) _ _ _ c.all.ensures.ran (YieldsList-from_range 0 n n refl whole) (λ i b q k. search (rules, tests))
    ∙ distinct_by l n (omega arith) ∙ ap no_repeat (take_all n l (omega arith))
