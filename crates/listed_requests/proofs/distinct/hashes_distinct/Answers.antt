-- `listed_requests::distinct::hashes_distinct` meets its contract: a scan of the indices.
use Prim.Native.Nat.{◌-◌}
use mathlib.Core.Path.{◌≡◌, refl, ap, ◌∙◌}
use native.Mathlib.Omega.{arith}
use Rattle.std.proofs.Common.{rules, tests}
use Rattle.std.proofs.lemmas.Iterator.{serves_from_Range, YieldsList-from_range}
use Rattle.std.proofs.lemmas.Iterator.Search.{all_from_yields_List}
use Rattle.machine.specs.SoundTest.{no_repeat}
use Rattle.lent_lists.specs.Lists.{hashes_in}
use Rattle.listed_requests.proofs.Repeats.{new_at, distinct_by, so_many, first-hashes}
use Rattle.listed_requests.proofs.distinct.hashes_distinct.Goals as goal

pub all-requires-clause-callable : goal.all-requires-clause-callable
all-requires-clause-callable c = serves_from_Range (λ i q k. search (rules, tests)) (λ i l h. omega (arith, h, so_many c.args.s.now c.args.n c.requires))

pub returns : goal.returns
returns c =
    let b = c.args.s.now in
    let n = c.args.n in
    let whole : n - 0 ≡ n = omega arith in
    all_from_yields_List (new_at (hashes_in b)) _ _ _ c.all.ensures.ran (YieldsList-from_range 0 n n refl whole) (λ i b q k. search (rules, tests))
    ∙ distinct_by (hashes_in b) n (so_many b n c.requires) ∙ ap no_repeat (first-hashes b n c.requires)
