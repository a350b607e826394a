-- `sending::witness::listed` meets its contract: a scan of the words.
use Prim.Native.Nat.{◌-◌, ◌/◌}
use mathlib.Core.Path.{◌≡◌, refl, sym, ◌∙◌}
use native.Mathlib.Omega.{arith}
use lib.ListN.{length}
use Rattle.std.proofs.Common.{rules, tests}
use Rattle.std.proofs.lemmas.Iterator.{YieldsList-from_range}
use Rattle.std.proofs.lemmas.Iterator.Search.{any_from_yields_List}
use Rattle.words.specs.Words.{words}
use Rattle.words.proofs.Words.{length-words}
use Rattle.sending.proofs.Witnessed.{is_at, elem_by}
use Rattle.sending.proofs.witness.listed.Goals as goal

pub returns : goal.returns
returns c =
    let l = c.args.list.now in
    let n = length l / 8 in
    let whole : n - 0 ≡ n = omega arith in
    any_from_yields_List (is_at c.args.connection (words l)) _ _ _ c.any.ensures.ran (YieldsList-from_range 0 n n refl whole) (λ x b q k. search (rules, tests))
    ∙ elem_by c.args.connection (words l) n (sym (length-words l))
