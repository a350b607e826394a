-- `heavy::unused` meets its contract.
use Rattle.std.proofs.Common.{rules}
use borrow.Author.Tests.{tests}
use lib.Dec.{eqb}
use Rattle.std.proofs.lemmas.Iterator.{YieldsList-from_slice}
use Rattle.std.proofs.lemmas.Iterator.Search.{position_from_yields_List}
use Rattle.heavy.proofs.Seeking.{count_sought}
use Rattle.heavy.proofs.unused.Goals as goal

pub returns : goal.returns
returns c =
    count_sought _ _ (position_from_yields_List (λ y. eqb y.count 0) _ _ _ c.position.ensures.ran (YieldsList-from_slice c.args.counters.now cc) (λ y b q k. search (rules, tests)))
