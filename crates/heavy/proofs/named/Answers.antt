-- `heavy::named` meets its contract.
use Rattle.std.proofs.Common.{rules}
use borrow.Author.Tests.{tests}
use lib.Dec.{eqb}
use Rattle.std.proofs.lemmas.Iterator.{YieldsList-from_slice}
use Rattle.std.proofs.lemmas.Iterator.Search.{position_from_yields_List}
use Rattle.heavy.proofs.Seeking.{name_sought}
use Rattle.heavy.proofs.named.Goals as goal

pub returns : goal.returns
returns c =
    name_sought _ _ (position_from_yields_List (λ y. eqb y.name c.args.x) _ _ _ c.position.ensures.ran (YieldsList-from_slice c.args.counters.now cc) (λ y b q k. search (rules, tests)))
