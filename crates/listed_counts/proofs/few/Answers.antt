-- `listed_counts::few` meets its contract.
use borrow.Author.Tests.{tests}
use Rattle.std.proofs.Common.{rules}
use Rattle.std.proofs.lemmas.Iterator.{YieldsList-from_slice, YieldsList-from_map}
use Rattle.std.proofs.lemmas.Iterator.Consumers.{YieldsList-at}
use Rattle.heavy.proofs.Seeking.{none_above_counts}
use Rattle.listed_counts.proofs.few.Goals as goal

pub returns : goal.returns
returns c =
    let cs = c.args.counters.now in
    none_above_counts cs c.none_above.ensures
    (YieldsList-from_map _ (λ d. d.count) (YieldsList-at c.map.ensures.source (YieldsList-from_slice cs c.iter.ensures.rest)) c.map.ensures.closure (λ x n q h. search (rules, tests)))
