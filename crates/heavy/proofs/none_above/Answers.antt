-- `heavy::none_above` meets its contract.
use Rattle.std.proofs.Common.{rules}
use borrow.Author.Tests.{tests}
use lib.Dec.{leb}
use mathlib.Core.Path.{◌∙◌}
use Rattle.std.proofs.lemmas.Iterator.Search.{all_from_yields_List}
use Rattle.heavy.proofs.Seeking.{all-below}
use Rattle.heavy.proofs.none_above.Goals as goal

pub returns : goal.returns
returns g c =
    record {
      is = λ ks y.
          all_from_yields_List {steps = g.I.Iterator.next_gives} {v = λ k. k} (λ k. leb k c.args.most) _ _ _
          c.all.ensures.ran (record { runs = y }) (λ k b q h. search (rules, tests))
          ∙ all-below _ ks;
    }
