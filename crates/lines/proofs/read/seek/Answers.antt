-- `lines::read::seek` meets its contract.
use Rattle.std.proofs.Common.{rules}
use native.Mathlib.Omega.{arith}
use borrow.Author.Tests.{tests}
use lib.Dec.{eqb}
use lib.ListN.{length-drop, drop}
use Rattle.std.proofs.lemmas.Iterator.{YieldsList-from_slice}
use Rattle.std.proofs.lemmas.Iterator.Search.{position_from_yields_List}
use mathlib.Core.Path.{◌∙◌}
use Rattle.lines.proofs.Letters.{lent_rest}
use Rattle.lines.proofs.Finding.{first_at, none_at}
use Rattle.lines.proofs.read.seek.Goals as goal

pub returns-in-Some : goal.returns-in-Some
returns-in-Some c =
    first_at c.args.x (drop c.args.from c.args.s.now) c.args.from c.in-Some.is
    (position_from_yields_List (λ y. eqb y c.args.x) _ _ c.position.result c.position.ensures.ran
    (YieldsList-from_slice (drop c.args.from c.args.s.now) (c.iter.ensures.rest ∙ lent_rest c.args.s.now c.args.from))
    (λ y b q k. search (rules, tests)))

pub returns-in-None : goal.returns-in-None
returns-in-None c =
    let h = none_at c.args.x (drop c.args.from c.args.s.now) c.in-None.is
    (position_from_yields_List (λ y. eqb y c.args.x) _ _ c.position.result c.position.ensures.ran
    (YieldsList-from_slice (drop c.args.from c.args.s.now) (c.iter.ensures.rest ∙ lent_rest c.args.s.now c.args.from))
    (λ y b q k. search (rules, tests))) in
    omega (arith, h, length-drop c.args.from c.args.s.now)
