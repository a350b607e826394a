use Prim.Native.Nat.{◌+◌, ◌*◌}
use mathlib.Core.Path.{◌≡◌}
use mathlib.Core.Bool.{true, false}
use lib.Dec.{eqb}
use lib.ListN.{get_or}
use Rattle.std.proofs.Common.{rules, tests}
use Rattle.std.proofs.lemmas.Iterator.{first_from_Range}
use Rattle.words.specs.Words.{words}
use Rattle.regions.specs.Rows.{row_size}
use Rattle.regions.proofs.Rows.{first_found}
use Rattle.regions.proofs.find_conn_in.Goals as goal

pub returns : goal.returns
returns c =
    let w = words c.args.s.now in
    let x = c.args.c in
    first_found w x c.requires.0 c.find.result
    (first_from_Range _ _ _ c.find.result (λ i. eqb (get_or w (i * row_size + 4) 0) x ≡ true) (λ i. eqb (get_or w (i * row_size + 4) 0) x ≡ false)
    c.find.ensures.ran (λ i q k. search (rules, tests)) (λ i q k. search (rules, tests)))
