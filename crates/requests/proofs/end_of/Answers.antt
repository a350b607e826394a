-- `requests::end_of` meets its contract: the first row that comes after the key.
use Rattle.std.proofs.Common.{rules, tests}
use Rattle.std.proofs.lemmas.Iterator.{first_from_Range}
use Rattle.regions.specs.Rows.{key_number}
use Rattle.requests.proofs.Ending.{Behind, Before, end_is}
use Rattle.requests.proofs.end_of.Goals as goal

pub returns : goal.returns
returns c =
    let b = c.args.s.now in
    let x = key_number c.args.k in
    let found = first_from_Range _ _ _ c.find.result (Behind b x) (Before b x) c.find.ensures.ran (λ i q k f d w. search (rules, tests)) (λ i q k. search (rules, tests)) in
    end_is b c.requires.1 c.rows-n.ensures.word c.find.result found c.unwrap_or.ensures
