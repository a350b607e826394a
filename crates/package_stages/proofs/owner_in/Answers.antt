-- `package_stages::owner_in` meets its contract: the first row that owns is found among those of the window.
use mathlib.Core.Path.{ap}
use native.Mathlib.Omega.{arith}
use Rattle.std.proofs.Common.{rules, tests}
use Rattle.std.proofs.lemmas.Iterator.{first_from_Range}
use Rattle.regions.specs.declared.Row.{Row}
use Rattle.package_stages.proofs.Owners.{Owns, OwnsNot}
use Rattle.package_stages.proofs.owner_in.Goals as goal

pub returns-in_err-i : goal.returns-in_err-i
returns-in_err-i c =
    let b = c.args.s.now in
    let found = first_from_Range _ _ _ c.find.result (Owns b) (OwnsNot b) c.find.ensures.ran (λ i q k f d w. search (rules, tests)) (λ i q k. search (rules, tests)) in
    let none = rw c.in_err-i.was at found in
    rw c.from_residual.ensures (λ f d w j l h. none j l h f d w)

pub row_at-r-requires : goal.row_at-r-requires
row_at-r-requires c =
    let b = c.args.s.now in
    let found = first_from_Range _ _ _ c.find.result (Owns b) (OwnsNot b) c.find.ensures.ran (λ i q k f d w. search (rules, tests)) (λ i q k. search (rules, tests)) in
    let here = rw c.in_ok-i.was at found in
    (c.requires.0, omega (arith, here.1, c.requires.1))

pub returns : goal.returns
returns c = λ f d w.
    let b = c.args.s.now in
    let found = first_from_Range _ _ _ c.find.result (Owns b) (OwnsNot b) c.find.ensures.ran (λ i q k f d w. search (rules, tests)) (λ i q k. search (rules, tests)) in
    let here = rw c.in_ok-i.was at found in
    let e = c.row_at-r.ensures f d w in
    record {
      index = c.in_ok-i.i;
      least = here.0;
      most = here.1;
      owns = here.2 f d w;
      connection = ap (λ (r : Row). r.conn) e;
      deadline = ap (λ (r : Row). r.deadline) e;
    }
