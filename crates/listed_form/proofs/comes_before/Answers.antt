-- `listed_form::comes_before` meets its contract: a key's number is its place.
use Prim.Native.Nat.{ℕ}
use mathlib.Core.Path.{ap, ◌∙◌}
use lib.Dec.{ltb}
use Rattle.ident.specs.Number.{place}
use Rattle.regions.specs.Rows.{key_number}
use Rattle.regions.proofs.Hashes.{key_place}
use Rattle.listed_form.specs.Given.{key_in}
use Rattle.listed_form.proofs.comes_before.Goals as goal

pub returns : goal.returns
returns c =
    let a = c.args.a in
    let b = c.args.b in
    c.key_less.ensures ∙ ap (λ (x : ℕ). ltb x (key_number b)) (key_place a) ∙ ap (λ (x : ℕ). ltb (place (key_in a)) x) (key_place b)
