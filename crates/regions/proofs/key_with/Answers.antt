-- `regions::key_with` meets its contract.
use mathlib.Core.Path.{ap, ◌∙◌}
use native.Mathlib.Omega.{arith}
use Rattle.ident.specs.declared.Kind.{Kind}
use Rattle.regions.specs.Rows.{key_number}
use Rattle.regions.proofs.Numbered.{key_of_number, below_two}
use Rattle.regions.proofs.key_with.Goals as goal

pub returns : goal.returns
returns c =
    let n = c.args.kind in
    let q = c.args.hash in
    (ap (λ (k : Kind). key_number (record { kind = k; hash = q })) c.from.ensures ∙ key_of_number n q (omega (arith, c.requires)), below_two n q (omega arith) (omega (arith, c.requires)))
