-- `ident::same_hash_other_kind` meets its contract.
use mathlib.Core.Path.{ap}
use Rattle.ident.specs.declared.Kind.{Kind}
use Rattle.ident.specs.Words.{hash_num}
use Rattle.ident.proofs.same_hash_other_kind.Goals as goal

pub returns : goal.returns
returns c = ap (λ (k : Kind). record { kind = k; hash = hash_num c.args.k.hash }) c.swapped.ensures
