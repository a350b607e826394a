use Prim.Native.Nat.{◌<◌}
use mathlib.Core.Path.{sym, ◌∙◌}
use native.Mathlib.Omega.{arith}
use Rattle.ident.specs.Words.{key_num}
use Rattle.machine.specs.Limits.{word}
use Rattle.claims.proofs.Known.{known_kept, handed_kept, known_gone}
use Rattle.claims.proofs.forget_known.Goals as goal

pub returns-then-guarded : goal.returns-then-guarded
returns-then-guarded c = known_kept (key_num c.args.k) c.args.clock (λ st s w. sym c.if-guarded.true ∙ c.guarded.ensures st s w)

pub forget-requires : goal.forget-requires
forget-requires c = let v : c.args.clock < word =
    omega (arith, c.well_formed.1.1.0) in handed_kept
    (key_num c.args.k) c.args.clock v
    c.hand_on.ensures c.requires

pub returns : goal.returns
returns c = let v : c.args.clock < word =
    omega (arith, c.well_formed.1.1.0) in
    known_gone (key_num c.args.k)
    c.args.clock v
    c.hand_on.ensures (λ st s w. sym c.if-guarded.false ∙
    c.guarded.ensures st s w) c.forget.ensures
