-- `selecting::consider_within` meets its contract.
use mathlib.Core.Path.{refl}
use Rattle.ident.specs.Words.{key_num}
use Rattle.selecting.proofs.Advancing.{considers}
use Rattle.selecting.proofs.consider_within.Goals as goal

pub returns : goal.returns
returns c = considers (key_num c.args.k)
    c.args.v _ _
    c.requires.0 c.select_within-chosen.ensures
    c.requires.1
    c.args.clock.early
    c.requires.2 refl refl
