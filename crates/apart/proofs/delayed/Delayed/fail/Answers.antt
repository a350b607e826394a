-- `apart::delayed::Delayed::fail` meets its contract.
use Prim.Native.Nat.{◌<◌}
use native.Mathlib.Omega.{arith}
use Rattle.ident.specs.Words.{key_num}
use Rattle.machine.specs.Limits.{word}
use Rattle.announcing.proofs.Lent.{key_low}
use Rattle.apart.proofs.Delays.{fails_pends, fails_kept, fails_with, fails_at_once}
use Rattle.apart.proofs.delayed.Delayed.fail.Goals as goal

pub fail_later-self-requires : goal.fail_later-self-requires
fail_later-self-requires c = fails_pends c.requires c.if-self.true (key_low c.args.k c.well_formed.1.1.0)

pub failed-requires : goal.failed-requires
failed-requires c = fails_kept c.requires c.if-self.false

pub returns-then-self : goal.returns-then-self
returns-then-self c = fails_with (key_num c.args.k) c.args.n c.args.clock c.if-self.true c.fail_later-self.ensures

pub returns : goal.returns
returns c = let late : c.args.clock < word = omega arith in fails_at_once (key_num c.args.k) c.args.n c.args.clock c.if-self.false late (key_low c.args.k c.well_formed.1.1.0) c.failed.ensures
