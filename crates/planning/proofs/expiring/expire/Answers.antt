-- `planning::expiring::expire` meets its contract.
use Prim.Native.Nat.{◌<◌}
use mathlib.Core.Path.{refl, ap, ◌∙◌}
use mathlib.Core.Bool.{not}
use native.Mathlib.Omega.{arith}
use Rattle.machine.specs.Limits.{word}
use Rattle.apart.proofs.OneOwner.{front_kept}
use Rattle.planning.proofs.Readying.{all_silent, all_early}
use borrow.Author.Rules.{rules}
use Rattle.planning.proofs.expiring.expire.Goals as goal

pub next_due-requires : goal.next_due-requires
next_due-requires c = front_kept c.requires.apart

pub returns-then-is_none : goal.returns-then-is_none
returns-then-is_none c = all_early c.next_due.result refl c.next_due.ensures (c.is_none.ensures ∙ ap not c.if-is_none.true)

pub expire_silent-requires : goal.expire_silent-requires
expire_silent-requires c = front_kept c.requires.apart

pub returns-then-c-eq0 : goal.returns-then-c-eq0
returns-then-c-eq0 c = let late : c.args.clock < word = omega arith in all_silent late c.if-c-eq0.true c.expire_silent.auto.s c.expire_silent.ensures (search rules) refl
