use borrow.Author.Rules.{rules}
use native.Mathlib.Omega.{arith}
use Prim.Native.Nat.{◌<◌}
use mathlib.Core.Path.{◌≡◌}
use lib.ListN.{length}
use Rattle.words.specs.Words.{words}
use Rattle.words.proofs.Words.{length-words}
use Rattle.words.proofs.Zeros.{seen_none, seen_turn, seen_decides}
use Rattle.words.proofs.is_zero.Goals as goal

pub loop-k-init : goal.loop-k-init
loop-k-init c = (search rules, search rules, seen_none _ _)

pub loop-k-preserved : goal.loop-k-preserved
loop-k-preserved c =
    let a = c.args in
    let l = c.loop-k in
    let h : l.k < length (words a.s.now) = omega (arith, length-words a.s.now) in
    (search rules, search rules, seen_turn (words a.s.now) a.a l.k (omega arith) h l.invariant.2 c.get-seen.ensures)

pub returns : goal.returns
returns c =
    let a = c.args in
    let e : a.b ≡ c.loop-k.k = omega arith in
    rw e (seen_decides c.loop-k.invariant.2)
