-- `listed_counts::fronts::next_front` meets its contract.
use Prim.Native.Nat.{ℕ, ◌<◌, ◌≤◌}
use mathlib.Core.Bool.{false}
use mathlib.Core.Logic.{inl, inr}
use native.Mathlib.Omega.{arith}
use lib.Dec.{ltb}
use borrow.Author.Tests.{ltb-true, ltb-false}
use Rattle.std.specs.Prelude.{◌↔◌, IsTrue}
use Rattle.machine.proofs.Tests.{test, never}
use Rattle.machine.proofs.Parting.{end_most}
use Rattle.listed_counts.proofs.FrontFields.{front_none, front-is}
use Rattle.listed_counts.proofs.fronts.next_front.Goals as goal

not_empty : (m n : ℕ) → (IsTrue false ↔ (n ≤ m)) → m < n
not_empty m n e = elim (test (ltb m n)) [
  | inl t ↦ ltb-true m n t
  | inr t ↦ never (e.1 (ltb-false m n t))
]

pub returns-then-end-lines-clause-front : goal.returns-then-end-lines-clause-front
returns-then-end-lines-clause-front c =
    front_none c.args.lines.now.text.now c.args.lines.now.at (not_empty _ _ c.if-is_empty.ensures) c.find-end.ensures c.if-end-lines.true

pub slice_bounds-front_in-end : goal.slice_bounds-front_in-end
slice_bounds-front_in-end c = omega (arith, end_most 10 c.args.lines.now.text.now c.args.lines.now.at (omega arith) c.find-end.ensures)

pub returns-clause-front : goal.returns-clause-front
returns-clause-front c = front-is c.args.lines.now.text.now c.args.lines.now.at (omega arith) c.find-end.ensures c.if-end-lines.false c.front_in-front.ensures
