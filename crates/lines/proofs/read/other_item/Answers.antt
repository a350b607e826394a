-- `lines::read::other_item` meets its contract.
use borrow.Author.Rules.{rules}
use mathlib.Core.Path.{sym}
use native.Mathlib.Omega.{arith}
use lib.ListN.{length-take}
use Rattle.lines.proofs.Letters.{other_at, other_no_colon, other_no-kind, other_is}
use Rattle.lines.proofs.read.other_item.Goals as goal

pub returns-then-at-f : goal.returns-then-at-f
returns-then-at-f c = other_no_colon c.args.f.now c.seek-at.result c.seek-at.ensures c.if-at-f.true

pub slice_bounds-other_kind-end : goal.slice_bounds-other_kind-end
slice_bounds-other_kind-end c = simp length-take (omega (arith, other_at c.args.f.now c.seek-at.result c.seek-at.ensures))

pub returns-in_err-kind : goal.returns-in_err-kind
returns-in_err-kind c = rw c.from_residual.ensures (other_no-kind c.args.f.now c.seek-at.result c.seek-at.ensures (sym (c.in_err-kind.ensures)))

pub overflow_add-at : goal.overflow_add-at
overflow_add-at c = omega (arith, other_at c.args.f.now c.seek-at.result c.seek-at.ensures, c.if-at-f.false)

pub slice_bounds-hash-count : goal.slice_bounds-hash-count
slice_bounds-hash-count c = omega (arith, other_at c.args.f.now c.seek-at.result c.seek-at.ensures, c.if-at-f.false)

pub slice_bounds-hash-start : goal.slice_bounds-hash-start
slice_bounds-hash-start c = search (rules, other_at c.args.f.now c.seek-at.result c.seek-at.ensures)

pub returns : goal.returns
returns c = other_is c.args.f.now c.seek-at.result c.seek-at.ensures (sym (c.in_ok-kind.ensures)) (sym (c.in_ok-hash.ensures))
