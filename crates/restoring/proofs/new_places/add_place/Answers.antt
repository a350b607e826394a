-- `restoring::new_places::add_place` meets its contract.
use Prim.Native.Nat.{◌*◌}
use mathlib.Core.Path.{sym}
use native.Mathlib.Omega.{arith}
use lib.Seq.{length-take-le}
use Rattle.restoring.proofs.LineFields.{one_more_lem, few_wtxids, few_parents, front_few, placed, not_placed}
use Rattle.restoring.proofs.new_places.add_place.Goals as goal

pub overflow_mul-n : goal.overflow_mul-n
overflow_mul-n c =
    let a = c.args in
    omega (arith, few_wtxids a.wtxids.now a.parents.now a.r c.requires.0 (rw c.is_some.ensures at c.if-r-is_some.true) (c.wtxid_count-n.ensures a.wtxids.now))

pub overflow_mul-m : goal.overflow_mul-m
overflow_mul-m c =
    let a = c.args in
    omega (arith, few_parents a.wtxids.now a.parents.now a.r c.requires.0 (rw c.is_some.ensures at c.if-r-is_some.true))

pub slice_bounds-append_place-end : goal.slice_bounds-append_place-end
slice_bounds-append_place-end c =
    let a = c.args in
    let count = c.wtxid_count-n in
    let n = few_wtxids a.wtxids.now a.parents.now a.r c.requires.0 (rw c.is_some.ensures at c.if-r-is_some.true) (count.ensures a.wtxids.now) in
    sym (length-take-le (count.result * 32) a.wtxids.now (omega (arith, n, c.requires.1)))

pub slice_bounds-append_place-end-then-r-is_some : goal.slice_bounds-append_place-end-then-r-is_some
slice_bounds-append_place-end-then-r-is_some c =
    let a = c.args in
    let m = few_parents a.wtxids.now a.parents.now a.r c.requires.0 (rw c.is_some.ensures at c.if-r-is_some.true) in
    sym (length-take-le (a.r.parents * 32) a.parents.now (omega (arith, m, c.requires.2)))

pub append_place-requires : goal.append_place-requires
append_place-requires c =
    let a = c.args in
    let g = (rw c.is_some.ensures at c.if-r-is_some.true) in
    let count = c.wtxid_count-n in
    let n = few_wtxids a.wtxids.now a.parents.now a.r c.requires.0 g (count.ensures a.wtxids.now) in
    let m = few_parents a.wtxids.now a.parents.now a.r c.requires.0 g in (
      c.requires.0.is_shown,
      one_more_lem a.wtxids.now a.parents.now a.r c.requires.0 g,
      front_few count.result a.wtxids.now n c.requires.1,
      front_few a.r.parents a.parents.now m c.requires.2,
    )

pub returns-then-r-is_some : goal.returns-then-r-is_some
returns-then-r-is_some c =
    let a = c.args in
    let count = c.wtxid_count-n in
    placed a.wtxids.now a.parents.now a.r c.requires.0 (rw c.is_some.ensures at c.if-r-is_some.true)
    c.requires.1 c.requires.2 count.result
    c.combined_of.ensures
    c.stage_of.ensures count.ensures c.append_place.ensures

pub returns-else-r-is_some : goal.returns-else-r-is_some
returns-else-r-is_some c =
    let a = c.args in
    not_placed a.wtxids.now a.parents.now a.r (rw c.is_some.ensures at c.if-r-is_some.false)
