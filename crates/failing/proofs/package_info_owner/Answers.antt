use Prim.Native.Nat.{◌≤◌, ◌<◌}
use mathlib.Core.Path.{sym}
use Rattle.std.proofs.Common.{rules, tests}
use Rattle.ident.specs.Words.{key_num}
use Rattle.machine.proofs.Table.{lawful_at}
use Rattle.failing.proofs.PackageInfo.{flagged, plain, asked-plain, asked-owner, asked-none, kept_some, kept_none, owner_told}
use Rattle.failing.proofs.Releasing.{named_positive}
use Rattle.failing.proofs.package_info_owner.Goals as goal

pub returns-then-ne : goal.returns-then-ne
returns-then-ne c = λ st s w.
    let l = lawful_at (key_num c.args.k) st.table s.bounded.lawful in
    let x = c.request_at-r.ensures.is st s w in
    sym (owner_told (key_num c.args.k) c.args.clock st.table (asked-plain l x c.args.clock (plain l x c.ne.ensures c.if-ne.true)))

pub returns-in_err-owner : goal.returns-in_err-owner
returns-in_err-owner c = λ st s w.
    let v = c.args.clock in
    let l = lawful_at (key_num c.args.k) st.table s.bounded.lawful in
    let x = c.request_at-r.ensures.is st s w in
    let late = kept_none _ (λ o. o.deadline ≤ v) _ _ c.filter.ensures c.in_err-owner.was (λ o k. search (rules, tests)) in
    rw c.from_residual.ensures (sym (owner_told (key_num c.args.k) v st.table (asked-none l x v (flagged l x c.ne.ensures c.if-ne.false) late)))

pub invariant_of-result : goal.invariant_of-result
invariant_of-result c =
    let kept = kept_some _ (λ o. Unit {0}) _ _ c.filter.ensures c.in_ok-owner.was (λ o k. tt) in
    record { positive = named_positive (key_num c.args.k) (λ st s w. c.request_at-r.ensures.is st s w) c.requires kept.0 }

pub returns : goal.returns
returns c = λ st s w.
    let v = c.args.clock in
    let l = lawful_at (key_num c.args.k) st.table s.bounded.lawful in
    let x = c.request_at-r.ensures.is st s w in
    let kept = kept_some _ (λ o. v < o.deadline) _ _ c.filter.ensures c.in_ok-owner.was (λ o k. search (rules, tests)) in
    owner_told (key_num c.args.k) v st.table (asked-owner l x v (flagged l x c.ne.ensures c.if-ne.false) kept.0 kept.1)
