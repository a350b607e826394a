-- `soliciting::same_package` meets its contract.
use Prim.Native.Nat.{◌-◌}
use mathlib.Core.Path.{◌≡◌, refl, sym, ◌∙◌}
use native.Mathlib.Omega.{arith}
use Rattle.std.proofs.Common.{rules, tests}
use Rattle.std.proofs.lemmas.Iterator.{serves_from_Range, YieldsList-from_range}
use Rattle.std.proofs.lemmas.Iterator.Search.{all_from_yields_List}
use Rattle.ident.specs.Number.{wtxid}
use Rattle.ident.specs.Words.{hash_num}
use Rattle.lent_lists.specs.Lists.{hashes_in}
use Rattle.machine.specs.Table.{at}
use Rattle.package_stages.specs.Changes.{wtxids_of, combined_of}
use Rattle.soliciting.proofs.SamePackage.{compared, other_length, same_at, same_by}
use Rattle.soliciting.proofs.same_package.Goals as goal

pub returns-then-hashes-count : goal.returns-then-hashes-count
returns-then-hashes-count c = λ h small st s w p.
    let q = at (wtxid h) st.table in
    let x = compared c.same_hash.ensures (c.combined_at-c.ensures h small st s w p) refl
    c.if-not-same_hash.false in
    other_length (combined_of q.«package») (hash_num c.args.combined) (wtxids_of q.«package») (hashes_in c.args.wtxids.now) x
    (λ e. c.if-hashes-count.true (c.hashes.ensures ∙ sym e ∙ sym (c.wtxids-count.ensures.1 h small st s w p)))

pub all-requires-clause-callable : goal.all-requires-clause-callable
all-requires-clause-callable c =
    let e = c.wtxids-count.ensures.1 in
    serves_from_Range (λ j q k. search (rules, tests)) (λ j o l. search (rules, tests))

pub returns : goal.returns
returns c = λ h small st s w p.
    let a = wtxids_of (at (wtxid h) st.table).«package» in
    let b = hashes_in c.args.wtxids.now in
    let n = c.wtxids-count.result in
    let m = c.wtxids-count.ensures.1 h small st s w p in
    let x = compared c.same_hash.ensures (c.combined_at-c.ensures h small st s w p) refl
    c.if-not-same_hash.false in
    let whole : n - 0 ≡ n = omega arith in
    all_from_yields_List (same_at a b) _ _ _ c.all.ensures.ran (YieldsList-from_range 0 n n refl whole) (λ j v q k. search (rules, tests))
    ∙ same_by (combined_of (at (wtxid h) st.table).«package») (hash_num c.args.combined) a b x n m (omega (arith, c.if-hashes-count.false, c.hashes.ensures))
