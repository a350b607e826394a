-- `selecting::phase::keys_over` meets its contract.
use Prim.Native.Nat.{◌+◌, ◌-◌, ◌≤◌}
use mathlib.Core.Path.{sym, ap, ◌∙◌}
use mathlib.Core.List.{[], ◌∷◌}
use native.Mathlib.Omega.{arith}
use Rattle.ident.specs.Number.{Key}
use Rattle.store.specs.Flat.{rows_of}
use Rattle.sweeping.specs.Batches.{keys_over}
use Rattle.sweeping.proofs.Rounds.{over_none}
use Rattle.selecting.proofs.Walked.{scans_as, scans_more}
use Rattle.selecting.proofs.Rowwise.{row_ends, row_goes_on}
use Rattle.selecting.proofs.phase.keys_over.Goals.{then-ends_key, else-ends_key}
use Rattle.selecting.proofs.phase.keys_over.Goals as goal

pub loop-i-preserved : goal.loop-i-preserved
loop-i-preserved c =
    let i = c.loop-i.i in
    let to = c.args.rows.to in
    let x = c.loop-i.invariant.3 in
    let at = c.loop-i.invariant.0 in
    let less = c.loop-i-test.true in
    let next : (c.args.rows.from ≤ i + 1) × (i + 1 ≤ to) = (omega (arith, at), omega (arith, less)) in
    elim c.if-ends_key.branch [
      | then-ends_key k ↦ rw (k.s-is, k.picks-is, k.w-is) (
        next,
        k.consider_next-w.auto.s ∙ c.loop-i.invariant.1,
        k.consider_next-w.auto.picks ∙ c.loop-i.invariant.2,
        scans_more x (λ st. keys_over (i + 1) to (rows_of st.table)) _ (omega (arith, at)) c.if-w.false k.consider_next-w.ensures
            (λ st l s m. row_ends s m i to less (omega (arith, c.requires.3, x.rows_same)) c.row_at-r.ensures c.ends_key.ensures k.if-ends_key.true
            ∙ ap (λ (j : Key). j ∷ keys_over (i + 1) to (rows_of st.table)) (sym k.key_of.ensures)),
      )
      | else-ends_key k ↦ rw (k.s-is, k.picks-is, k.w-is) (
        next,
        c.loop-i.invariant.1,
        c.loop-i.invariant.2,
        scans_as x (λ st. keys_over (i + 1) to (rows_of st.table)) _ (omega (arith, at))
            (λ st l s m. row_goes_on s m i to less (omega (arith, c.requires.3, x.rows_same)) c.row_at-r.ensures c.ends_key.ensures k.if-ends_key.false),
      )
    ]

pub returns : goal.returns
returns c =
    let at = c.loop-i.invariant.0 in
    let i = c.loop-i.i in
    let to = c.args.rows.to in
    let d : i - c.args.rows.from ≤ to - c.args.rows.from = omega (arith, at) in
    scans_as c.loop-i.invariant.3 (λ st. []) _ d (λ st l s m. over_none (rows_of st.table) i to (omega (arith, c.loop-i-test.false)))
