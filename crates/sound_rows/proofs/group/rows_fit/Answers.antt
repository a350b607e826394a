use native.Mathlib.Omega.{arith}
use mathlib.Core.Path.{◌≡◌}
use Rattle.words.specs.Words.{words}
use Rattle.regions.specs.Rows.{quad_number}
use Rattle.ident.specs.declared.Kind.TheVariants.{Txid, Wtxid}
use Rattle.machine.proofs.Tests.{and_left, and_right}
use Rattle.sound_rows.proofs.ConnMarks.{distinct_both}
use Rattle.sound_rows.proofs.Groups.{group_off, off_turn, off_stop, halves, groups_end, walked_run}
use Rattle.sound_rows.specs.Groups.{Fitting}
use Rattle.sound_rows.proofs.Fitting.{refused, granted, half_none, half_turn, halves_fit, halves_follow}
use Rattle.sound_rows.proofs.Rows.{rows_in_order}
use Rattle.sound_rows.proofs.Halves.{txid_level, wtxid_level, txid_kind, wtxid_kind, run_fits}
use Rattle.sound_rows.proofs.group.rows_fit.Goals as goal

pub loop-i-init : goal.loop-i-init
loop-i-init c =
    let w = words c.args.rows.bytes.now in
    let m = c.seek_row-m.result in
    let n = c.args.rows.count in (
      omega arith,
      omega arith,
      omega (arith, c.seek_row-m.ensures.most),
      half_none Txid w 0 m,
      half_none Wtxid w m n,
      λ s. halves w m n c.seek_row-m.ensures.most,
    )

pub returns-then-not-a : goal.returns-then-not-a
returns-then-not-a c =
    let w = words c.args.rows.bytes.now in
    let n = c.args.rows.count in
    let m = c.seek_row-m.result in
    let left = rw (c.new.ensures.0, c.new.ensures.1, c.new.ensures.2) at c.walk-a.ensures in
    λ s.
    let x = txid_level n w s.0 m c.seek_row-m.ensures in
    let k = txid_kind n w s.0 m c.seek_row-m.ensures in
    let f = run_fits n w s.0 (omega (arith, c.seek_row-m.ensures.most)) (λ q a b. k q b) (walked_run 0 (omega arith) x c.least_hash-h.ensures.left left) left.same in
    refused (Fitting Txid w c.loop-i.i m (quad_number c.least_hash-h.result) c.walk-a.result.to) c.walk-a.result.fit c.if-not-a.true left.fit f

pub returns-then-not-b : goal.returns-then-not-b
returns-then-not-b c =
    let w = words c.args.rows.bytes.now in
    let n = c.args.rows.count in
    let m = c.seek_row-m.result in
    let right = rw (c.new-in-loop-i.ensures.0, c.new-in-loop-i.ensures.1, c.new-in-loop-i.ensures.2) at c.walk-b.ensures in
    λ s.
    let y = wtxid_level n w s.0 m c.seek_row-m.ensures in
    let k = wtxid_kind n w s.0 m c.seek_row-m.ensures in
    let f = run_fits n w s.0 (omega arith) (λ q a b. k q (omega arith) b) (walked_run m (omega arith) y c.least_hash-h.ensures.right right) right.same in
    refused (Fitting Wtxid w c.loop-i.j n (quad_number c.least_hash-h.result) c.walk-b.result.to) c.walk-b.result.fit c.if-not-b.true right.fit f

pub group_fits-requires : goal.group_fits-requires
group_fits-requires c =
    let w = words c.args.rows.bytes.now in
    let i = c.loop-i.i in
    let j = c.loop-i.j in
    let a = c.walk-a.result in
    let b = c.walk-b.result in
    let left = rw (c.new.ensures.0, c.new.ensures.1, c.new.ensures.2) at c.walk-a.ensures in
    let right = rw (c.new-in-loop-i.ensures.0, c.new-in-loop-i.ensures.1, c.new-in-loop-i.ensures.2) at c.walk-b.ensures in
    rw (c.new-txid.ensures.0, c.new-txid.ensures.1, c.new-txid.ensures.2, c.new-wtxid.ensures.0, c.new-wtxid.ensures.1, c.new-wtxid.ensures.2) (record {
      owners = omega (arith, left.owners, right.owners);
      distinct = λ o. distinct_both w i a.to j b.to _ _ _ _ (left.once (and_left a.once b.once o)) (right.once (and_right a.once b.once o));
    })

pub returns-then-not-group_fits : goal.returns-then-not-group_fits
returns-then-not-group_fits c =
    let w = words c.args.rows.bytes.now in
    let n = c.args.rows.count in
    let m = c.seek_row-m.result in
    let i = c.loop-i.i in
    let j = c.loop-i.j in
    let left = rw (c.new.ensures.0, c.new.ensures.1, c.new.ensures.2) at c.walk-a.ensures in
    let right = rw (c.new-in-loop-i.ensures.0, c.new-in-loop-i.ensures.1, c.new-in-loop-i.ensures.2) at c.walk-b.ensures in
    let fits = rw (c.new-txid.ensures.0, c.new-txid.ensures.1, c.new-txid.ensures.2, c.new-wtxid.ensures.0, c.new-wtxid.ensures.1, c.new-wtxid.ensures.2)
    at c.if-not-group_fits.ensures in
    λ s.
    let x = txid_level n w s.0 m c.seek_row-m.ensures in
    let y = wtxid_level n w s.0 m c.seek_row-m.ensures in
    let least = c.least_hash-h.ensures in
    off_stop (c.loop-i.invariant.5 s.0)
    (group_off w i m j n (quad_number c.least_hash-h.result) c.walk-a.result.to c.walk-b.result.to (omega arith) (omega arith) x y least
    (walked_run 0 (omega arith) x least.left left) (walked_run m (omega arith) y least.right right))
    fits s.1

pub loop-i-preserved : goal.loop-i-preserved
loop-i-preserved c =
    let w = words c.args.rows.bytes.now in
    let n = c.args.rows.count in
    let m = c.seek_row-m.result in
    let i = c.loop-i.i in
    let j = c.loop-i.j in
    let left = rw (c.new.ensures.0, c.new.ensures.1, c.new.ensures.2) at c.walk-a.ensures in
    let right = rw (c.new-in-loop-i.ensures.0, c.new-in-loop-i.ensures.1, c.new-in-loop-i.ensures.2) at c.walk-b.ensures in
    let fits = rw (c.new-txid.ensures.0, c.new-txid.ensures.1, c.new-txid.ensures.2, c.new-wtxid.ensures.0, c.new-wtxid.ensures.1, c.new-wtxid.ensures.2)
    at c.if-not-group_fits.ensures in (
      left.most,
      omega (arith, right.least),
      right.most,
      half_turn c.loop-i.invariant.3 (omega arith) left.same (granted (Fitting Txid w i m (quad_number c.least_hash-h.result) c.walk-a.result.to) c.walk-a.result.fit c.if-not-a.false left.fit),
      half_turn c.loop-i.invariant.4 (omega arith) right.same (granted (Fitting Wtxid w j n (quad_number c.least_hash-h.result) c.walk-b.result.to) c.walk-b.result.fit c.if-not-b.false right.fit),
      λ s.
          let x = txid_level n w s m c.seek_row-m.ensures in
          let y = wtxid_level n w s m c.seek_row-m.ensures in
          let least = c.least_hash-h.ensures in
          off_turn (c.loop-i.invariant.5 s)
          (group_off w i m j n (quad_number c.least_hash-h.result) c.walk-a.result.to c.walk-b.result.to (omega arith) (omega arith) x y least
          (walked_run 0 (omega arith) x least.left left) (walked_run m (omega arith) y least.right right))
          fits,
    )

pub returns : goal.returns
returns c =
    let w = words c.args.rows.bytes.now in
    let n = c.args.rows.count in
    let m = c.seek_row-m.result in
    let v = c.loop-i.invariant in
    let e : c.loop-i.i ≡ m = omega arith in
    let g : c.loop-i.j ≡ n = omega arith in
    let x = rw e at v.3 in
    let y = rw g at v.4 in
    let s = rows_in_order w n (halves_fit x y) (halves_follow x y) in
    (s, groups_end w c.loop-i.i m c.loop-i.j n (omega arith) (omega arith) (v.5 s))
