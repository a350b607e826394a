-- `looking::turn` meets its contract.
use Prim.Native.Nat.{◌+◌}
use mathlib.Core.Path.{refl, sym, ◌∙◌}
use mathlib.Core.List.{[]}
use mathlib.Core.Option.{none}
use native.Mathlib.Omega.{arith}
use Rattle.store.specs.Gather.{gather}
use Rattle.store.proofs.Frame.{sizes}
use Rattle.announcing.specs.Evicts.{part}
use Rattle.looking.proofs.Looked.{turn_ends, turn_goes_on, looks-row}
use Rattle.looking.proofs.turn.Goals.{then-ends_key, else-ends_key}
use Rattle.looking.proofs.turn.Goals as goal

pub returns : goal.returns
returns c =
    λ f w l.
    let now = c.args.clock in
    let i = c.args.i in
    let n = c.args.n in
    let r = c.row_at-r.result in
    let rs = part (i + 1) n f.rows in
    let e = c.ends_key.ensures f w in
    looks-row now n f.rows r i refl c.requires.1 (let z = (sizes w).rows in omega (arith, z, c.requires.2)) (c.row_at-r.ensures f r w) c.with_row.result
    (elim c.if-ends_key.branch [
      | then-ends_key k ↦ turn_ends now r c.args.v c.with_row.result rs (sym e ∙ k.if-ends_key.true)
          (c.with_row.ensures none [] (gather rs) (rw k.key-is (k.before_rows-key.ensures now (gather rs) (k.settled.ensures (gather rs) l))))
      | else-ends_key k ↦ turn_goes_on now r c.args.v c.with_row.result rs (sym e ∙ k.if-ends_key.false) (rw k.key-is at c.with_row.ensures) l
    ])
