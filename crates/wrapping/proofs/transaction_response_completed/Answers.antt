-- `wrapping::transaction_response_completed` meets its contract.
use native.Mathlib.Omega.{arith}
use Rattle.ident.specs.Words.{key_num}
use Rattle.ident.proofs.Words.{key-four, hash_below}
use Rattle.wrapping.proofs.Completing.{after_kept, both_failed}
use Rattle.wrapping.proofs.transaction_response_completed.Goals as goal

pub failed-requires-2 : goal.failed-requires-2
failed-requires-2 c =
    let k = c.from.result in
    after_kept (key_num k) (hash_below k.hash (key-four k c.from.type_inv)) c.args.n c.args.clock (omega arith)
    c.failed.ensures c.requires

pub returns : goal.returns
returns c =
    let k = c.from.result in
    both_failed (key_num k) (hash_below k.hash (key-four k c.from.type_inv)) c.args.n c.args.clock
    (omega arith) c.failed.ensures _ _ _ c.from.ensures
    c.from-2.ensures c.failed-2.ensures
