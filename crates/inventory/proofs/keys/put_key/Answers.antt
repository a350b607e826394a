-- `inventory::keys::put_key` meets its contract.
use Prim.Native.Nat.{◌*◌}
use mathlib.Core.Path.{ap, ◌∙◌}
use native.Mathlib.Omega.{arith}
use Rattle.ident.specs.Number.{Key}
use Rattle.words.specs.Words.{splice}
use Rattle.lines.specs.Values.{named_key}
use Rattle.machine.specs.Call.{key_bytes}
use Rattle.machine.specs.Step.{key_answer}
use Rattle.reading.proofs.Stored.{quad_below}
use Rattle.inventory.proofs.Putting.{key-put}
use Rattle.inventory.proofs.keys.put_key.Goals as goal

pub returns : goal.returns
returns c =
    let q = c.args.key.hash in
    let u = quad_below q (omega arith) (omega arith) (omega arith) (omega arith) in
    let keys = c.args.keys.now in
    key-put keys c.args.i
    (named_key c.args.key) c.requires u
    (c.put_key.ensures ∙ ap (λ (k : Key). splice keys (key_bytes * c.args.i) (key_answer k)) c.from.ensures)
