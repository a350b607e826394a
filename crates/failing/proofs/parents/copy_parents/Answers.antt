use Prim.Native.Nat.{◌*◌, ◌≤◌}
use mathlib.Core.Path.{refl}
use native.Mathlib.Omega.{arith}
use lib.ListN.{length}
use Rattle.ident.specs.Words.{hash_num, hash_bytes}
use Rattle.machine.specs.Limits.{max_parents}
use Rattle.failing.proofs.Copying.{copied_none, copied_more, copied_all}
use Rattle.failing.proofs.Handing.{few_first, first_are}
use Rattle.failing.proofs.parents.copy_parents.Goals as goal

pub loop-j-init : goal.loop-j-init
loop-j-init c = copied_none c.args.s.now c.args.i c.parents-n.result c.args.list.now

pub loop-j-preserved : goal.loop-j-preserved
loop-j-preserved c = copied_more (hash_num c.parent_at-h.result) (c.loop-j.j * hash_bytes)
    c.loop-j.invariant c.loop-j-test.true
    c.parents-n.ensures.0 c.requires.2
    c.parents-n.ensures.1 c.parent_at-h.ensures (omega arith) c.put_hash.ensures

pub returns : goal.returns
returns c =
    let m = c.parents-n.result in
    let few : m ≤ max_parents = c.parents-n.ensures.0 in
    let room : hash_bytes * max_parents ≤ length c.loop-j.list = omega (arith, c.loop-j.invariant.long, c.requires.2) in (
      few_first c.loop-j.list m _ refl few room,
      λ h y st s w p. first_are c.loop-j.list m _ refl few room _ (copied_all c.loop-j.invariant (omega (arith, c.loop-j-test.false)) c.parents-n.ensures.1 h y st s w p),
    )
