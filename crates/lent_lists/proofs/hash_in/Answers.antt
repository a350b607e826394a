-- `lent_lists::hash_in` meets its contract.
use Prim.Native.Nat.{◌*◌}
use mathlib.Core.Path.{◌≡◌, sym, ◌∙◌}
use native.Mathlib.Omega.{arith}
use Rattle.ident.specs.Words.{hash_bytes}
use Rattle.lent_lists.proofs.Given.{length-hashes, hash_is}
use Rattle.lent_lists.proofs.hash_in.Goals as goal

pub overflow_mul-i : goal.overflow_mul-i
overflow_mul-i c = omega (arith, length-hashes c.args.s.now, c.requires)

pub hash_at-requires : goal.hash_at-requires
hash_at-requires c = omega (arith, length-hashes c.args.s.now, c.requires)

pub returns : goal.returns
returns c =
    let e : c.args.i * hash_bytes ≡ hash_bytes * c.args.i = omega arith in
    rw e at c.hash_at.ensures ∙ sym (hash_is c.args.s.now c.args.i c.requires)
