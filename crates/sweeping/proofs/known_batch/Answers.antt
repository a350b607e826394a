use native.Mathlib.Omega.{arith}
use Rattle.requests.proofs.Keeping.{kept_shown}
use Rattle.sweeping.proofs.Walking.{batched}
use Rattle.sweeping.proofs.known_batch.Goals as goal

pub keys_in-v-requires : goal.keys_in-v-requires
keys_in-v-requires c =
    let k = kept_shown c.requires.0 in
    let n = c.rows-n.ensures.word in
    let f = c.after_known-from.ensures.most in
    let z = c.nothing-none.ensures.0 in
    (k, omega (arith, n), omega (arith, z), omega (arith, n, f, z, k.sizes.rows, k.sizes.limit, k.sized.rows_few), c.requires.1)

pub keys_in-requires : goal.keys_in-requires
keys_in-requires c =
    let k = kept_shown c.requires.0 in
    let n = c.rows-n.ensures.word in
    let f = c.after_known-from.ensures.most in
    let z = c.nothing-none.ensures.0 in
    let w = c.keys_in-v.ensures in (
      k,
      f,
      w.few,
      omega (arith, n, f, z, w.near, k.sizes.rows, k.sizes.limit, k.sized.rows_few),
      omega (arith, c.requires.1, c.keys_in-v.auto.out),
    )

pub returns : goal.returns
returns c = batched c.rows-n.ensures.word
    c.after_known-from.ensures c.nothing-none.ensures.0
    c.nothing-none.ensures.1 c.keys_in-v.ensures
    c.keys_in.ensures
