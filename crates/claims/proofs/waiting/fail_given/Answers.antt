use Prim.Native.Nat.{◌<◌}
use mathlib.Core.Path.{ap}
use native.Mathlib.Omega.{arith}
use lib.ListN.{length}
use Rattle.machine.specs.Limits.{word}
use Rattle.machine.proofs.Fail.{Peer}
use Rattle.claims.specs.Awaited.{entries_in, given_in, hash_found}
use Rattle.claims.proofs.Naming.{somes_given}
use Rattle.claims.proofs.Listing.{failed_none, failed_kept, failed-fits, failed_few, failed-room, failed_more, failed_done}
use Rattle.claims.proofs.waiting.fail_given.Goals as goal

pub loop-i-init : goal.loop-i-init
loop-i-init c = failed_none _ _ c.args.n.number c.args.clock
    (entries_in c.args.given)

pub fail_entry-c-requires : goal.fail_entry-c-requires
fail_entry-c-requires c =
    let a = c.args in
    let peer : Peer a.n.number = record { positive = c.args.n.positive; small = omega arith } in
    let late : a.clock < word = omega arith in
    let v = c.loop-i.invariant in
    let inside : c.loop-i.i < length (entries_in a.given) =
    omega (arith, c.count-count.ensures, c.loop-i-test.true) in
    let given = somes_given a.given in
    let kept = c.requires.0 in (
      failed_kept v peer late kept,
      failed-fits v peer late kept (ap length given) c.requires.1,
      failed-room v peer late kept (ap length given) c.requires.1 (hash_found c.get.result) inside
          c.get.ensures c.requires.2,
      failed_few v peer late kept,
    )

pub loop-i-preserved : goal.loop-i-preserved
loop-i-preserved c =
    let a = c.args in
    let peer : Peer a.n.number = record { positive = c.args.n.positive; small = omega arith } in
    let late : a.clock < word = omega arith in
    let v = c.loop-i.invariant in
    let inside : c.loop-i.i < length (entries_in a.given) = omega (
      arith,
      c.count-count.ensures,
      c.loop-i-test.true,
    ) in
    failed_more v peer late (hash_found c.get.result) inside c.get.ensures
    c.requires.2 (omega (arith, c.fail_entry-c.auto)) (omega (arith, c.fail_entry-c.auto))
    c.fail_entry-c.ensures

pub returns : goal.returns
returns c = failed_done (given_in c.args.given) c.loop-i.invariant (omega (arith, c.count-count.ensures, c.loop-i-test.false))
    (somes_given c.args.given)
