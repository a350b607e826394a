use Prim.Native.Nat.{◌<◌}
use native.Mathlib.Omega.{arith}
use Rattle.ident.specs.Words.{key_num}
use Rattle.machine.specs.Limits.{word}
use Rattle.handing.proofs.Dropping.{drop_kept, drop_peers, drop-room, dropped}
use Rattle.announcing.proofs.Lent.{key_low}
use Rattle.handing.proofs.drop_owned.Goals as goal

pub copy_conns-conns-requires : goal.copy_conns-conns-requires
copy_conns-conns-requires c = let v : c.args.clock < word =
    omega (arith, c.well_formed.1.1.1.0) in
    drop_kept (key_num c.args.k) (key_low c.args.k c.well_formed.1.0)
    c.args.n.number
    c.args.clock v c.failed.ensures
    c.requires.0

pub announce_each-requires : goal.announce_each-requires
announce_each-requires c =
    let v : c.args.clock < word =
    omega (arith, c.well_formed.1.1.1.0) in
    let small = key_low c.args.k c.well_formed.1.0 in (
      drop_kept (key_num c.args.k) small
          c.args.n.number
          c.args.clock v
          c.failed.ensures
          c.requires.0,
      c.parents_for-parents.ensures.0,
      drop_peers (key_num c.args.k)
          small c.args.n.number
          c.args.clock v
          c.failed.ensures
          c.requires.1 _ c.parents_for-parents.ensures.1 _
          c.copy_conns-conns.ensures
          c.requires.0,
      c.requires.2,
      drop-room (key_num c.args.k)
          small c.args.n.number
          c.args.clock v
          c.failed.ensures
          c.requires.1 _ c.parents_for-parents.ensures.1 _
          c.copy_conns-conns.ensures
          c.args.u.now
          c.args.c
          c.requires.0
          c.requires.3,
    )

pub returns : goal.returns
returns c =
    let v : c.args.clock < word = omega (arith, c.well_formed.1.1.1.0) in
    let small = key_low c.args.k c.well_formed.1.0 in
    dropped (key_num c.args.k) small c.args.n.number c.args.clock v c.failed.ensures
    c.requires.1 _ c.parents_for-parents.ensures.1 _
    c.copy_conns-conns.ensures
    c.announce_each.ensures
