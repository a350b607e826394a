-- `soliciting::info::solicit_package_info` meets its contract.
use mathlib.Core.List.{List}
use Prim.Native.Nat.{ℕ, ◌<◌}
use native.Mathlib.Omega.{arith}
use Rattle.ident.specs.declared.connection.Connection.{Connection}
use Rattle.ident.specs.declared.Wtxid.{Wtxid}
use Rattle.ident.specs.Number.{top}
use Rattle.ident.specs.Words.{hash_num}
use Rattle.lent_lists.specs.Lists.{hashes_in}
use Rattle.machine.specs.declared.clock.Clock.{Clock}
use Rattle.machine.specs.Limits.{word}
use Rattle.soliciting.proofs.Subject.{subject_below}
use Rattle.soliciting.proofs.Soliciting.{Asked, as_soliciting, solicit-barred, announced_kept, solicit-refused, may-keeps, room_left, opened-keeps, solicit_done}
use Rattle.soliciting.proofs.info.solicit_package_info.Goals as goal

-- what the arguments ask
abbrev asked : (n : Connection) (w : Wtxid) (hs : List ℕ) (clock : Clock) → n.number < word → hash_num w.0 < top → Asked
asked n w hs clock small below = record {
  n = n.number;
  h = hash_num w.0;
  hs = hs;
  now = clock.time;
  peer = record { positive = n.positive; small = small };
  small = below;
  late = clock.early;
}

pub returns-then-not-may_own : goal.returns-then-not-may_own
returns-then-not-may_own c =
    let q = asked c.args.n c.args.subject (hashes_in c.args.parents.now) c.args.clock (omega arith) (subject_below c.args.subject c.well_formed.1.1.0) in
    solicit-barred q c.may_own.ensures c.if-not-may_own.true

pub holds-requires : goal.holds-requires
holds-requires c =
    let q = asked c.args.n c.args.subject (hashes_in c.args.parents.now) c.args.clock (omega arith) (subject_below c.args.subject c.well_formed.1.1.0) in
    announced_kept q c.may_own.ensures c.if-not-may_own.false (as_soliciting q c.from-k.ensures c.soliciting.ensures c.announce_at.ensures) c.requires.0

pub returns-then-not-holds : goal.returns-then-not-holds
returns-then-not-holds c =
    let q = asked c.args.n c.args.subject (hashes_in c.args.parents.now) c.args.clock (omega arith) (subject_below c.args.subject c.well_formed.1.1.0) in
    solicit-refused q c.may_own.ensures c.if-not-may_own.false (as_soliciting q c.from-k.ensures c.soliciting.ensures c.announce_at.ensures)
    c.from-k.ensures c.holds.ensures c.if-not-holds.true

pub own_flagged-requires : goal.own_flagged-requires
own_flagged-requires c =
    let q = asked c.args.n c.args.subject (hashes_in c.args.parents.now) c.args.clock (omega arith) (subject_below c.args.subject c.well_formed.1.1.0) in
    let a = as_soliciting q c.from-k.ensures c.soliciting.ensures c.announce_at.ensures in (
      may-keeps q c.may_own.ensures c.if-not-may_own.false a c.from-k.ensures c.holds.ensures c.if-not-holds.false c.requires.2 c.requires.0,
      room_left q c.may_own.ensures c.if-not-may_own.false a c.from-k.ensures c.holds.ensures c.if-not-holds.false c.requires.2 c.requires.0,
    )

pub add_parents-requires : goal.add_parents-requires
add_parents-requires c =
    let q = asked c.args.n c.args.subject (hashes_in c.args.parents.now) c.args.clock (omega arith) (subject_below c.args.subject c.well_formed.1.1.0) in
    let a = as_soliciting q c.from-k.ensures c.soliciting.ensures c.announce_at.ensures in (
      opened-keeps q c.may_own.ensures c.if-not-may_own.false a c.from-k.ensures c.holds.ensures c.if-not-holds.false
          c.requires.2 c.own_flagged.ensures c.requires.0,
      c.requires.1,
    )

pub returns : goal.returns
returns c =
    let q = asked c.args.n c.args.subject (hashes_in c.args.parents.now) c.args.clock (omega arith) (subject_below c.args.subject c.well_formed.1.1.0) in
    let a = as_soliciting q c.from-k.ensures c.soliciting.ensures c.announce_at.ensures in
    solicit_done q c.may_own.ensures c.if-not-may_own.false a c.from-k.ensures c.holds.ensures c.if-not-holds.false
    c.requires.2 c.own_flagged.ensures c.add_parents.ensures
