use mathlib.Core.Path.{refl}
use Rattle.ident.specs.Words.{key_num}
use Rattle.requests.proofs.HashRows.{kind_spans}
use Rattle.requests.specs.Changes.{candidate_of}
use Rattle.announcing.proofs.Entering.{room_in, answered-room}
use Rattle.announcing.proofs.Lent.{key_low}
use Rattle.announcing.proofs.keyed.announce_in.Goals as goal

pub push_in-requires : goal.push_in-requires
push_in-requires c =
    let kept = c.requires.0 in (
      kept,
      room_in kept.state kept.writes (c.in-Enters.ensures kept.state kept.sound kept.writes).room,
      kind_spans (key_num c.args.k) c.requires.1 refl c.of_kind.ensures,
    )

pub returns-in-Enters : goal.returns-in-Enters
returns-in-Enters c = answered-room (key_num c.args.k) (candidate_of c.args.c) c.in-Enters.ensures
    (key_low c.args.k c.well_formed.1.0) c.push_in.ensures
