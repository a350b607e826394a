-- `soliciting::info::own_flagged` meets its contract.
use Rattle.ident.specs.Words.{hash_num, key_num}
use Rattle.ident.proofs.Words.{hash-four, hash_below}
use Rattle.soliciting.proofs.Opening.{owned_kept, owned-place, opened-writes}
use Rattle.soliciting.proofs.info.own_flagged.Goals as goal

pub open_info-requires : goal.open_info-requires
open_info-requires c =
    let h = c.args.h in
    let g = c.requires.0 in
    let small = hash_below h (hash-four h c.well_formed.1.1.0) in
    let m = g.holds in
    let key = c.from-k in (
      owned_kept g.state g.sound c.args.n (hash_num h) c.args.clock.time small c.args.clock.early m (key_num key.result) key.ensures
          c.own.ensures g.writes,
      owned-place g.state g.sound c.args.n (hash_num h) c.args.clock.time small c.args.clock.early m (key_num
          key.result) key.ensures c.own.ensures g.writes c.requires.1,
    )

pub returns : goal.returns
returns c = λ st s w m.
    let h = c.args.h in
    let small = hash_below h (hash-four h c.well_formed.1.1.0) in
    let key = c.from-k in
    opened-writes st s c.args.n (hash_num h) c.args.clock.time small c.args.clock.early m (key_num key.result) key.ensures
    c.own.ensures w c.open_info.ensures
