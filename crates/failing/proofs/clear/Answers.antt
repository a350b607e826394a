use Rattle.ident.specs.Words.{key_num}
use Rattle.ident.proofs.Words.{key-four, hash_below}
use Rattle.failing.proofs.Clearing.{shut_kept, cleared_from}
use Rattle.failing.proofs.clear.Goals as goal

pub disown-requires : goal.disown-requires
disown-requires c =
    let kept = c.requires in
    shut_kept kept.state kept.sound (key_num c.args.k) (hash_below c.args.k.hash
    (key-four c.args.k c.well_formed.1.0))
    (c.close.ensures kept.state kept.sound kept.writes tt)

pub returns : goal.returns
returns c = λ st s w e. cleared_from st s (key_num c.args.k) (hash_below
    c.args.k.hash (key-four c.args.k
    c.well_formed.1.0)) c.args.n e
    (c.close.ensures st s w tt) c.disown.ensures
