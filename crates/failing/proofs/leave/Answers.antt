use Rattle.ident.specs.Words.{key_num}
use Rattle.ident.proofs.Words.{key-four, hash_below}
use Rattle.failing.proofs.Leaving.{cut_kept, left_from}
use Rattle.failing.proofs.leave.Goals as goal

pub ready_all-requires : goal.ready_all-requires
ready_all-requires c =
    let kept = c.requires.0 in
    let free = c.requires.1 kept.state kept.sound kept.writes in
    cut_kept kept.state kept.sound (key_num c.args.k) (hash_below c.args.k.hash
    (key-four c.args.k c.well_formed.1.0))
    c.args.n c.args.clock free
    (c.withdraw.ensures kept.state kept.sound kept.writes free)

pub returns : goal.returns
returns c = λ st s w u.
    let free = c.requires.1 st s w in
    left_from st s (key_num c.args.k)
    (hash_below c.args.k.hash
    (key-four c.args.k c.well_formed.1.0))
    c.args.n c.args.clock free
    (c.withdraw.ensures st s w free) c.ready_all.ensures
