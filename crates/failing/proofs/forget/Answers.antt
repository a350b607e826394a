use Rattle.ident.specs.Words.{key_num}
use Rattle.ident.proofs.Words.{key-four, hash_below}
use Rattle.failing.proofs.Forgetting.{released, forgotten}
use Rattle.failing.proofs.forget.Goals as goal

pub drop_all-requires : goal.drop_all-requires
drop_all-requires c = released (key_num c.args.k) (hash_below c.args.k.hash
    (key-four c.args.k c.well_formed.1.0))
    c.requires c.release.ensures

pub returns : goal.returns
returns c = λ st s w u. forgotten st s (key_num c.args.k)
    (hash_below c.args.k.hash
    (key-four c.args.k c.well_formed.1.0))
    (c.release.ensures st s w tt) c.drop_all.ensures
