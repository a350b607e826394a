use Rattle.lent_lists.proofs.KeysBack.{key-read}
use Rattle.lent_lists.proofs.key_at.Goals as goal

pub returns : goal.returns
returns c = key-read c.args.u.now c.args.i c.from-kind.result c.requires
    c.record_at-kind.ensures.word c.from-kind.ensures c.record_at-kind.ensures.hash
