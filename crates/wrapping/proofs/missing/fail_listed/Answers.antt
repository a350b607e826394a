-- `wrapping::missing::fail_listed` meets its contract.
use Rattle.ident.specs.Words.{key_num}
use Rattle.wrapping.proofs.Unfound.{key-listed, key-unlisted}
use Rattle.wrapping.proofs.missing.fail_listed.Goals as goal

pub returns-then-failed : goal.returns-then-failed
returns-then-failed c = key-listed (key_num c.args.k)
    c.args.n
    c.args.clock c.failed.ensures
    c.if-failed.true c.requires.1 c.put_key.ensures

pub returns : goal.returns
returns c = key-unlisted (key_num c.args.k) c.args.n
    c.args.clock c.failed.ensures c.if-failed.false
