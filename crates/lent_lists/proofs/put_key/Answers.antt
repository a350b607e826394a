-- `lent_lists::put_key` meets its contract.
use Rattle.ident.specs.Words.{key_num}
use Rattle.lent_lists.proofs.Answer.{key-put}
use Rattle.lent_lists.proofs.put_key.Goals as goal

pub returns : goal.returns
returns c = key-put c.args.u.now c.args.n _ (key_num c.args.k) c.from.ensures c.put_record.ensures
