-- `lent_lists::put_record` meets its contract.
use Rattle.ident.specs.Words.{hash_num}
use Rattle.lent_lists.proofs.Answer.{record-put}
use Rattle.lent_lists.proofs.put_record.Goals as goal

pub returns : goal.returns
returns c = record-put c.args.w c.args.word (hash_num c.args.h) c.requires c.put.ensures c.put_hash.ensures
