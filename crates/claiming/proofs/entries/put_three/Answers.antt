-- `claiming::entries::put_three` meets its contract.
use Rattle.claiming.proofs.Stored.{three-put}
use Rattle.claiming.proofs.entries.put_three.Goals as goal

pub returns : goal.returns
returns c = three-put c.args.w
    c.args.x
    c.args.y
    c.args.z
    c.requires
    c.put.ensures c.put-2.ensures
    c.put-3.ensures
