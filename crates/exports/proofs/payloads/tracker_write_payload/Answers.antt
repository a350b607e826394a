-- `exports::payloads::tracker_write_payload` meets its contract: that of `wire::write_payload`, its answer said by the numbers handed out.
use Rattle.lent_lists.specs.Items.{items_in}
use Rattle.crossing.proofs.Handing.{hands_bytes}
use Rattle.exports.proofs.payloads.tracker_write_payload.Goals as goal

pub returns : goal.returns
returns c =
    hands_bytes (items_in c.args.items.now) c.args.answer.now c.write_payload-a.result _
    c.write_payload-a.ensures c.hand_out.ensures
