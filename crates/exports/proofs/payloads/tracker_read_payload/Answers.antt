-- `exports::payloads::tracker_read_payload` meets its contract: that of `wire::read_payload`, its answer said by the numbers handed out.
use Rattle.crossing.proofs.Handing.{hands-items}
use Rattle.exports.proofs.payloads.tracker_read_payload.Goals as goal

pub returns : goal.returns
returns c =
    hands-items c.args.payload.now c.args.answer.now c.read_payload-a.result _
    c.read_payload-a.ensures c.hand_out.ensures
