-- `public_listings::on_sound::save` meets its contract: an instance of crates/outcome/proofs/Carried.
use mathlib.Core.Path.{◌∙◌}
use native.Mathlib.Omega.{arith}
use Rattle.outcome.proofs.Turns.{passed}
use Rattle.outcome.proofs.Exits.{hands-on}
use Rattle.outcome.proofs.Carried.{refused_by, front_writes, texts_done}
use Rattle.public_listings.proofs.Instances.{saves}
use Rattle.public_listings.proofs.on_sound.save.Goals as goal

pub returns-in_err-of_buffer : goal.returns-in_err-of_buffer
returns-in_err-of_buffer c =
    let v = c.requires in
    let x = front_writes v c.need_of-n.ensures in
    rw (hands-on _ c.from_residual.ensures.1)
    (refused_by (saves _).names v _ (c.in_err-of_buffer.ensures ∙ rw (c.length-needs.ensures v.state v.sound x)))

pub returns : goal.returns
returns c =
    let v = c.requires in
    let x = front_writes v c.need_of-n.ensures in
    let needs-are = c.length-needs.ensures v.state v.sound x in
    let saved = c.write-long.ensures v.state v.sound x in
    let turn = c.in_ok-of_buffer.ensures in
    texts_done (saves _) v (λ i. omega (arith, c.type_inv.s i)) (turn ∙ rw needs-are)
    saved.length_is (saved.stands (omega (arith, (passed turn).room, needs-are)))
