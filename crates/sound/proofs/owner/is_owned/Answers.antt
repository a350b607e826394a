use Rattle.words.specs.Words.{words}
use Rattle.regions.specs.Rows.{quad_number}
use Rattle.store.specs.FlatSound.{count_rows, owns}
use Rattle.sound_rows.specs.Groups.{rows_in, Run}
use mathlib.Core.Path.{◌≡◌}
use Rattle.sound.proofs.Owned.{owned-count}
use Rattle.sound.proofs.Stage.{some_decides}
use Rattle.sound.proofs.owner.is_owned.Goals as goal

pub returns : goal.returns
returns c =
    let w = words c.args.rows.bytes.now in
    let n = c.args.rows.count in
    let from = c.seek_row_near-from.result in
    let to = c.run_end-to.result in
    let run : Run w from n (quad_number c.args.h) to = rw (c.new.ensures.0, c.new.ensures.1, c.new.ensures.2) at c.run_end-to.ensures in
    let sum : c.owners.result ≡ count_rows owns (rows_in w from to) = rw (c.new-2.ensures.0, c.new-2.ensures.1, c.new-2.ensures.2) at c.owners.ensures.0 in
    λ s. rw (owned-count n w s c.args.h from to c.seek_row_near-from.ensures run) (some_decides c.owners.result _ sum)
