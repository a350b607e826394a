use Rattle.words.proofs.Parts.{back_up}
use Rattle.regions.proofs.kinds.move_up.Goals as goal

pub returns : goal.returns
returns c =
    back_up c.args.d c.args.s.now c.shift_up.new.s c.args.a c.args.b c.requires.0 c.requires.2 c.shift_up.auto.s
    c.shift_up.ensures
