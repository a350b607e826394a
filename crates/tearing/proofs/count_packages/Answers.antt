-- `tearing::count_packages` meets its contract.
use mathlib.Core.Path.{◌≡◌, refl, ◌∙◌}
use mathlib.Core.Bool.{Bool, true, false}
use native.Mathlib.Omega.{arith}
use lib.Dec.{leb}
use mir.Val.{bool_byte}
use Rattle.machine.specs.Table.{one}
use Rattle.places.specs.Places.{blank}
use Rattle.tearing.proofs.TearingPlaces.{counting_none, counting_more, counting_end}
use Rattle.tearing.proofs.count_packages.Goals as goal

bit : (b : Bool) → bool_byte b ≡ one b
bit true = refl
bit false = refl

pub loop-i-init : goal.loop-i-init
loop-i-init c = counting_none c.args.s.now

pub loop-i-preserved : goal.loop-i-preserved
loop-i-preserved c =
    counting_more c.loop-i.invariant (omega (arith, c.held_places-n.ensures.word, c.loop-i-test.true)) (blank 0 0) c.place_at-p.ensures
    (c.from-c.ensures ∙ bit (leb 2 c.place_at-p.result.stage))

pub returns : goal.returns
returns c = counting_end c.loop-i.invariant (omega (arith, c.held_places-n.ensures.word, c.loop-i-test.false))
