-- `tearing::packaged::is_package` meets its contract.
use native.Mathlib.Omega.{arith}
use Rattle.tearing.proofs.PackageSpots.{no_place, other_place, its-stage}
use Rattle.tearing.proofs.packaged.is_package.Goals as goal

pub returns-then-quad_less : goal.returns-then-quad_less
returns-then-quad_less c = other_place (omega (arith, c.if-reached-held_places.true, c.held_places.ensures.word)) c.quad_less.ensures c.if-quad_less.true

pub returns-then-reached-held_places : goal.returns-then-reached-held_places
returns-then-reached-held_places c = its-stage (omega (arith, c.if-reached-held_places.true, c.held_places.ensures.word)) c.quad_less.ensures c.if-quad_less.false

pub returns : goal.returns
returns c = no_place (omega (arith, c.if-reached-held_places.false, c.held_places.ensures.word))
