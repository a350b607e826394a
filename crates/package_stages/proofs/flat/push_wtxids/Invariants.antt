use mathlib.Core.Path.{◌≡◌}
use lib.ListN.{length}
use Rattle.lent_lists.specs.Lists.{hashes_in}
use Rattle.places.specs.Places.{with_wtxids}
use Rattle.package_stages.proofs.Filling.{Filled}
use Rattle.package_stages.proofs.flat.push_wtxids.Given as goal

abbrev pub invariant-loop-j : goal.invariant-loop-j
invariant-loop-j l = Filled l.initial.s l.s l.i (λ p. p.wtxids) with_wtxids (hashes_in l.list) l.j × (l.n ≡ length (hashes_in l.list))
