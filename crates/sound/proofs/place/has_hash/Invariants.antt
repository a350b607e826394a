use Prim.Native.Nat.{◌≤◌}
use mathlib.Core.Path.{◌≡◌}
use Rattle.words.specs.Words.{words}
use Rattle.regions.specs.Rows.{quad_number}
use Rattle.machine.specs.Claim.{elem}
use Rattle.sound.specs.Places.{hashes_in}
use Rattle.sound.proofs.place.has_hash.Given as goal

abbrev pub invariant-loop-k : goal.invariant-loop-k
invariant-loop-k l = (l.from ≤ l.k) × (l.k ≤ l.to) × (elem (quad_number l.h) (hashes_in (words l.s) l.a l.from l.to) ≡ elem (quad_number l.h) (hashes_in (words l.s) l.a l.k l.to))
