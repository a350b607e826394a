use Rattle.regions.specs.Rows.{quad_number}
use Rattle.lines.proofs.write.+put_hash.Given as goal

abbrev pub decreases-put_hash : goal.decreases-put_hash
decreases-put_hash l = quad_number l.q
