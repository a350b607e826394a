-- `gathering::region::clear` meets its contract.
use native.Mathlib.Omega.{arith}
use Rattle.words.specs.Words.{words}
use Rattle.words.proofs.Words.{length-words}
use Rattle.announcing.proofs.Ranking.{no_rows}
use Rattle.gathering.proofs.region.clear.Goals as goal

pub returns : goal.returns
returns c = no_rows 4608 (words c.args.new.now) c.clear.ensures
    (omega (arith, length-words c.args.new.now))
