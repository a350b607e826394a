-- `gathering::deferred::is_of_listed` meets its contract.
use Rattle.ident.specs.Words.{hash_num}
use Rattle.gathering.proofs.Deferrals.{listed-nowhere}
use Rattle.gathering.proofs.deferred.is_of_listed.Goals as goal

pub returns-then-candidates_in-eq0 : goal.returns-then-candidates_in-eq0
returns-then-candidates_in-eq0 c = listed-nowhere c.args.n (hash_num c.args.h) c.candidates_in.ensures c.if-candidates_in-eq0.true
