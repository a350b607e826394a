-- `lines::write::without_digit` meets its contract.
use Rattle.lines.proofs.Hashes.{without-digit}
use Rattle.lines.proofs.write.without_digit.Goals as goal

pub returns : goal.returns
returns c = without-digit c.args.q
