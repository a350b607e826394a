use mathlib.Core.Path.{sym, ◌∙◌}
use Rattle.ident.specs.Words.{key_num}
use Rattle.failing.proofs.PackageInfo.{info-refused, info-answered}
use Rattle.failing.proofs.failed_package_info.Goals as goal

pub returns-then-not-info_owned : goal.returns-then-not-info_owned
returns-then-not-info_owned c = info-refused (key_num c.args.k) c.args.n c.args.clock
    (λ st s w. sym (c.info_owned.ensures st s w) ∙ c.if-not-info_owned.true)

pub returns : goal.returns
returns c = info-answered (key_num c.args.k) c.args.n
    c.args.clock (λ st s w. sym (c.info_owned.ensures st s w) ∙
    c.if-not-info_owned.false) c.failed.ensures
