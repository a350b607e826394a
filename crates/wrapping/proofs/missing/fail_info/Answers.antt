-- `wrapping::missing::fail_info` meets its contract.
use mathlib.Core.Path.{sym, ◌∙◌}
use Rattle.ident.specs.Words.{key_num}
use Rattle.wrapping.proofs.Unfound.{info-unlisted, info-listed, info-room}
use Rattle.wrapping.proofs.missing.fail_info.Goals as goal

pub returns-then-not-info_owned : goal.returns-then-not-info_owned
returns-then-not-info_owned c = info-unlisted (key_num c.args.k) c.args.n.number
    c.args.clock _ (λ st s w. sym (c.info_owned.ensures st s w) ∙ c.if-not-info_owned.true)

pub failed_with_parents-requires : goal.failed_with_parents-requires
failed_with_parents-requires c = (
  c.requires.0,
  info-room (key_num c.args.k) c.args.n.number
      c.args.clock (λ st s w. sym (c.info_owned.ensures st s w) ∙
      c.if-not-info_owned.false) c.args.out.now
      c.requires.0 c.requires.1,
)

pub returns : goal.returns
returns c = info-listed (key_num c.args.k)
    c.args.n.number
    c.args.clock
    (λ st s w. sym (c.info_owned.ensures st s w) ∙
    c.if-not-info_owned.false)
    c.failed_with_parents.ensures
