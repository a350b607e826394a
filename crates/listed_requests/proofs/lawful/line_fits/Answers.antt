-- `listed_requests::lawful::line_fits` meets its contract.
use mathlib.Core.Path.{sym, ◌∙◌}
use Rattle.listed_requests.proofs.Judging.{too-many-parents, parent-twice, mark-misplaced, by_package}
use Rattle.listed_requests.proofs.lawful.line_fits.Goals as goal

pub returns-then-n-gt-MAX_PARENTS : goal.returns-then-n-gt-MAX_PARENTS
returns-then-n-gt-MAX_PARENTS c = too-many-parents c.args.lists.now.parents.now c.args.r c.if-n-gt-MAX_PARENTS.true

pub returns-then-not-hashes_distinct : goal.returns-then-not-hashes_distinct
returns-then-not-hashes_distinct c =
    parent-twice c.args.lists.now.parents.now c.args.r (sym c.hashes_distinct.ensures ∙ c.if-not-hashes_distinct.true)

pub returns-then-not-mark_fits : goal.returns-then-not-mark_fits
returns-then-not-mark_fits c =
    mark-misplaced c.args.lists.now.parents.now c.args.r (sym c.hashes_distinct.ensures ∙ c.if-not-hashes_distinct.false)
    (sym c.mark_fits.ensures ∙ c.if-not-mark_fits.true)

pub returns : goal.returns
returns c =
    by_package c.args.lists.now.parents.now c.args.r (sym c.hashes_distinct.ensures ∙ c.if-not-hashes_distinct.false)
    (sym c.mark_fits.ensures ∙ c.if-not-mark_fits.false) c.packs.ensures
