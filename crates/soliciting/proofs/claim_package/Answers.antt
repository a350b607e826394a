-- `soliciting::claim_package` meets its contract.
use mathlib.Core.Path.{sym, ◌∙◌}
use mathlib.Core.Logic.{inl, inr}
use native.Mathlib.Omega.{arith}
use Rattle.ident.specs.Words.{hash_num}
use Rattle.lent_lists.specs.Lists.{hashes_in}
use Rattle.soliciting.proofs.Claiming.{claim_none, claim-many, claim-barred, claim_done}
use Rattle.soliciting.proofs.claim_package.Goals as goal

pub returns-then-count-eq0 : goal.returns-then-count-eq0
returns-then-count-eq0 c =
    let x = c.hashes-count.ensures in
    elim c.then-count-eq0.either [
      | inl z ↦ claim_none c.args.n (hash_num c.args.subject.0) (hash_num c.args.combined) (hashes_in c.args.wtxids.now) c.args.clock (sym x ∙ z)
      | inr z ↦ claim-many c.args.n (hash_num c.args.subject.0) (hash_num c.args.combined) (hashes_in c.args.wtxids.now) c.args.clock (omega (arith, z.1, x))
    ]

pub returns-then-not-owned_at : goal.returns-then-not-owned_at
returns-then-not-owned_at c =
    let ws = hashes_in c.args.wtxids.now in
    let x = c.hashes-count.ensures in
    claim-barred c.args.n (hash_num c.args.subject.0) (hash_num c.args.combined) ws c.args.clock (omega (arith, x, c.if-count-eq0.false))
    (omega (arith, x, c.if-count-gt-MAX_WTXIDS.false)) c.owned_at.ensures
    c.if-not-owned_at.true

pub returns : goal.returns
returns c =
    let ws = hashes_in c.args.wtxids.now in
    let x = c.hashes-count.ensures in
    claim_done c.args.n (hash_num c.args.subject.0) (hash_num c.args.combined) ws c.args.clock
    (omega (arith, x, c.if-count-eq0.false)) (omega (
      arith,
      x,
      c.if-count-gt-MAX_WTXIDS.false,
    ))
    c.owned_at.ensures c.if-not-owned_at.false c.claim.ensures
