-- `gathering::deferred::suits` meets its contract.
use mathlib.Core.Path.{refl, sym, ◌∙◌}
use native.Mathlib.Omega.{arith}
use borrow.Author.Tests.{not-false, ne_eqb}
use Rattle.ident.specs.Words.{key_num}
use Rattle.requests.proofs.HashRows.{kind_spans}
use Rattle.gathering.proofs.Deferrals.{suited-crowded, suited_in}
use Rattle.gathering.proofs.deferred.suits.Goals as goal

pub returns-then-crowded_in : goal.returns-then-crowded_in
returns-then-crowded_in c = (
  suited-crowded (not-false c.args.c.preferred
      c.if-not-c.false) c.is_of_listed.ensures
      c.if-is_of_listed.false c.crowded_in.ensures c.if-crowded_in.true c.victim_in.result
      c.victim_in.ensures (sym c.is_some.ensures ∙ c.if-is_some.false),
  λ e. cc,
)

pub returns : goal.returns
returns c = (
  suited_in (not-false c.args.c.preferred c.if-not-c.false)
      c.is_of_listed.ensures
      c.if-is_of_listed.false (omega
      (arith, c.if-new-ge-SPACE.false))
      c.in-Some.ensures.0 refl
      c.crowded_in.ensures c.if-crowded_in.false
      (ne_eqb c.args.y.conn
      c.args.c.connection
      c.if-y-c.false) c.from-v.ensures c.waits_at.ensures c.if-waits_at.false,
  kind_spans (key_num c.args.k) c.in-Some.ensures.1 refl c.of_kind.ensures,
)
