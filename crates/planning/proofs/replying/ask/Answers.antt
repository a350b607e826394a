-- `planning::replying::ask` meets its contract.
use mathlib.Core.Path.{sym, ap, ◌∙◌}
use mathlib.Core.Bool.{not}
use mathlib.Core.Option.{none, some}
use native.Mathlib.Omega.{arith}
use Rattle.machine.proofs.Tests.{never}
use Rattle.requests.proofs.Keeping.{kept_shown}
use Rattle.selecting.specs.Phasing.{given_keys}
use Rattle.planning.proofs.Whole.{begun_kept, begun_few, round-keys, few_left, planned}
use Rattle.planning.proofs.replying.ask.Goals.{in-Some, in-None}
use Rattle.planning.proofs.replying.ask.Goals as goal

pub phase_given-w-requires : goal.phase_given-w-requires
phase_given-w-requires c = (begun_kept c.requires.0, c.requires.1, begun_few c.requires.0, c.requires.3)

pub phase_round-w-requires : goal.phase_round-w-requires
phase_round-w-requires c = let k = kept_shown (begun_kept c.requires.0) in (
  begun_kept c.requires.0,
  c.requires.1,
  begun_few c.requires.0,
  omega (arith, c.requires.3, k.sizes.rows, k.sized.rows_few, k.sized.limit),
)

pub finish-requires : goal.finish-requires
finish-requires c =
    elim c.match-asked.branch [
      | in-Some k ↦ rw (k.s-is, k.picks-is, k.w-is) (few_left (some (given_keys k.in-Some.given.now)) k.phase_given-w.ensures.0 (λ st s. k.phase_given-w.ensures.1)
          c.requires.0 c.requires.1 k.phase_given-w.auto.picks c.args.out.now c.requires.2)
      | in-None k ↦ rw (k.s-is, k.picks-is, k.w-is) (few_left none k.phase_round-w.ensures round-keys c.requires.0 c.requires.1 k.phase_round-w.auto.picks c.args.out.now c.requires.2)
    ]

pub returns-then-is_none : goal.returns-then-is_none
returns-then-is_none c =
    let x = c.is_none.ensures ∙ ap not c.if-is_none.true in
    elim c.match-asked.branch [
      | in-Some k ↦ never (sym (rw k.in-Some.is at x))
      | in-None k ↦ rw (k.w-is, k.in-None.is) (planned none k.phase_round-w.ensures c.requires.1 k.phase_round-w.auto.picks c.args.out.now
          (rw (k.s-is, k.picks-is, k.w-is) at c.finish.ensures) (λ st i h w. (rw k.w-is at c.move_ready.ensures) i h st w))
    ]

pub returns-else-is_none : goal.returns-else-is_none
returns-else-is_none c =
    let x = c.is_none.ensures ∙ ap not c.if-is_none.false in
    elim c.match-asked.branch [
      | in-Some k ↦ rw (k.w-is, k.in-Some.is) (planned (some (given_keys k.in-Some.given.now)) k.phase_given-w.ensures.0 c.requires.1 k.phase_given-w.auto.picks c.args.out.now
          (rw (k.s-is, k.picks-is, k.w-is) at c.finish.ensures) (λ st i h w. w))
      | in-None k ↦ never (rw k.in-None.is at x)
    ]
