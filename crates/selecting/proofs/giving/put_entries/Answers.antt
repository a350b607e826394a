-- `selecting::giving::put_entries` meets its contract.
use mathlib.Core.Path.{◌≡◌, refl, ap, ◌∙◌}
use mathlib.Core.List.{List}
use native.Mathlib.Omega.{arith}
use lib.ListN.{length, take}
use lib.Seq.{take_all}
use Rattle.machine.specs.State.{Entry}
use Rattle.machine.specs.Step.{entries_answer, written}
use Rattle.claiming.specs.Claiming.{entry_of}
use Rattle.claiming.proofs.Stored.{written_none}
use Rattle.selecting.proofs.Putting.{puts_more}
use Rattle.selecting.proofs.giving.put_entries.Goals as goal

pub loop-j-init : goal.loop-j-init
loop-j-init c = (omega arith, refl, λ f l w q g. written_none c.args.out.now)

pub loop-j-preserved : goal.loop-j-preserved
loop-j-preserved c = (
  omega (arith, c.loop-j-test.true),
  c.put_entry.auto.u ∙ c.loop-j.invariant.1,
  λ f l w q g.
      puts_more f.rows l c.args.numbers.now
      c.args.out.now
      (length c.args.numbers.now) c.loop-j.j
      (entry_of c.from.result) c.row_at-r.result q
      c.loop-j-test.true g (c.row_at-r.ensures f
      c.row_at-r.result w) c.from.ensures
      (c.loop-j.invariant.2 f l w q g) c.put_entry.ensures
      c.requires.2,
)

pub returns : goal.returns
returns c = λ f l w q g.
    let e : take c.loop-j.j l ≡ l = take_all c.loop-j.j l (omega (arith, c.loop-j-test.false, q)) in
    c.loop-j.invariant.2 f l w q g ∙ ap (λ (x : List Entry). written (entries_answer x) c.args.out.now) e
