-- `events::input::Session::take_line` meets its contract: the bytes are the line's, and the line feed behind them ends it.
use borrow.Author.Rules.{rules}
use native.Mathlib.Omega.{arith}
use Rattle.machine.proofs.Parting.{end_most}
use Rattle.events.proofs.Bytewise.{took_run, took_one, fed_front}
use Rattle.events.proofs.input.Session.take_line.Goals as goal

pub slice_bounds-keep-end : goal.slice_bounds-keep-end
slice_bounds-keep-end _ c = search (rules, end_most 10 c.args.bytes.now c.args.at (omega arith) c.find-end.ensures)

pub returns-then-end-bytes-clause-taken : goal.returns-then-end-bytes-clause-taken
returns-then-end-bytes-clause-taken _ c = λ p t. took_run c.args.bytes.now c.args.at c.find-end.ensures t c.keep.ensures

pub returns-clause-taken : goal.returns-clause-taken
returns-clause-taken _ c = λ p g.
    let m = end_most 10 c.args.bytes.now c.args.at (omega arith) c.find-end.ensures in
    let t = took_run c.args.bytes.now c.args.at c.find-end.ensures g c.keep.ensures in
    took_one t (c.end_line.ensures t.next t.held) (fed_front c.args.bytes.now c.args.at c.find-end.ensures (omega arith) (omega (arith, m, c.if-end-bytes.false)))
