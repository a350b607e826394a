-- `events::input::Session::read_lines` meets its contract. The loop's invariant: what the program keeps is some bytes, read from the start.
use mathlib.Core.Path.{refl}
use mathlib.Core.List.{[]}
use native.Mathlib.Omega.{arith}
use Rattle.events.proofs.Bytewise.{took_none, took_more}
use Rattle.events.proofs.input.Session.read_lines.Goals as goal

pub loop-init : goal.loop-init
loop-init _ c = (refl, record { bytes = []; all = took_none c.requires })

pub returns-then-not-read_some : goal.returns-then-not-read_some
returns-then-not-read_some _ c = let t = c.loop.invariant.1 in took_more t (c.read_some.ensures t.all.next t.all.held)

pub returns-then-is_err : goal.returns-then-is_err
returns-then-is_err _ c = let t = c.loop.invariant.1 in took_more t (c.read_some.ensures t.all.next t.all.held)

pub loop-preserved : goal.loop-preserved
loop-preserved _ c = let t = c.loop.invariant.1 in (
  omega (arith, c.read_some.auto, c.loop.invariant.0),
  took_more t (c.read_some.ensures t.all.next t.all.held),
)
