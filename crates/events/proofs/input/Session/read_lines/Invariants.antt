-- `events::input::Session::read_lines` meets its contract. The loop's invariant: what the program keeps is some bytes, read from the start.
use mathlib.Core.Path.{◌≡◌}
use lib.ListN.{length}
use Rattle.events.specs.Input.{started, TookSome}
use Rattle.events.proofs.input.Session.read_lines.Given as goal

abbrev pub invariant-loop : goal.invariant-loop
invariant-loop _ l = (length l.store ≡ length l.initial.store) × TookSome (started l.initial.store) l.self.line.so_far l.self.line.bytes l.store l.self.lists
