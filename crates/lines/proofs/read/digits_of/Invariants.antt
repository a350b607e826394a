-- `lines::read::digits_of` meets its contract. The loop's invariant: what is read of the field is what is read further, behind the digits of n.
use Rattle.std.proofs.Common.{◌≡◌, ◌<◌, drop}
use Rattle.machine.specs.Fields.{numeral_of, further}
use Rattle.lines.proofs.read.digits_of.Given as goal

abbrev pub invariant-loop-c : goal.invariant-loop-c
invariant-loop-c g l =
    (0 < l.first → 0 < g.N.Numeral.number l.n)
    × (l.first ≡ 0 → g.N.Numeral.number l.n ≡ 0)
    × (numeral_of 10 g.N.Numeral.limit l.f ≡ further 10 g.N.Numeral.limit (g.N.Numeral.number l.n) (drop l.c-index l.rest))
