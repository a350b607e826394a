use mathlib.Core.Path.{◌≡◌}
use Rattle.regions.specs.declared.Row.{Row}
use Rattle.store.proofs.Stamping.{Stamped}
use Rattle.store.proofs.stamps.change_rows.Given as goal

abbrev pub invariant-loop-i : goal.invariant-loop-i
invariant-loop-i g l = Stamped l.initial.s l.s (λ h. (r x : Row) → goal.F-post g l.change r x → x ≡ h r) l.fn.w.from l.fn.w.to l.i
