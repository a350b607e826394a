use native.Mathlib.Omega.{arith}
use Prim.Native.Nat.{◌<◌}
use mathlib.Core.Path.{sym, ◌∙◌}
use lib.ListN.{length}
use Rattle.store.proofs.Frame.{sizes}
use Rattle.store.proofs.Tally.{fresh}
use Rattle.store.proofs.Counted.{light_at, adjusted_kept, adjusted_away, adjusted_nowhere}
use Rattle.store.proofs.counting.adjust.Goals as goal

pub change-requires : goal.change-requires
change-requires g c = c.requires.can _ (light_at c.requires.shown c.in-Ok.i (fresh 0 0) c.in-Ok.ensures.inside (c.at.ensures c.requires.shown.flat (fresh 0 0) c.requires.shown.shows))

pub returns-in-Some : goal.returns-in-Some
returns-in-Some g c = λ h a f so w.
    let d = fresh 0 0 in
    let z = sizes w in
    let found = c.in-Ok.ensures in
    let l : c.in-Ok.i < length f.conns = omega (arith, found.inside) in
    adjusted_kept f (found.sought.bound f w so) d h l (found.is f d w) (c.at.ensures f d w) (sym c.in-Some.is ∙ a _ _ c.change.ensures) (c.set.ensures f w)

pub returns-in-None : goal.returns-in-None
returns-in-None g c = λ h a f so w.
    let d = fresh 0 0 in
    let z = sizes w in
    let found = c.in-Ok.ensures in
    let l : c.in-Ok.i < length f.conns = omega (arith, found.inside) in
    adjusted_away f (found.sought.bound f w so) d h l (found.is f d w) (c.at.ensures f d w) (sym c.in-None.is ∙ a _ _ c.change.ensures) (c.drop.ensures f w)

pub returns-in_default : goal.returns-in_default
returns-in_default g c = λ h a f so w.
    let d = fresh 0 0 in
    let none = c.in_default.ensures in
    adjusted_nowhere f (none.sought.bound f w so) d h (λ l z. none.not f d w l z) so w
