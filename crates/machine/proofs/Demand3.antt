-- Demand 3 holds of every list of calls: the bounds after it, and the wait for a sweep within it.
use Prim.Native.Nat.{ℕ}
use mathlib.Core.Path.{◌≡◌}
use mathlib.Core.Logic.{inl, inr}
use mathlib.Core.Bool.{true}
use mathlib.Core.List.{List, [], ◌∷◌, ◌++◌, map}
use native.Mathlib.Omega.{arith}
use lib.ListN.{length-map}
use Rattle.ident.specs.Number.{Key}
use Rattle.machine.specs.Limits.{max_known_checks}
use Rattle.machine.specs.State.{Request, Table, State}
use Rattle.machine.specs.Sound.{All, OwnerFits, Lawful, Sound}
use Rattle.machine.specs.Call.{Call, sizes_taken}
use Rattle.machine.specs.Step.{empty, step}
use Rattle.machine.specs.Typed.{Each, CallTyped}
use Rattle.machine.specs.Demand3.{run, carried_out, sweeping, sweeps_of, HeldAtAll, Fair, Bounds, Demand3}
use Rattle.machine.proofs.Tests.{test}
use Rattle.machine.proofs.Sweeps.{batch_of, held_batches, successive, ascending, inside}
use Rattle.machine.proofs.Fairness.{Holds, fair}
use Rattle.machine.proofs.Kept.{sound_step, sound_empty}

-- ---- lists of calls, and of laws

typed_left : (a b : List Call) → Each CallTyped (a ++ b) → Each CallTyped a
typed_left [] b w = tt
typed_left (c ∷ a) b w = (w.0, typed_left a b w.1)

typed_right : (a b : List Call) → Each CallTyped (a ++ b) → Each CallTyped b
typed_right [] b w = w
typed_right (c ∷ a) b w = typed_right a b w.1

owners-fit : (t : Table) → All Lawful t → All (λ (r : Request). OwnerFits r.owner r.candidates) t
owners-fit [] a = tt
owners-fit (r ∷ t) a = (a.0.owner, owners-fit t a.1)

sound-bounds : (s : State) → Sound s → Bounds s
sound-bounds s g =
    let b = g.bounded in
    record { owned = b.owned; announced = b.each; one_kind = b.single; eight = b.alternates; fits = b.fits; candidates = owners-fit s.table b.lawful }

-- ---- demand 3

pub sound-run : (n : ℕ) (calls : List Call) (s : State) → Each CallTyped calls → Sound s → Sound (run n calls s)
unfolding run
sound-run n [] s w g = g
sound-run n (c ∷ cs) s w g = sound-run n cs (step n c s).state w.1 (sound_step n c s w.0 g)

-- each sweep of a list holds its keys in order
sweeps-hold : (n : ℕ) (cs : List Call) (s : State) (k : Key) → Each CallTyped cs → Sound s → HeldAtAll k (sweeps_of n cs s) → Each (Holds max_known_checks k) (map batch_of (sweeps_of n cs s))
unfolding sweeps_of
sweeps-hold n [] s k w g h = tt
sweeps-hold n (c ∷ cs) s k w g h =
    let rest = sweeps-hold n cs (step n c s).state k w.1 (sound_step n c s w.0 g) in
    elim (test (sweeping c)) [
      | inl e ↦ rw e (elim (test (carried_out n c s)) [
        | inl d ↦ rw d (
          record { ascending = ascending 0 s.table g.bounded.ordered; inside = inside 0 s.table g.bounded.ordered; member = (rw (e, d) at h).0; room = omega arith },
          rest (rw (e, d) at h).1,
        )
        | inr d ↦ rw d (rest (rw (e, d) at h))
      ])
      | inr e ↦ rw e (rest (rw e at h))
    ]

sweeps-fair : (n : ℕ) (first : State) (calls : List Call) → Sound first → Each CallTyped calls → Fair n first calls
sweeps-fair n first calls g w pre part post e o k z h m =
    let s = run n pre first in
    let ws = sweeps_of n part s in
    let v = rw e at w in
    let held = sweeps-hold n part s k (typed_left part post (typed_right pre (part ++ post) v)) (sound-run n pre first (typed_left pre (part ++ post) v) g) h in
    rw (successive n part s o) (fair max_known_checks s.known_cursor (map batch_of ws) k (omega arith) held (rw (held_batches ws, length-map ws batch_of) m))

pub demand_3 : Demand3
demand_3 n first calls g w = (sound-bounds (run n calls first) (sound-run n calls first w g), sweeps-fair n first calls g w)

-- "from an empty tracker"
pub demand_3_empty : (n L Q : ℕ) (calls : List Call) → sizes_taken L Q ≡ true → Each CallTyped calls → Bounds (run n calls (empty L Q)) × Fair n (empty L Q) calls
demand_3_empty n L Q calls e w = demand_3 n (empty L Q) calls (sound_empty L Q e) w
