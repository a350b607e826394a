-- Candidates made ready: the request stays as it should be.
use Prim.Native.Nat.{ℕ, ◌<◌}
use mathlib.Core.Path.{refl, ◌∙◌}
use mathlib.Core.List.{List, map}
use mathlib.Core.Option.{Option, none, some}
use native.Mathlib.Omega.{arith}
use Rattle.machine.specs.Limits.{word}
use Rattle.machine.specs.State.{Candidate, Owner, ready_at}
use Rattle.machine.specs.Sound.{OwnerFits}
use Rattle.machine.proofs.Change.{Shrinks}
use Rattle.machine.proofs.Fail.{has-map as has-ready, count_in-map as count-ready, fit-map as fit-ready}
use Rattle.failing.specs.Changes.{readied}

owner-ready : (now : ℕ) (o : Option Owner) (cs : List Candidate) → OwnerFits o cs → OwnerFits o (map (ready_at now) cs)
owner-ready now none cs h = tt
owner-ready now (some o) cs h = (has-ready o.connection now cs ∙ h.0, h.1)

pub shrinks_ready : (now : ℕ) → now < word → Shrinks (readied now)
shrinks_ready now w = record {
  key = λ r. refl;
  at_each = λ r. record {
    fewer = λ p. omega (arith, count-ready p now r.candidates);
    less = λ p. omega arith;
    place = omega arith;
    lawful = λ h. record {
      candidates = fit-ready now r.key r.candidates w h.candidates;
      owner = owner-ready now r.owner r.candidates h.owner;
      packed = h.packed;
      parents = h.parents;
      mark = h.mark;
    };
  };
}
