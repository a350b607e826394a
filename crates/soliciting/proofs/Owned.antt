-- The owner and the stage of a request, as the code reads them.
use Prim.Native.Nat.{ℕ, ◌+◌, ◌≤◌, ◌<◌}
use mathlib.Core.Path.{◌≡◌, refl, sym, ap, ◌∙◌}
use mathlib.Core.Logic.{◌⊎◌, inl, inr}
use mathlib.Core.Bool.{Bool, true, false, not, ◌&&◌, and-false}
use mathlib.Core.Option.{Option, none, some}
use native.Mathlib.Omega.{arith}
use lib.Dec.{ltb, eqb}
use borrow.Author.Tests.{lt-ltb, le-ltb, eq-eqb, ne_eqb}
use Rattle.machine.specs.State as machine
use Rattle.machine.specs.State.{Owner, Package, owner_is, is_none}
use Rattle.machine.specs.Table.{one}
use Rattle.machine.specs.Leave.{alive}
use Rattle.machine.specs.Package.{live_owner}
use Rattle.package_stages.specs.declared.Request.{Request}
use Rattle.package_stages.specs.Changes.{owner_as, stage_of, RequestOf}

-- ---- an owner whose deadline is still to come

live_is : (n now : ℕ) (o : Option Owner) → (owner_is n o && alive now o) ≡ live_owner n now o
live_is n now none = refl
live_is n now (some o) = refl

-- the two tests, of numbers
pub live_tests : {a n now d : ℕ} → a ≡ n → now < d → true ≡ (eqb a n && ltb now d)
live_tests {a} {n} {now} {d} e l = rw (eq-eqb a n e, lt-ltb now d l) refl

pub late_tests : {a n now d : ℕ} → (a ≡ n × d ≤ now) ⊎ (a ≡ n → ⊥) → (eqb a n && ltb now d) ≡ false
late_tests {a} {n} {now} {d} (inl z) = rw (eq-eqb a n z.0, le-ltb now d z.1) refl
late_tests {a} {n} {now} {d} (inr z) = rw (ne_eqb a n z) refl

module _ {q : machine.Request} {r : Request} (f : RequestOf q r) (n now stage : ℕ) {b : Bool} (e : b ≡ (owner_is n (owner_as r.owner) && alive now (owner_as r.owner))) where
  live : live_owner n now q.owner ≡ b
  live = sym (rw f.owner at e ∙ live_is n now q.owner)

  pub not_live : (owner_is n (owner_as r.owner) && alive now (owner_as r.owner)) ≡ false → b ≡ (live_owner n now q.owner && eqb (stage_of q.info q.«package») stage)
  not_live d = e ∙ d ∙ rw (live ∙ e ∙ d) refl

-- ---- stages

pub flag_is : (i : Bool) (p : Option Package) → eqb (stage_of i p) 1 ≡ (i && is_none p)
flag_is i (some p) = ne_eqb (2 + one p.enqueued) 1 (λ e. omega arith) ∙ sym (and-false i)
flag_is true none = refl
flag_is false none = refl

pub awaiting_is : (e : Bool) → eqb (2 + one e) 2 ≡ not e
awaiting_is true = refl
awaiting_is false = refl
