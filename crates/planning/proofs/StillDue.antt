-- The owners that are due and have not failed, as the rows say them: in the table of document 01 they are all that are due.
use Prim.Native.Nat.{ℕ, suc, ◌≤◌, ◌<◌}
use mathlib.Core.Path.{◌≡◌, refl, sym, ap, ◌∙◌}
use mathlib.Core.Logic.{inl, inr}
use mathlib.Core.Bool.{Bool, true, false, ◌&&◌, and-true, and-false}
use mathlib.Core.List.{List, [], ◌∷◌, ◌++◌}
use mathlib.Core.Option.{Option, none, some}
use native.Mathlib.Omega.{arith}
use lib.Dec.{leb}
use borrow.Author.Tests.{leb-true, leb-false, le-leb, lt-leb}
use Rattle.std.specs.Prelude.{if◌then◌else◌}
use Rattle.ident.specs.Number.{top, Key, place}
use Rattle.machine.specs.State.{Owner, Request, Table, State, blank, on_table}
use Rattle.machine.specs.Table.{at}
use Rattle.machine.specs.Plan.{Due, due_of}
use Rattle.machine.specs.Sound.{Ordered, All, Sound}
use Rattle.machine.proofs.Same.{walk, walk_same}
use Rattle.machine.proofs.Table.{at_key}
use Rattle.machine.proofs.Tests.{test, by_test}
use Rattle.store.specs.Image.{Writes}
use Rattle.store.specs.Shown.{Kept}
use Rattle.postponing.specs.Silent.{late}
use Rattle.postponing.specs.Pending.{Pending}
use Rattle.postponing.proofs.Starting.{pending_sound, pending_plain, owner_same, owner_gone}
use Rattle.apart.specs.Delayed.{Delay, Front, Lowest}
use Rattle.planning.specs.Expiring.{due_here, due_from, due_still, still_here, still_from}

-- ---- where no owner has a lower deadline they are all that are due

still_all : (now : ℕ) (k : Key) (o : Option Owner) → due_still 0 now k o ≡ due_of now k o
still_all now k none = refl
still_all now k (some o) = rw (le-leb 0 o.deadline (omega arith), and-true (leb o.deadline now)) refl

still_in_time : (now : ℕ) (k : Key) (o : Option Owner) → late 0 o ≡ false → due_still 1 now k o ≡ due_of now k o
still_in_time now k none e = refl
still_in_time now k (some o) e = let h = leb-false o.deadline 0 e in rw (le-leb 1 o.deadline (omega (arith, h)), and-true (leb o.deadline now)) refl

still_gone : (now : ℕ) (k : Key) (o : Option Owner) → late 0 o ≡ true → due_still 1 now k o ≡ []
still_gone now k none e = refl
still_gone now k (some o) e = let h = leb-true o.deadline 0 e in rw (lt-leb 1 o.deadline (omega (arith, h)), and-false (leb o.deadline now)) refl

here_so : (low now x : ℕ) (r : Request) → due_still low now r.key r.owner ≡ due_of now r.key r.owner → still_here low now x r ≡ due_here now x r
here_so low now x r e = rw e refl

pub still_zero : (now x : ℕ) (t : Table) → still_from 0 now x t ≡ due_from now x t
unfolding still_from due_from
still_zero now x [] = refl
still_zero now x (r ∷ t) = rw (here_so 0 now x r (still_all now r.key r.owner), still_zero now x t) refl

pub still_timely : (now x : ℕ) (t : Table) → All (λ r. late 0 r.owner ≡ false) t → still_from 1 now x t ≡ due_from now x t
unfolding still_from due_from
still_timely now x [] a = refl
still_timely now x (r ∷ t) a = rw (here_so 1 now x r (still_in_time now r.key r.owner a.0), still_timely now x t a.1) refl

-- ---- those that have failed are no owners any more

as_walk : (low now x : ℕ) (t : Table) → walk (λ r a. still_here low now x r ++ a) [] t ≡ still_from low now x t
unfolding walk still_from
as_walk low now x [] = refl
as_walk low now x (r ∷ t) = ap (λ (l : List Due). still_here low now x r ++ l) (as_walk low now x t)

abbrev still_as : ℕ → ℕ → ℕ → Key → Option Owner → List Due
still_as low now x k o = if leb x (place k) then due_still low now k o else []

as_none : (low now x : ℕ) (k : Key) → still_as low now x k none ≡ []
as_none low now x k = by_test (λ (l : List Due). l ≡ []) (leb x (place k)) (λ e. refl) (λ e. refl)

as_gone : (now x : ℕ) (k : Key) (o : Option Owner) → late 0 o ≡ true → still_as 1 now x k o ≡ []
as_gone now x k o e = by_test (λ (l : List Due). l ≡ []) (leb x (place k)) (λ _. still_gone now k o e) (λ _. refl)

module _ {b w : List ℕ} {d c : ℕ} {st : State} {t : Table} (v : Pending b w d c st t) (now x : ℕ) where
  owner_as : (j : Key) → j.hash < top → still_as 1 now x j (at j t).owner ≡ still_as 1 now x j (at j v.base).owner
  owner_as j s = elim (test (late 0 (at j v.base).owner)) [
    | inl e ↦ ap (still_as 1 now x j) (owner_gone v j s e) ∙ as_none 1 now x j ∙ sym (as_gone now x j (at j v.base).owner e)
    | inr e ↦ ap (still_as 1 now x j) (owner_same v j s e)
  ]

  same_at : (j : Key) → j.hash < top → (a : List Due) → still_here 1 now x (at j t) ++ a ≡ still_here 1 now x (at j v.base) ++ a
  same_at j s a =
      ap (λ (k : Key). still_as 1 now x k (at j t).owner ++ a) (at_key j 0 t s (pending_sound v).bounded.ordered)
      ∙ ap (λ (l : List Due). l ++ a) (owner_as j s)
      ∙ sym (ap (λ (k : Key). still_as 1 now x k (at j v.base).owner ++ a) (at_key j 0 v.base s v.sound.bounded.ordered))

  pub still_pending : still_from 1 now x v.base ≡ due_from now x t
  still_pending =
      sym (as_walk 1 now x v.base)
      ∙ sym (walk_same (λ r a. still_here 1 now x r ++ a) [] (λ k a. ap (λ (l : List Due). l ++ a) (as_none 1 now x k)) 0 0 t v.base (pending_sound v).bounded.ordered v.sound.bounded.ordered same_at)
      ∙ as_walk 1 now x t
      ∙ still_timely now x t (pending_plain v).timely

-- ---- what the bytes say

-- the table that the bytes write, and what it says of the one that is known
pub record Basis (b : List ℕ) (low now x : ℕ) (st : State) (t : Table) : Type 0 where
  pub base : Table
  pub sound : Sound (on_table base st)
  pub writes : Writes b (on_table base st)
  pub same : still_from low now x base ≡ due_from now x t

module _ {b : List ℕ} {e : Delay} {st : State} {t : Table} (f : Front b e st t) where
  pub basis : {low : ℕ} (now x : ℕ) → Lowest e.later low → Basis b low now x st t
  basis {low} now x l = elim (test e.later) [
    | inl i ↦
        let v = f.later i in
        record { base = v.base; sound = v.sound; writes = v.writes; same = ap (λ (y : ℕ). still_from y now x v.base) (l.later i) ∙ still_pending v now x }
    | inr i ↦ record { base = t; sound = f.sound; writes = f.at_once i; same = ap (λ (y : ℕ). still_from y now x t) (l.at_once i) ∙ still_zero now x t }
  ]

  pub front_keeps : Kept b
  front_keeps = elim (test e.later) [
    | inl i ↦ let v = f.later i in record { state = on_table v.base st; sound = v.sound; writes = v.writes }
    | inr i ↦ record { state = on_table t st; sound = f.sound; writes = f.at_once i }
  ]
