-- A key of a plan considered, on bytes in which what the plan has selected owns its request.
use Prim.Native.Nat.{ℕ, ◌+◌, ◌<◌}
use mathlib.Core.Path.{◌≡◌, refl, ap}
use mathlib.Core.Logic.{inl, inr}
use mathlib.Core.List.{List, [], ◌∷◌, ◌++◌}
use mathlib.Core.Option.{Option}
use native.Mathlib.Omega.{arith}
use lib.Dec.{eqb}
use borrow.Author.Tests.{eqb-true}
use Rattle.ident.specs.Number.{top, Key, txid}
use Rattle.machine.specs.State.{Entry, Table}
use Rattle.machine.specs.Table.{owned_at}
use Rattle.machine.specs.Plan.{chosen_at, choice, Scan, add, consider}
use Rattle.machine.specs.Sound.{Ordered}
use Rattle.machine.proofs.Tests.{test}
use Rattle.choosing.specs.Choosing.{free_choice}
use Rattle.selecting.specs.Selecting.{marking, mark_all, Free, AllFree}
use Rattle.selecting.proofs.Marked.{choice_all, owned_all}

-- "A key whose hash is unowned and not yet selected by this plan yields ..": one question to the marked table
pub consider-marked : (now d : ℕ) (t : Table) (k : Key) (c : Scan) → Ordered 0 t → AllFree d c.chosen t → k.hash < top → (consider now t k c).chosen ≡ add
    (free_choice now (mark_all d c.chosen t) (txid k.hash)) c.chosen
unfolding consider choice
consider-marked now d t k c o f s =
    let e = owned_all d c.chosen t k.hash o f in
    elim (test (eqb (owned_at k.hash t + chosen_at k.hash c.chosen) 0)) [
      | inl z ↦ let q = choice_all now d c.chosen t k o f s (omega (arith, eqb-true (owned_at k.hash t + chosen_at k.hash c.chosen) 0 z)) in
          rw (z, e, z) (ap (λ (x : Option Entry). add x c.chosen) q)
      | inr z ↦ rw (z, e, z) refl
    ]

-- ---- one selection more, at the end

pub mark_snoc : (d : ℕ) (l : List Entry) (a : Entry) (t : Table) → mark_all d (l ++ (a ∷ [])) t ≡ marking d a (mark_all d l t)
unfolding mark_all
mark_snoc d [] a t = refl
mark_snoc d (b ∷ l) a t = mark_snoc d l a (marking d b t)

pub free_snoc : (d : ℕ) (l : List Entry) (a : Entry) (t : Table) → AllFree d l t → Free (mark_all d l t) a → AllFree d (l ++ (a ∷ [])) t
unfolding mark_all
free_snoc d [] a t f g = (g, tt)
free_snoc d (b ∷ l) a t f g = (f.0, free_snoc d l a (marking d b t) f.1 g)
