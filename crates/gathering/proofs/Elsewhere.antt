-- Candidates wait beside the table, and a request at another hash than theirs is changed: the order of what is done does not matter.
use Prim.Native.Nat.{ℕ, ◌<◌}
use mathlib.Core.Path.{◌≡◌, refl, sym, ap, subst, ◌∙◌}
use mathlib.Core.Bool.{true, false}
use mathlib.Core.List.{List, [], ◌∷◌, ◌++◌}
use native.Mathlib.Omega.{arith}
use lib.Dec.{eqb}
use borrow.Author.Tests.{eqb-false}
use Rattle.ident.specs.Number.{top, Key, place}
use Rattle.ident.proofs.Places.{place_same as place-inj}
use Rattle.regions.specs.declared.Row.{Row}
use Rattle.regions.specs.Regions.{Holds}
use Rattle.regions.specs.Rows.{row_size, row_words}
use Rattle.machine.specs.State.{Entry, Request, Table, with_candidates}
use Rattle.machine.specs.Table.{at, change}
use Rattle.machine.specs.Announce.{without, push, cut, victims, anywhere}
use Rattle.machine.specs.Sound.{Ordered, All, Filled}
use Rattle.machine.specs.Typed.{Each}
use Rattle.machine.proofs.At.{KeepsKey, at_other}
use Rattle.machine.proofs.Table.{ordered-change, filled-change}
use Rattle.machine.proofs.Tests.{or_left, or_right}
use Rattle.store.specs.Flat.{row_of}
use Rattle.announcing.proofs.Giving.{victims-push}
use Rattle.announcing.proofs.Swapping.{change-swap}
use Rattle.gathering.specs.Merges.{placed, gathered}
use Rattle.gathering.specs.Waits.{pushes, Small, Idle, waits}
use Rattle.gathering.specs.Aside.{space, Mixed, Aside}

-- ---- a table whose requests under their keys are the same

-- under the key of a both tables have the same
abbrev pub SameAt : Table → Table → Entry → Type 0
SameAt t u a = at a.key u ≡ at a.key t

module _ (t u : Table) where
  gathered_by : (es : List Entry) (ys : List Row) → Each (SameAt t u) es → gathered u es ys ≡ gathered t es ys
  unfolding gathered
  gathered_by [] ys s = refl
  gathered_by (e ∷ es) ys s = rw s.0 (gathered_by es (placed (row_of (at e.key t) e.candidate) ys) s.1)

  idle_by : (es : List Entry) → Each (SameAt t u) es → Idle t es → Idle u es
  idle_by [] s i = tt
  idle_by (e ∷ es) s i = (rw s.0 i.0, idle_by es s.1 i.1)

  pub mixed_by : {d : ℕ} {es : List Entry} {w : List ℕ} → Each (SameAt t u) es → Mixed t es w d → Mixed u es w d
  mixed_by {d} {es} {w} s a = record {
    ready = a.ready;
    idle = idle_by es s a.idle;
    single = a.single;
    count = a.count;
    rows = subst (λ (ys : List Row). Holds row_size row_words space ys w) (sym (gathered_by es [] s)) a.rows;
  }

-- ---- a request at another hash than theirs

module _ (j : Key) (small : j.hash < top) where
  elsewhere : (k : Key) → k.hash < top → eqb k.hash j.hash ≡ false → place k ≡ place j → ⊥
  elsewhere k s e q = eqb-false k.hash j.hash e (ap (λ (i : Key). i.hash) (place-inj k j s small q))

  pub at_pushes : (es : List Entry) (t : Table) → Each Small es → waits j.hash es ≡ false → at j (pushes es t) ≡ at j t
  unfolding pushes waits
  at_pushes [] t a w = refl
  at_pushes (e ∷ es) t a w =
      at_pushes es (push e.key e.candidate t) a.1 (or_right (eqb e.key.hash j.hash) (waits j.hash es) w)
      ∙ at_other j e.key _ t (λ r. refl) (λ q. elsewhere e.key a.0.small (or_left (eqb e.key.hash j.hash) (waits j.hash es) w) (sym q))

module _ (j : Key) (f : Request → Request) (keeps : KeepsKey f) (small : j.hash < top) where
  pub change-pushes : (es : List Entry) (t : Table) → Each Small es → waits j.hash es ≡ false → Ordered 0 t → All Filled t → change j f (pushes es t) ≡ pushes es (change j f t)
  unfolding pushes waits
  change-pushes [] t a w o l = refl
  change-pushes (e ∷ es) t a w o l =
      let d = elsewhere j small e.key a.0.small (or_left (eqb e.key.hash j.hash) (waits j.hash es) w) in
      change-pushes es (push e.key e.candidate t) a.1 (or_right (eqb e.key.hash j.hash) (waits j.hash es) w)
      (ordered-change e.key _ 0 t (λ r. refl) (omega arith) a.0.small o) (filled-change e.key _ t l)
      ∙ ap (pushes es) (change-swap j e.key f (λ r. with_candidates (r.candidates ++ (e.candidate ∷ [])) r) t small a.0.small (λ z. d (sym z)) keeps (λ r. refl) o l)

  still : (es : List Entry) (t : Table) → Each Small es → waits j.hash es ≡ false → Each (SameAt t (change j f t)) es
  unfolding waits
  still [] t a w = tt
  still (e ∷ es) t a w = (
    at_other e.key j f t keeps (elsewhere j small e.key a.0.small (or_left (eqb e.key.hash j.hash) (waits j.hash es) w)),
    still es t a.1 (or_right (eqb e.key.hash j.hash) (waits j.hash es) w),
  )

  pub mixed_still : {d : ℕ} {t : Table} {es : List Entry} {w : List ℕ} → Mixed t es w d → waits j.hash es ≡ false → Mixed (change j f t) es w d
  mixed_still {d} {t} {es} {w} a e = mixed_by t (change j f t) (still es t a.ready e) a

-- one goes at another hash than theirs
module _ (j : Key) (x : ℕ) (small : j.hash < top) where
  pub cut-pushes : (es : List Entry) (t : Table) → Each Small es → waits j.hash es ≡ false → Ordered 0 t → All Filled t → cut j x (pushes es t) ≡ pushes es (cut j x t)
  cut-pushes es t a w o l = change-pushes j (λ r. with_candidates (without x r.candidates) r) (λ r. refl) small es t a w o l

  pub aside_still : {n d : ℕ} {t : Table} {es : List Entry} {w : List ℕ} → Aside n t es w d → waits j.hash es ≡ false → Aside n (cut j x t) es w d
  aside_still a e = record { mixed = mixed_still j (λ r. with_candidates (without x r.candidates) r) (λ r. refl) small a.mixed e; mine = a.mine }

-- those that wait are preferred: none of them is a victim
pub victims-pushes : (es : List Entry) (t : Table) → Each (λ (a : Entry). a.candidate.preferred ≡ true) es → victims anywhere (pushes es t) ≡ victims anywhere t
unfolding pushes
victims-pushes [] t p = refl
victims-pushes (e ∷ es) t p = victims-pushes es (push e.key e.candidate t) p.1 ∙ victims-push e.key e.candidate t p.0
