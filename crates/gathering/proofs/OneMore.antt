-- Nobody waits beside the table, or one more.
use Prim.Native.Nat.{ℕ, ◌+◌, ◌<◌}
use mathlib.Core.Path.{◌≡◌, refl, sym, ap, subst, ◌∙◌}
use mathlib.Core.Bool.{Bool, false, ◌||◌}
use mathlib.Core.List.{List, [], ◌∷◌, ◌++◌}
use native.Mathlib.Omega.{arith}
use lib.Dec.{eqb}
use lib.ListN.{length-append}
use Rattle.ident.specs.Number.{top, Key}
use Rattle.regions.specs.declared.Row.{Row}
use Rattle.regions.specs.Regions.{Holds}
use Rattle.regions.specs.Rows.{row_size, row_words}
use Rattle.machine.specs.State.{Candidate, Entry, Table, owner_is}
use Rattle.machine.specs.Table.{at}
use Rattle.machine.specs.Typed.{Each}
use Rattle.machine.proofs.Tests.{or_left, or_right}
use Rattle.store.specs.Flat.{row_of}
use Rattle.store.proofs.Counts.{eqb-sym}
use Rattle.gathering.specs.Merges.{placed, gathered}
use Rattle.gathering.specs.Waits.{Small, Of, Single, waits}
use Rattle.gathering.specs.Aside.{space, Empty, PutIn, Mixed, Aside, Among, RowIn}
use Rattle.gathering.proofs.InOrder.{sorted-gathered, gathered_more}
use Rattle.gathering.proofs.Looking.{few_rows}

-- ---- where nobody waits

pub nobody_mixed : {t : Table} {w : List ℕ} → Empty w → Mixed t [] w 0
unfolding gathered
nobody_mixed e = record { ready = tt; idle = tt; single = tt; count = refl; rows = e }

pub nobody_aside : {n : ℕ} {t : Table} {w : List ℕ} → Empty w → Aside n t [] w 0
nobody_aside e = record { mixed = nobody_mixed e; mine = tt }

-- ---- one more

pub each_more : (P : Entry → Type 0) (l : List Entry) (b : Entry) → Each P l → P b → Each P (l ++ (b ∷ []))
each_more P [] b h r = (r, tt)
each_more P (x ∷ l) b h r = (h.0, each_more P l b h.1 r)

pub waits_more : (h : ℕ) (es : List Entry) (a : Entry) → waits h es ≡ false → eqb a.key.hash h ≡ false → waits h (es ++ (a ∷ [])) ≡ false
unfolding waits
waits_more h [] a w e = ap (λ (b : Bool). b || false) e
waits_more h (x ∷ es) a w e =
    ap (λ (b : Bool). b || waits h (es ++ (a ∷ []))) (or_left (eqb x.key.hash h) (waits h es) w) ∙ waits_more h es a (or_right (eqb x.key.hash h) (waits h es) w) e

single_more : (es : List Entry) (a : Entry) → Single es → waits a.key.hash es ≡ false → Single (es ++ (a ∷ []))
unfolding waits
single_more [] a s w = (refl, tt)
single_more (x ∷ es) a s w = (
  waits_more x.key.hash es a s.0 (eqb-sym a.key.hash x.key.hash ∙ or_left (eqb x.key.hash a.key.hash) (waits a.key.hash es) w),
  single_more es a s.1 (or_right (eqb x.key.hash a.key.hash) (waits a.key.hash es) w),
)

module _ (k : Key) (c : Candidate) (small : k.hash < top) where
  abbrev new : Entry
  new = record { key = k; candidate = c }

  -- its row is put in its place
  pub mixed_more : {t : Table} {es : List Entry} {w w' : List ℕ} {d : ℕ} → Mixed t es w d → {y : Row} → d < space → waits k.hash es ≡ false
      → owner_is c.connection (at k t).owner ≡ false → y ≡ row_of (at k t) c → PutIn w w' d y → Mixed t (es ++ (new ∷ [])) w' (d + 1)
  mixed_more {t} {es} {w} {w'} {d} a {y} l apart i e p =
      let one : placed y (gathered t es []) ≡ gathered t (es ++ (new ∷ [])) [] = ap (λ (z : Row). placed z (gathered t es [])) e ∙ sym (gathered_more t es new []) in
      record {
        ready = each_more Small es new a.ready (record { small = small });
        idle = each_more (λ (x : Entry). owner_is x.candidate.connection (at x.key t).owner ≡ false) es new a.idle i;
        single = single_more es new a.single apart;
        count = length-append es (new ∷ []) ∙ omega (arith, a.count);
        rows = subst (λ (zs : List Row). Holds row_size row_words space zs w') one (p space (gathered t es []) (few_rows a) l (sorted-gathered t es) a.rows);
      }

  pub aside_more : {t : Table} {es : List Entry} {w w' : List ℕ} {d : ℕ} → Aside c.connection t es w d → {y : Row} → d < space → waits k.hash es ≡ false
      → owner_is c.connection (at k t).owner ≡ false → y ≡ row_of (at k t) c → PutIn w w' d y → Aside c.connection t (es ++ (new ∷ [])) w' (d + 1)
  aside_more {t} {es} a l apart i e p = record { mixed = mixed_more a.mixed l apart i e p; mine = each_more (Of c.connection) es new a.mine (record { mine = refl }) }

  pub among : {b w w' : List ℕ} {m : ℕ} {y : Row} → m < space → RowIn b k c y → PutIn w w' m y → Among b w w' m k c
  among l row put st s g i es apart a = mixed_more a l apart i (row st s g i) put
