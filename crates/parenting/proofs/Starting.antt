-- Where nobody waits: the table is the one that the bytes write.
use Prim.Native.Nat.{ℕ}
use mathlib.Core.Path.{◌≡◌, refl, sym, subst}
use mathlib.Core.Bool.{Bool, true}
use mathlib.Core.List.{List, [], ◌∷◌}
use native.Mathlib.Omega.{arith}
use lib.ListN.{length}
use Rattle.regions.specs.Regions.{Holds}
use Rattle.regions.specs.Rows.{row_size, row_words}
use Rattle.machine.specs.State.{Entry, Table, State, on_table}
use Rattle.machine.specs.Sound.{Sound}
use Rattle.store.specs.Image.{Writes}
use Rattle.store.proofs.Counts.{held-rows}
use Rattle.requests.proofs.Keeping.{sized_of}
use Rattle.gathering.specs.Merges.{gathered}
use Rattle.gathering.specs.Waits.{pushes}
use Rattle.gathering.specs.Aside.{space, Empty}
use Rattle.gathering.proofs.OneMore.{nobody_aside}
use Rattle.parenting.specs.Waiting.{marks, keys_of, Beside, LetIn}
use Rattle.parenting.specs.Displacing.{Spent, Reserve, unlisted, Supplied, Settled, Finished}

-- with no entries
pub apart_none : (es : List Entry) {t u : Table} → length es ≡ 0 → t ≡ marks (keys_of es) (pushes es u) → t ≡ u
unfolding marks pushes
apart_none [] e q = q
apart_none (a ∷ l) e q = absurd (omega (arith, e))

pub empty_none : (es : List Entry) (t : Table) {w : List ℕ} → length es ≡ 0 → Holds row_size row_words space (gathered t es []) w → Empty w
unfolding gathered
empty_none [] t e h = h
empty_none (a ∷ l) t e h = absurd (omega (arith, e))

module _ {n : ℕ} {b w : List ℕ} {st : State} {t : Table} where
  pub beside_none : Sound (on_table t st) → Writes b (on_table t st) → Empty w → Beside n b w 0 st t
  unfolding marks pushes gathered
  beside_none s g e = record {
    base = t;
    entries = [];
    parental = tt;
    sound = s;
    writes = g;
    aside = nobody_aside e;
    room = omega (arith, (sized_of (on_table t st) s).rows_few, held-rows t);
    together = s;
    table = refl;
  }

  pub supplied_none : (v : List ℕ) → Sound (on_table t st) → Writes b (on_table t st) → Empty w → (s : Bool) → (s ≡ true → Spent t) → Supplied n b w v 0 st t (unlisted s)
  supplied_none v g o e s k = record { free = λ _. beside_none g o e; owed = λ l. absurd (omega arith); none_left = k }

  module _ (v : Beside n b w 0 st t) where
    whole : t ≡ v.base
    whole = apart_none v.entries v.aside.mixed.count v.table

    pub none_sound : Sound (on_table t st)
    none_sound = subst (λ (u : Table). Sound (on_table u st)) (sym whole) v.sound

    pub none_writes : Writes b (on_table t st)
    none_writes = subst (λ (u : Table). Writes b (on_table u st)) (sym whole) v.writes

    pub none_empty : Empty w
    none_empty = empty_none v.entries v.base v.aside.mixed.count v.aside.mixed.rows

-- they have come in, once none waits
pub finished : {n d e : ℕ} {b b₁ b' w w₁ w' v : List ℕ} {q : Reserve} → Settled n b b₁ w w₁ v d e q → LetIn n b₁ b' w₁ w' e → Finished n b b' w v d q
finished x y st t f = let g = y st t (x st t f) in (none_sound g, none_writes g)
