-- Those that failed go, and those that wait come in: the table is the one that the bytes write then.
use Prim.Native.Nat.{ℕ, ◌+◌, ◌≤◌}
use mathlib.Core.Path.{◌≡◌, refl, sym, ap, subst, ◌∙◌}
use mathlib.Core.Bool.{Bool, true, false, ◌||◌}
use mathlib.Core.List.{List, [], ◌∷◌}
use mathlib.Core.Option.{Option, none, some}
use native.Mathlib.Omega.{arith}
use lib.ListN.{length}
use Rattle.ident.specs.Number.{Key, txid, wtxid}
use Rattle.regions.specs.declared.Row.{Row}
use Rattle.machine.specs.State.{Entry, Package, Request, Table, State, on_table, is_some}
use Rattle.machine.specs.Table.{at, held}
use Rattle.machine.specs.Sound.{All, Filled, Sound}
use Rattle.machine.specs.Typed.{Each}
use Rattle.machine.proofs.Tests.{never}
use Rattle.store.specs.Flat.{place_for, places_for}
use Rattle.store.specs.Image.{Writes}
use Rattle.requests.specs.Changes.{Makes}
use Rattle.gathering.specs.Merges.{gathered}
use Rattle.gathering.specs.Waits.{pushes}
use Rattle.gathering.specs.Aside.{space, Empty, GathersAll, ComeInAll}
use Rattle.gathering.proofs.ComingIn.{length-gathered}
use Rattle.gathering.proofs.Elsewhere.{SameAt, mixed_by}
use Rattle.parenting.specs.Waiting.{marks, keys_of, row_keys, TxKey, Markable, RowsMarked, Parental}
use Rattle.parenting.proofs.Marking.{keys-gathered, marks-gathered}
use Rattle.postponing.specs.Silent.{late, dropped_all, Unburdened}
use Rattle.postponing.specs.Pending.{Unplaced, Living, Pending, Pends, Departs, Arrives}
use Rattle.postponing.proofs.Dropped.{filled_dropped, dropped_timely, at_stays}
use Rattle.postponing.proofs.DroppedCounts.{plain_dropped}
use Rattle.postponing.proofs.Starting.{pending_sound, pending_plain, pending_start}

-- ---- no place

placeless : (r : Request) (i : Bool) (p : Option Package) → (i || is_some p) ≡ false → place_for r i p ≡ []
placeless r true p e = never (sym e)
placeless r false (some p) e = never (sym e)
placeless r false none e = refl

pub unburdened : (now : ℕ) (t : Table) → Unplaced t → Unburdened now t
unfolding places_for
unburdened now [] u = tt
unburdened now (r ∷ t) u = (λ e. placeless r r.info r.«package» u.0, unburdened now t u.1)

-- ---- those that failed go

module _ (t : Table) (f : All Filled t) where
  keys_stay : (es : List Entry) → Each Parental es → Each (λ (a : Entry). Living t a.key.hash) es → Each (SameAt t (dropped_all 0 t)) es
  keys_stay [] p l = tt
  keys_stay (e ∷ es) p l = (subst (λ (k : Key). at k (dropped_all 0 t) ≡ at k t) (sym p.0.kind) (at_stays 0 (txid e.key.hash) t f l.0.0), keys_stay es p.1 l.1)

  living_left : (es : List Entry) → Each (λ (a : Entry). Living t a.key.hash) es → Each (λ (a : Entry). Living (dropped_all 0 t) a.key.hash) es
  living_left [] l = tt
  living_left (e ∷ es) l = (
    (
      ap (λ (r : Request). late 0 r.owner) (at_stays 0 (txid e.key.hash) t f l.0.0) ∙ l.0.0,
      ap (λ (r : Request). late 0 r.owner) (at_stays 0 (wtxid e.key.hash) t f l.0.1) ∙ l.0.1,
    ),
    living_left es l.1,
  )

module _ {b b' : List ℕ} {c : ℕ} where
  pub departs : Makes b b' (Unburdened 0) (dropped_all 0) → Departs b b' c
  departs makes w d st t v =
      let x = v.base in
      let u = dropped_all 0 x in
      let f = v.sound.bounded.filled in
      let p = plain_dropped x v.unplaced in
      let same : dropped_all 0 u ≡ u = dropped_timely 0 u (filled_dropped 0 x) p.timely in
      record {
        base = u;
        entries = v.entries;
        sound = v.left;
        writes = makes (on_table x st) v.sound v.writes (unburdened 0 x v.unplaced);
        unplaced = p.unplaced;
        mixed = mixed_by x u (keys_stay x f v.entries v.parental v.living) v.mixed;
        parental = v.parental;
        living = living_left x f v.entries v.living;
        left = subst (λ (y : Table). Sound (on_table y st)) (sym same) v.left;
        count = rw same (omega arith);
        timely = λ e. p.timely;
        room = rw same v.room;
        together = subst (λ (y : Table). Sound (on_table (pushes v.entries y) st)) (sym same) v.together;
        table = v.table ∙ ap (λ (y : Table). marks (keys_of v.entries) (pushes v.entries y)) (sym same);
      }

-- nobody is to go
pub departs_none : {b : List ℕ} {c : ℕ} → c ≡ 0 → Departs b b c
departs_none {b} e w d st t v = subst (λ (i : ℕ). Pending b w d i st t) e v

pub departed : {b b' w : List ℕ} {d c : ℕ} → Departs b b' c → Pends b w d c → Pends b' w d 0
departed {w = w} {d = d} x p = record { state = p.state; now_table = p.now_table; pending = x w d p.state p.now_table p.pending }

-- ---- those that wait come in

module _ {b w : List ℕ} {d : ℕ} {st : State} {t : Table} (v : Pending b w d 0 st t) where
  abbrev es : List Entry
  es = v.entries

  nobody : dropped_all 0 v.base ≡ v.base
  nobody = dropped_timely 0 v.base v.sound.bounded.filled (v.timely refl)

  pub gathers : GathersAll b w d
  gathers = record {
    state = on_table v.base st;
    sound = v.sound;
    writes = v.writes;
    entries = es;
    mixed = v.mixed;
    room = subst (λ (u : Table). held u + d ≤ st.limit) nobody v.room;
  }

  together' : Sound (on_table (pushes es v.base) st)
  together' = subst (λ (u : Table). Sound (on_table (pushes es u) st)) nobody v.together

  abbrev theirs : List Row
  theirs = gathered v.base es []

  keys_in : Each TxKey (row_keys theirs)
  keys_in = keys-gathered v.base v.sound.bounded.ordered es [] v.mixed.ready v.parental tt

  so-many : length theirs ≡ d
  so-many = omega (arith, length-gathered v.base es [], v.mixed.count)

  module _ {b₁ : List ℕ} (c : ComeInAll b b₁ w d) where
    came : Writes b₁ (on_table (pushes es v.base) st)
    came = c (on_table v.base st) v.sound v.writes es v.mixed

    pub came_markable : Markable b₁ w d
    came_markable = record { state = on_table (pushes es v.base) st; sound = together'; writes = came; space = space; rows = theirs; count = so-many; holds = v.mixed.rows; keys = keys_in }

    pub came_in : {b₂ w₂ : List ℕ} → RowsMarked b₁ b₂ w d → Empty w₂ → Pending b₂ w₂ 0 0 st t
    unfolding marks
    came_in {b₂} {w₂} m e =
        let q = marks-gathered v.base v.sound.bounded.ordered st (pushes es v.base) together' es [] v.mixed.ready v.parental tt in
        let g = m space theirs so-many v.mixed.rows keys_in (on_table (pushes es v.base) st) together' came in
        let all : t ≡ marks (keys_of es) (pushes es v.base) = v.table ∙ ap (λ (u : Table). marks (keys_of es) (pushes es u)) nobody in
        pending_start (pending_sound v) (subst (λ (u : Table). Writes b₂ (on_table u st)) (q ∙ sym all) g) (pending_plain v) e

module _ {b w : List ℕ} {d : ℕ} where
  pub arrives : {b₁ b₂ w₂ : List ℕ} → ComeInAll b b₁ w d → RowsMarked b₁ b₂ w d → Empty w₂ → Arrives b b₂ w w₂ d
  arrives c m e st t v = came_in v c m e

  pub arrives_none : d ≡ 0 → Arrives b b w w d
  arrives_none e st t v = subst (λ (i : ℕ). Pending b w i 0 st t) e v
