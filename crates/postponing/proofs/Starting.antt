-- What is known of a table while owners are to go and parents wait: it is sound, an owner that has not failed owns its request there, and nothing is to go at the start.
use Prim.Native.Nat.{ℕ, suc, ◌<◌}
use mathlib.Core.Path.{◌≡◌, refl, sym, ap, subst, ◌∙◌}
use mathlib.Core.Logic.{inl, inr}
use mathlib.Core.Bool.{true, false, ◌||◌}
use mathlib.Core.List.{List, [], ◌∷◌}
use mathlib.Core.Option.{none}
use native.Mathlib.Omega.{arith}
use lib.Dec.{eqb}
use lib.ListN.{length, length-append}
use borrow.Author.Tests.{eqb-true, eqb-false}
use Rattle.ident.specs.Number.{Key, top, place}
use Rattle.machine.specs.State.{Candidate, Entry, Request, Table, State, on_table, blank, owner_is, is_some}
use Rattle.machine.specs.Table.{at}
use Rattle.machine.specs.Announce.{push}
use Rattle.machine.specs.Sound.{Ordered, All, Sound}
use Rattle.machine.specs.Typed.{Each}
use Rattle.machine.proofs.Alone.{Hold, Alone, alone_same, alone_then, alone-change, alone-mark}
use Rattle.machine.proofs.At.{at_here, at_there}
use Rattle.machine.proofs.Table.{all_at, at_absent, ordered-change}
use Rattle.machine.proofs.Tests.{test, never}
use Rattle.store.specs.Image.{Writes}
use Rattle.store.specs.Shown.{Kept}
use Rattle.store.proofs.Counts.{held-rows}
use Rattle.package_stages.specs.Changes.{has_place}
use Rattle.requests.specs.Changes.{Tells}
use Rattle.requests.proofs.Keeping.{sized_of}
use Rattle.failing.proofs.Leaving.{told}
use Rattle.gathering.specs.Waits.{pushes, Small}
use Rattle.gathering.specs.Aside.{Empty}
use Rattle.gathering.proofs.OneMore.{nobody_mixed}
use Rattle.parenting.specs.Waiting.{marks, keys_of, TxKey}
use Rattle.parenting.proofs.Starting.{apart_none, empty_none}
use Rattle.parenting.proofs.Marking.{sound-marks, entries-keys}
use Rattle.postponing.specs.Silent.{late, dropped_all}
use Rattle.postponing.specs.Pending.{Plain, Pending, OwnsInTime}
use Rattle.postponing.proofs.Dropped.{dropped_timely, at_stays, at_goes}
use Rattle.postponing.proofs.DroppedCounts.{plain_dropped}

-- ---- what holds at every key holds of each request

pub each_at : (P : Request → Type 0) (lo : ℕ) (t : Table) → Ordered lo t → ((k : Key) → P (blank k)) → ((k : Key) → k.hash < top → P (at k t)) → All P t
each_at P lo [] o b f = tt
each_at P lo (r ∷ t) o b f = (
  subst P (at_here r.key r t refl) (f r.key o.1),
  each_at P (suc (place r.key)) t o.2 b (λ k s. elim (test (eqb (place k) (place r.key))) [
    | inl e ↦ subst P (sym (at_absent k (suc (place r.key)) t (omega (arith, eqb-true (place k) (place r.key) e)) o.2)) (b k)
    | inr e ↦ subst P (at_there k r t (eqb-false (place k) (place r.key) e)) (f k s)
  ]),
)

-- what is told by owner, flag, package and parents stays where these do
pub plain_alone : {t t' : Table} → Alone t t' → Ordered 0 t' → Plain t → Plain t'
plain_alone {t} {t'} a o p = record {
  timely = each_at (λ (r : Request). late 0 r.owner ≡ false) 0 t' o (λ k. refl)
      (λ k s. ap (λ (x : Hold). late 0 x.owner) (a.hold k s) ∙ all_at (λ (r : Request). late 0 r.owner ≡ false) k t refl p.timely);
  unplaced = each_at (λ (r : Request). has_place r ≡ false) 0 t' o (λ k. refl)
      (λ k s. ap (λ (x : Hold). x.info || is_some x.«package») (a.hold k s) ∙ all_at (λ (r : Request). has_place r ≡ false) k t refl p.unplaced);
}

-- ---- candidates that come in, and requests that are marked

alone_push : (k : Key) (c : Candidate) (t : Table) → k.hash < top → Ordered 0 t → Alone t (push k c t)
alone_push k c t s o = alone-change k _ t s (λ r. refl) o refl (λ e. absurd (omega (arith, ap length e, length-append (at k t).candidates (c ∷ []))))

alone_pushes : (es : List Entry) (t : Table) → Each Small es → Ordered 0 t → Alone t (pushes es t)
unfolding pushes
alone_pushes [] t a o = alone_same
alone_pushes (e ∷ es) t a o =
    alone_then (alone_push e.key e.candidate t a.0.small o)
    (alone_pushes es (push e.key e.candidate t) a.1 (ordered-change e.key _ 0 t (λ r. refl) (omega arith) a.0.small o))

alone_marks : (st : State) (ks : List Key) (t : Table) → Each TxKey ks → Sound (on_table t st) → Alone t (marks ks t)
unfolding marks
alone_marks st [] t a s = alone_same
alone_marks st (k ∷ ks) t a s =
    let x = sound-marks st (k ∷ []) t (a.0, tt) s in
    alone_then (alone-mark k t a.0.small s.bounded.ordered s.bounded.lawful) (alone_marks st ks _ a.1 (unfold marks in x))

-- ---- the table meanwhile

module _ {b w : List ℕ} {d c : ℕ} {st : State} {t : Table} (v : Pending b w d c st t) where
  abbrev remaining : Table
  remaining = dropped_all 0 v.base

  pub pending_kept : Kept b
  pending_kept = record { state = on_table v.base st; sound = v.sound; writes = v.writes }

  pub pending_keys : Each TxKey (keys_of v.entries)
  pending_keys = entries-keys v.entries v.mixed.ready v.parental

  pub pending_sound : Sound (on_table t st)
  pending_sound = subst (λ (u : Table). Sound (on_table u st)) (sym v.table) (sound-marks st (keys_of v.entries) (pushes v.entries remaining) pending_keys v.together)

  pub alone_left : Alone remaining t
  alone_left =
      subst (Alone remaining) (sym v.table)
      (alone_then (alone_pushes v.entries remaining v.mixed.ready v.left.bounded.ordered) (alone_marks st (keys_of v.entries) (pushes v.entries remaining) pending_keys v.together))

  pub pending_plain : Plain t
  pending_plain = plain_alone alone_left pending_sound.bounded.ordered (plain_dropped v.base v.unplaced)

  -- an owner that has not failed, and one that has
  module _ (k : Key) (s : k.hash < top) where
    pub owner_same : late 0 (at k v.base).owner ≡ false → (at k t).owner ≡ (at k v.base).owner
    owner_same l = ap (λ (x : Hold). x.owner) (alone_left.hold k s) ∙ ap (λ (r : Request). r.owner) (at_stays 0 k v.base v.sound.bounded.filled l)

    pub owner_gone : late 0 (at k v.base).owner ≡ true → (at k t).owner ≡ none
    owner_gone l = ap (λ (x : Hold). x.owner) (alone_left.hold k s) ∙ at_goes 0 k 0 v.base v.sound.bounded.ordered l

    pub owns_base : (n : ℕ) → owner_is n (at k t).owner ≡ true → OwnsInTime n k v.base
    owns_base n own = elim (test (late 0 (at k v.base).owner)) [
      | inl l ↦ never (sym (ap (owner_is n) (owner_gone l)) ∙ own)
      | inr l ↦ (sym (ap (owner_is n) (owner_same l)) ∙ own, l)
    ]

    pub owner_told : (n : ℕ) → owner_is n (at k t).owner ≡ true → Tells b (OwnsInTime n k)
    owner_told n own = told (OwnsInTime n k) (on_table v.base st) v.sound v.writes (owns_base n own)

-- ---- at the start, and at the end

module _ {b w : List ℕ} {st : State} {t : Table} where
  pub pending_start : Sound (on_table t st) → Writes b (on_table t st) → Plain t → Empty w → Pending b w 0 0 st t
  unfolding marks pushes
  pending_start s g p e =
      let same : dropped_all 0 t ≡ t = dropped_timely 0 t s.bounded.filled p.timely in
      record {
        base = t;
        entries = [];
        sound = s;
        writes = g;
        unplaced = p.unplaced;
        mixed = nobody_mixed e;
        parental = tt;
        living = tt;
        left = subst (λ (u : Table). Sound (on_table u st)) (sym same) s;
        count = rw same (omega arith);
        timely = λ _. p.timely;
        room = rw same (omega (arith, (sized_of (on_table t st) s).rows_few, held-rows t));
        together = subst (λ (u : Table). Sound (on_table u st)) (sym same) s;
        table = sym same;
      }

  module _ (v : Pending b w 0 0 st t) where
    all_here : t ≡ v.base
    all_here = apart_none v.entries v.mixed.count v.table ∙ dropped_timely 0 v.base v.sound.bounded.filled (v.timely refl)

    pub none_sound : Sound (on_table t st)
    none_sound = pending_sound v

    pub none_writes : Writes b (on_table t st)
    none_writes = subst (λ (u : Table). Writes b (on_table u st)) (sym all_here) v.writes

    pub none_empty : Empty w
    none_empty = empty_none v.entries v.base v.mixed.count v.mixed.rows

-- after what was announced by itself
pub pending_again : {b b' w : List ℕ} {st : State} {t t' : Table} → Pending b w 0 0 st t → Alone t t' → Sound (on_table t' st) → Writes b' (on_table t' st) → Pending b' w 0 0 st t'
pending_again v a s g = pending_start s g (plain_alone a s.bounded.ordered (pending_plain v)) (none_empty v)
