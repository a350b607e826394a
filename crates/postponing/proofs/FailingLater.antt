-- An owner fails while others are to go and parents wait at other hashes: it is to go too, and the table is the one where it has failed.
use Prim.Native.Nat.{ℕ, ◌+◌, ◌≤◌, ◌<◌}
use mathlib.Core.Path.{◌≡◌, refl, sym, ap, subst, ◌∙◌}
use mathlib.Core.Logic.{inl, inr}
use mathlib.Core.Bool.{true, false}
use mathlib.Core.List.{List, [], ◌∷◌}
use native.Mathlib.Omega.{arith}
use lib.Dec.{eqb}
use lib.ListN.{length}
use borrow.Author.Tests.{eqb-false}
use Rattle.ident.specs.Number.{Key, top, place, other, txid, wtxid}
use Rattle.ident.proofs.Places.{place_same as place-inj}
use Rattle.machine.specs.Limits.{max_announcements, word}
use Rattle.machine.specs.State.{Candidate, Entry, Request, Table, State, on_table, owner_is}
use Rattle.machine.specs.Table.{at, change, has, any, count_in, held}
use Rattle.machine.specs.Announce.{without}
use Rattle.machine.specs.Fail.{releasable, left, leaves, failed}
use Rattle.machine.specs.Sound.{Ordered, All, Filled, Sound, Bounded}
use Rattle.machine.specs.Typed.{Each}
use Rattle.machine.proofs.At.{KeepsKey, at_other, other_place}
use Rattle.machine.proofs.Fail.{bounded-failed, bounded-leaves, count_in-map as count-ready}
use Rattle.machine.proofs.First.{without-absent}
use Rattle.machine.proofs.Kept.{sound-table}
use Rattle.machine.proofs.Loosened.{left_key}
use Rattle.machine.proofs.Table.{all_at, all_change, ordered-change, filled-change}
use Rattle.machine.proofs.Tests.{test, never, or_left, or_right}
use Rattle.store.specs.Image.{Writes}
use Rattle.store.specs.Shown.{Kept}
use Rattle.package_stages.specs.Changes.{has_place}
use Rattle.gathering.specs.Waits.{pushes, Small, waits}
use Rattle.gathering.specs.Aside.{Mixed}
use Rattle.gathering.proofs.Elsewhere.{change-pushes, mixed_still}
use Rattle.parenting.specs.Waiting.{marks, keys_of}
use Rattle.parenting.proofs.Marking.{change-marks, entries-else}
use Rattle.requests.specs.Changes.{Makes, Tells}
use Rattle.failing.specs.Changes.{readied}
use Rattle.failing.proofs.Leaving.{told}
use Rattle.postponing.specs.Silent.{late, dropped_all}
use Rattle.postponing.specs.Lapses.{lapses, overdue, lapsed}
use Rattle.postponing.specs.Pending.{Unplaced, Living, Pending, Pends, OwnsInTime, Cleared, FailsLater, Settles}
use Rattle.postponing.proofs.Dropped.{at_stays}
use Rattle.postponing.proofs.DroppedCounts.{count_exact}
use Rattle.postponing.proofs.Dropping.{calm, here_has, other_has}
use Rattle.postponing.proofs.LapsedOwner.{owner_waits, bounded_lapsed, lapsed_goes}
use Rattle.postponing.proofs.Starting.{pending_kept, pending_plain, owner_same, owns_base}

-- ---- a request at another hash than those that wait is changed

far : (j k : Key) → j.hash < top → k.hash < top → eqb k.hash j.hash ≡ false → place k ≡ place j → ⊥
far j k s l e q = eqb-false k.hash j.hash e (ap (λ (i : Key). i.hash) (place-inj k j l s q))

module _ (j : Key) (f : Request → Request) (keeps : KeepsKey f) (s : j.hash < top) where
  living_else : (t : Table) (h : ℕ) → h < top → eqb h j.hash ≡ false → Living t h → Living (change j f t) h
  living_else t h l e v = (
    ap (λ (r : Request). late 0 r.owner) (at_other (txid h) j f t keeps (far j (txid h) s l e)) ∙ v.0,
    ap (λ (r : Request). late 0 r.owner) (at_other (wtxid h) j f t keeps (far j (wtxid h) s l e)) ∙ v.1,
  )

  pub living_still : (es : List Entry) (t : Table) → Each Small es → waits j.hash es ≡ false → Each (λ (a : Entry). Living t a.key.hash) es → Each (λ (a : Entry). Living (change j f t) a.key.hash) es
  unfolding waits
  living_still [] t a w v = tt
  living_still (e ∷ es) t a w v = (
    living_else t e.key.hash a.0.small (or_left (eqb e.key.hash j.hash) (waits j.hash es) w) v.0,
    living_still es t a.1 (or_right (eqb e.key.hash j.hash) (waits j.hash es) w) v.1,
  )

  -- before they come in, or behind them
  pub change-waiting : (es : List Entry) (t : Table) → Each Small es → waits j.hash es ≡ false → Ordered 0 (pushes es t) → All Filled (pushes es t) → Ordered 0 t → All Filled t
      → change j f (marks (keys_of es) (pushes es t)) ≡ marks (keys_of es) (pushes es (change j f t))
  change-waiting es t a w o₂ f₂ o l =
      change-marks j f keeps s (keys_of es) (pushes es t) (entries-else j.hash es a w) o₂ f₂ ∙ ap (marks (keys_of es)) (change-pushes j f keeps s es t a w o l)

-- ---- one announcement less

without_one : (n : ℕ) (cs : List Candidate) → has n cs ≡ true → count_in (λ m. true) (without n cs) + 1 ≡ count_in (λ m. true) cs
unfolding without has count_in
without_one n [] h = never h
without_one n (c ∷ cs) h = elim (test (eqb c.connection n)) [ inl e ↦ rw e (omega arith) | inr e ↦ rw e (omega (arith, without_one n cs (rw e at h))) ]

left_fewer : (n now : ℕ) (r : Request) → has n r.candidates ≡ true → count_in (any (left n now r).key) (left n now r).candidates + 1 ≡ count_in (λ m. true) r.candidates
unfolding left
left_fewer n now r h = omega (arith, count-ready (λ m. true) now (without n r.candidates), without_one n r.candidates h)

left_as_many : (n now : ℕ) (r : Request) → has n r.candidates ≡ false → count_in (any (left n now r).key) (left n now r).candidates ≡ count_in (λ m. true) r.candidates
unfolding left
left_as_many n now r h = count-ready (λ m. true) now (without n r.candidates) ∙ ap (count_in (λ m. true)) (without-absent n r.candidates h)

module _ {m : _} {Q : ℕ} {t : Table} (now : ℕ) (k : Key) (n : ℕ) (s : k.hash < top) (b : Bounded m Q t) (own : owner_is n (at k t).owner ≡ true) where
  failed_fewer : held (leaves k n now t) + 1 ≡ held t
  failed_fewer =
      let f = left n now in
      let u = change k f t in
      let first = count_exact any k f 0 t b.ordered in
      let second = count_exact any (other k) f 0 u (ordered-change k f 0 t (left_key n now) (omega arith) s b.ordered) in
      let there : at (other k) u ≡ at (other k) t = at_other (other k) k f t (left_key n now) (other_place k s) in
      let same : count_in (any (f (at (other k) u)).key) (f (at (other k) u)).candidates ≡ count_in (λ m. true) (at (other k) u).candidates =
      left_as_many n now (at (other k) u) (ap (λ (r : Request). has n r.candidates) there ∙ other_has now k n s b own) in
      omega (arith, first, second, same, left_fewer n now (at k t) (here_has now k n s b own))

-- ---- as many, while it waits to go

lapsed_as_many : (k : Key) (n now : ℕ) (t : Table) → k.hash < top → Ordered 0 t → held (lapsed k n now t) ≡ held t
lapsed_as_many k n now t s o =
    let o₁ = ordered-change k (overdue n) 0 t (λ r. refl) (omega arith) s o in
    let t₁ = change k (overdue n) t in
    let o₂ = ordered-change k (readied now) 0 t₁ (λ r. refl) (omega arith) s o₁ in
    let t₂ = change k (readied now) t₁ in
    omega (
      arith,
      count_exact any k (overdue n) 0 t o,
      count_exact any k (readied now) 0 t₁ o₁,
      count_exact any (other k) (readied now) 0 t₂ o₂,
      count-ready (λ m. true) now (at k t₁).candidates,
      count-ready (λ m. true) now (at (other k) t₂).candidates,
    )

-- ---- the owner n of the request at k fails

module _ {b w : List ℕ} {d c : ℕ} {st : State} {t : Table} (v : Pending b w d c st t) (k : Key) (s : k.hash < top) (n now : ℕ) (early : now < word)
    (apart : waits k.hash v.entries ≡ false) (own : OwnsInTime n k v.base) where
  abbrev es : List Entry
  es = v.entries

  abbrev u : Table
  u = dropped_all 0 v.base

  abbrev base' : Table
  base' = lapsed k n now v.base

  own_left : owner_is n (at k u).owner ≡ true
  own_left = ap (λ (r : Request). owner_is n r.owner) (at_stays 0 k v.base v.sound.bounded.filled own.1) ∙ own.0

  released : (x : Table) → owner_is n (at k x).owner ≡ true → has_place (at k x) ≡ false → releasable n (at k x) ≡ true
  released x o p = rw (o, calm (at k x) p) refl

  unplaced_at : has_place (at k v.base) ≡ false
  unplaced_at = all_at (λ (r : Request). has_place r ≡ false) k v.base refl v.unplaced

  fails : lapses n (at k v.base) ≡ true
  fails = rw (released v.base own.0 unplaced_at, owner_waits n (at k v.base).owner own.0 own.1) refl

  after : Table
  after = (failed k n now u).table

  same : dropped_all 0 base' ≡ (failed k n now u).table
  same = lapsed_goes v.sound.bounded k s n own.0 now early v.left.bounded fails

  sound' : Sound (on_table base' st)
  sound' = sound-table v.sound (bounded_lapsed v.sound.bounded k s n own.0 now early)

  left' : Sound (on_table (failed k n now u).table st)
  left' = sound-table v.left (bounded-failed k n now s early v.left.bounded)

  failed_left : (failed k n now u).table ≡ leaves k n now u
  unfolding failed
  failed_left = rw (released u own_left (ap has_place (at_stays 0 k v.base v.sound.bounded.filled own.1) ∙ unplaced_at)) refl

  -- ---- with those that wait

  abbrev f : Request → Request
  f = left n now

  leaves-waiting : (leaves k n now (marks (keys_of es) (pushes es u))) ≡ marks (keys_of es) (pushes es (leaves k n now u))
  leaves-waiting =
      let o = v.left.bounded.ordered in
      let l = v.left.bounded.filled in
      let g = v.together.bounded in
      let z = change-pushes k f (left_key n now) s es u v.mixed.ready apart o l in
      let o₂ = ordered-change k f 0 (pushes es u) (left_key n now) (omega arith) s g.ordered in
      let l₂ = filled-change k f (pushes es u) g.filled in
      ap (change (other k) f) (change-waiting k f (left_key n now) s es u v.mixed.ready apart g.ordered g.filled o l)
      ∙ change-waiting (other k) f (left_key n now) s es (change k f u) v.mixed.ready apart (subst (Ordered 0) z o₂) (subst (All Filled) z l₂)
      (ordered-change k f 0 u (left_key n now) (omega arith) s o) (filled-change k f u l)

  pushed : leaves k n now (pushes es u) ≡ pushes es (leaves k n now u)
  pushed =
      let o = v.left.bounded.ordered in
      let l = v.left.bounded.filled in
      ap (change (other k) f) (change-pushes k f (left_key n now) s es u v.mixed.ready apart o l)
      ∙ change-pushes (other k) f (left_key n now) s es (change k f u) v.mixed.ready apart (ordered-change k f 0 u (left_key n now) (omega arith) s o) (filled-change k f u l)

  together' : Sound (on_table (pushes es (failed k n now u).table) st)
  together' =
      subst (λ (x : Table). Sound (on_table x st)) (pushed ∙ ap (pushes es) (sym failed_left)) (sound-table v.together (bounded-leaves k n now s early v.together.bounded))

  failed_all : (failed k n now t).table ≡ leaves k n now t
  unfolding failed
  failed_all =
      rw (released t (ap (owner_is n) (owner_same v k s own.1) ∙ own.0) (all_at (λ (r : Request). has_place r ≡ false) k t refl (pending_plain v).unplaced)) refl

  table' : (failed k n now t).table ≡ marks (keys_of es) (pushes es (dropped_all 0 base'))
  table' =
      failed_all ∙ ap (leaves k n now) v.table ∙ leaves-waiting
      ∙ ap (λ (x : Table). marks (keys_of es) (pushes es x)) (sym (same ∙ failed_left))

  -- ---- what is kept of those that wait, and of the places

  abbrev once_more : Table
  once_more = change k (readied now) (change k (overdue n) v.base)

  mixed' : Mixed base' es w d
  mixed' =
      mixed_still (other k) (readied now) (λ r. refl) s
      (mixed_still k (readied now) (λ r. refl) s (mixed_still k (overdue n) (λ r. refl) s v.mixed apart) apart) apart

  living' : Each (λ (a : Entry). Living base' a.key.hash) es
  living' =
      let a = v.mixed.ready in
      living_still (other k) (readied now) (λ r. refl) s es once_more a apart
      (living_still k (readied now) (λ r. refl) s es (change k (overdue n) v.base) a apart (living_still k (overdue n) (λ r. refl) s es v.base a apart v.living))

  abbrev Free : Request → Type 0
  Free r = has_place r ≡ false

  unplaced' : Unplaced base'
  unplaced' =
      let o = v.sound.bounded.ordered in
      let o₁ = ordered-change k (overdue n) 0 v.base (λ r. refl) (omega arith) s o in
      let o₂ = ordered-change k (readied now) 0 (change k (overdue n) v.base) (λ r. refl) (omega arith) s o₁ in
      let x = all_change Free k (overdue n) 0 v.base o refl v.unplaced in
      let y = all_change Free k (readied now) 0 (change k (overdue n) v.base) o₁ (all_at Free k (change k (overdue n) v.base) refl x) x in
      all_change Free (other k) (readied now) 0 once_more o₂ (all_at Free (other k) once_more refl y) y

  less : held (dropped_all 0 base') + 1 ≡ held u
  less = ap (λ (x : Table). held x + 1) (same ∙ failed_left) ∙ failed_fewer now k n s v.left.bounded own_left

  pub failed-later : {b' : List ℕ} → Writes b' (on_table base' st) → Pending b' w d (c + 1) st (failed k n now t).table
  failed-later {b'} g = record {
    base = base';
    entries = es;
    sound = sound';
    writes = g;
    unplaced = unplaced';
    mixed = mixed';
    parental = v.parental;
    living = living';
    left = subst (λ (x : Table). Sound (on_table x st)) (sym same) left';
    count = omega (arith, lapsed_as_many k n now v.base s v.sound.bounded.ordered, v.count, less);
    timely = λ e. absurd (omega (arith, e));
    room = omega (arith, v.room, less);
    together = subst (λ (x : Table). Sound (on_table (pushes es x) st)) (sym same) together';
    table = table';
  }

-- ---- none waits at its hash

pub cleared_all : {b b' w w' : List ℕ} {d d' c h : ℕ} → Settles b b' w w' d c → d' ≡ 0 → Cleared b b' w w' d d' c 0 h
unfolding waits
cleared_all {b' = b'} {w' = w'} {d' = d'} {h = h} x e = record {
  pending = λ st t v. subst (λ (i : ℕ). Pending b' w' i 0 st t) (sym e) (x st t v);
  apart = λ t o es m. none es (m.count ∙ e);
}
  where
    none : (es : List Entry) → length es ≡ 0 → waits h es ≡ false
    none [] z = refl
    none (a ∷ es) z = absurd (omega (arith, z))

-- as many are to go as the table has announcements at most
pub few_gone : {b w : List ℕ} {d c : ℕ} {st : State} {t : Table} → Pending b w d c st t → c ≤ max_announcements
few_gone {st = st} v = omega (arith, v.count, v.sound.bounded.fits, v.sound.most-limit)

module _ (k : Key) (s : k.hash < top) (n : ℕ) {b b' w w' : List ℕ} {d d' c c' : ℕ} where
  -- who owns the request in time does so where the table is the same
  owns_after : {st : State} {t : Table} → Pending b w d c st t → Tells b (OwnsInTime n k) → (v' : Pending b' w' d' c' st t) → OwnsInTime n k v'.base
  owns_after {st} v own v' = let o = own (on_table v.base st) v.sound v.writes in owns_base v' k s n (ap (owner_is n) (owner_same v k s o.1) ∙ o.0)

  pub cleared_owner : Pends b w d c → Tells b (OwnsInTime n k) → Cleared b b' w w' d d' c c' k.hash → Kept b' × Tells b' (λ t. owner_is n (at k t).owner ≡ true)
  cleared_owner p own x =
      let v' = x.pending p.state p.now_table p.pending in
      (pending_kept v', told (λ t. owner_is n (at k t).owner ≡ true) (on_table v'.base p.state) v'.sound v'.writes (owns_after p.pending own v').0)

  pub fails-later : (now : ℕ) → now < word → Tells b (OwnsInTime n k) → Cleared b b' w w' d d' c c' k.hash → {b₂ : List ℕ} → Makes b' b₂ (λ t. Unit {0}) (lapsed k n now)
      → FailsLater b b₂ w w' d d' c (c' + 1) k n now
  fails-later now early own x makes st t v =
      let v' = x.pending st t v in
      failed-later v' k s n now early (x.apart v'.base v'.sound.bounded.ordered v'.entries v'.mixed) (owns_after v own v') (makes (on_table v'.base st) v'.sound v'.writes tt)
