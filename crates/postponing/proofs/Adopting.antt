-- A parent whose connection has announced its hash, at which nobody waits and no owner is to go: what it brings is adopted in place.
use Prim.Native.Nat.{ℕ, ◌+◌, ◌≤◌, ◌<◌}
use mathlib.Core.Path.{◌≡◌, refl, sym, ap, subst, ◌∙◌}
use mathlib.Core.Logic.{inl, inr}
use mathlib.Core.Bool.{Bool, true, false, ◌||◌}
use mathlib.Core.List.{List, [], ◌∷◌}
use native.Mathlib.Omega.{arith}
use lib.Dec.{eqb}
use lib.ListN.{length}
use Rattle.ident.specs.declared.Kind.{Kind}
use Rattle.ident.specs.declared.Kind.TheVariants.{Txid, Wtxid}
use Rattle.ident.specs.Number.{top, Key, place, txid, wtxid}
use Rattle.machine.specs.Limits.{Limits, word}
use Rattle.machine.specs.State.{Candidate, Entry, Request, Table, State, Answer, limits_of, on_table, done, blank, with_candidates, marked}
use Rattle.machine.specs.Table.{at, change, has, any, count_in, held, is_candidate}
use Rattle.machine.specs.Announce.{adopt, adopted, request_parent_at}
use Rattle.machine.specs.Fail.{parent_of, mark}
use Rattle.machine.specs.Sound.{Ordered, All, Filled, Sound}
use Rattle.machine.proofs.At.{kept, at_same, at_other, other_place}
use Rattle.machine.proofs.Fail.{Peer}
use Rattle.machine.proofs.Kept.{sound-table}
use Rattle.machine.proofs.Table.{all_at, all_change, ordered-change, filled-change}
use Rattle.machine.proofs.Tests.{test}
use Rattle.store.specs.Image.{Writes}
use Rattle.package_stages.specs.Changes.{has_place}
use Rattle.requests.proofs.Holding.{either-kind}
use Rattle.announcing.specs.Answers.{one_parent}
use Rattle.gathering.specs.Waits.{pushes}
use Rattle.gathering.proofs.Elsewhere.{at_pushes, change-pushes, mixed_still}
use Rattle.parenting.specs.Waiting.{marks, keys_of}
use Rattle.parenting.proofs.Waiting.{bounded_one}
use Rattle.postponing.specs.Silent.{late, dropped_in, dropped_all}
use Rattle.postponing.specs.Pending.{Living, Pending, Open, AmongAt}
use Rattle.postponing.proofs.Dropped.{dropped_change}
use Rattle.postponing.proofs.DroppedCounts.{count_exact, txid_stays, wtxid_stays}
use Rattle.postponing.proofs.FailingLater.{living_still, change-waiting}
use Rattle.postponing.proofs.Opening.{txid_same, wtxid_same}

-- ---- one request

module _ (same : Bool) (c : Candidate) where
  abbrev adopts : Request → Request
  adopts r = with_candidates (adopt same c r.candidates) r

  adopt_as_many : (cs : List Candidate) → count_in (λ m. true) (adopt same c cs) ≡ count_in (λ m. true) cs
  unfolding adopt count_in
  adopt_as_many [] = refl
  adopt_as_many (d ∷ cs) = elim (test (eqb d.connection c.connection)) [ inl e ↦ rw e refl | inr e ↦ rw e (ap suc' (adopt_as_many cs)) ]
    where
      suc' : ℕ → ℕ
      suc' n = 1 + n

  adopt_some : (cs : List Candidate) → 1 ≤ length cs → 1 ≤ length (adopt same c cs)
  unfolding adopt
  adopt_some [] h = h
  adopt_some (d ∷ cs) h = elim (test (eqb d.connection c.connection)) [ inl e ↦ rw e (omega arith) | inr e ↦ rw e (omega arith) ]

  adopt_none : (cs : List Candidate) → cs ≡ [] → adopt same c cs ≡ []
  unfolding adopt
  adopt_none [] e = refl
  adopt_none (d ∷ cs) e = absurd (omega (arith, ap length e))

  adopts_stays : (r : Request) → late 0 r.owner ≡ false → dropped_in 0 (adopts r) ≡ adopts (dropped_in 0 r)
  adopts_stays r e = rw e refl

marked_stays : (r : Request) → late 0 r.owner ≡ false → dropped_in 0 (marked r) ≡ marked (dropped_in 0 r)
marked_stays r e = rw e refl

kept_living : (k : Key) (r : Request) (cs : List Candidate) → late 0 r.owner ≡ false → late 0 (kept k r cs).owner ≡ false
kept_living k r [] e = refl
kept_living k r (c ∷ cs) e = e

-- ---- the parent is kept where its connection is

module _ (m : Limits) (n now h i : ℕ) (t : Table) where
  kept_txid : has n (at (txid h) t).candidates ≡ true → one_parent m n now h i t ≡ done (mark (txid h) (adopted true (txid h) (parent_of n now h i) t))
  unfolding request_parent_at
  kept_txid e = rw e refl

  kept_wtxid : has n (at (txid h) t).candidates ≡ false → has n (at (wtxid h) t).candidates ≡ true
      → one_parent m n now h i t ≡ done (mark (txid h) (adopted false (wtxid h) (parent_of n now h i) t))
  unfolding request_parent_at
  kept_wtxid e f = rw (e, f) refl

-- ---- the table meanwhile

module _ {b w : List ℕ} {d c : ℕ} {st : State} {t : Table} (v : Pending b w d c st t) (n now h i : ℕ) (p : Peer n) (early : now < word) (short : i < word) (s : h < top)
    (x : Open h v) where
  abbrev es : List Entry
  es = v.entries

  abbrev u : Table
  u = dropped_all 0 v.base

  abbrev m : Limits
  m = limits_of st

  -- adopted under one of the two keys
  module _ (y : Kind) (same : Bool) where
    abbrev j : Key
    j = record { kind = y; hash = h }

    abbrev g : Request → Request
    g = adopts same (parent_of n now h i)

    abbrev F : Table → Table
    F q = mark (txid h) (change j g q)

    ordered' : (q : Table) → Ordered 0 q → Ordered 0 (change j g q)
    ordered' q o = ordered-change j g 0 q (λ r. refl) (omega arith) s o

    -- ---- before those that failed have gone, or behind them

    living_at : (z : Kind) → Living v.base h → late 0 (at (record { kind = z; hash = h }) v.base).owner ≡ false
    living_at Txid l = l.0
    living_at Wtxid l = l.1

    marked_living : (z : Kind) → z ≡ y → late 0 (at (txid h) (change j g v.base)).owner ≡ false
    marked_living Txid e =
        let q : j ≡ txid h = (λ k. record { kind = sym e k; hash = h }) in
        ap (λ (k : Key). late 0 (at k (change j g v.base)).owner) (sym q) ∙ ap (λ (r : Request). late 0 r.owner) (at_same j g 0 v.base (λ r. refl) v.sound.bounded.ordered)
        ∙ kept_living j (g (at j v.base)) (g (at j v.base)).candidates (living_at y x.living)
    marked_living Wtxid e =
        let q : j ≡ wtxid h = (λ k. record { kind = sym e k; hash = h }) in
        ap (λ (r : Request). late 0 r.owner) (at_other (txid h) j g v.base (λ r. refl) (λ z. other_place (wtxid h) s (z ∙ ap place q))) ∙ x.living.0

    dropped_F : dropped_all 0 (F v.base) ≡ F u
    dropped_F =
        let o = v.sound.bounded.ordered in
        let l = v.sound.bounded.filled in
        dropped_change 0 (txid h) marked marked (λ r k. k) (λ r k. k) (λ r k. k) 0 (change j g v.base) (ordered' v.base o) (filled-change j g v.base l)
        (marked_stays (at (txid h) (change j g v.base)) (marked_living y refl))
        ∙ ap (mark (txid h)) (dropped_change 0 j g g (λ r k. adopt_some same (parent_of n now h i) r.candidates k) (λ r k. adopt_none same (parent_of n now h i) r.candidates k)
        (λ r k. adopt_none same (parent_of n now h i) r.candidates k) 0 v.base o l (adopts_stays same (parent_of n now h i) (at j v.base) (living_at y x.living)))

    -- ---- before those that wait come in, or behind them

    pushed_F : F (pushes es u) ≡ pushes es (F u)
    pushed_F =
        let o = v.left.bounded.ordered in
        let l = v.left.bounded.filled in
        ap (mark (txid h)) (change-pushes j g (λ r. refl) s es u v.mixed.ready x.apart o l)
        ∙ change-pushes (txid h) marked (λ r. refl) s es (change j g u) v.mixed.ready x.apart (ordered' u o) (filled-change j g u l)

    marked_F : F t ≡ marks (keys_of es) (pushes es (F u))
    marked_F =
        let o = v.left.bounded.ordered in
        let l = v.left.bounded.filled in
        let a = v.together.bounded in
        let z = change-pushes j g (λ r. refl) s es u v.mixed.ready x.apart o l in
        ap F v.table
        ∙ ap (mark (txid h)) (change-waiting j g (λ r. refl) s es u v.mixed.ready x.apart a.ordered a.filled o l)
        ∙ change-waiting (txid h) marked (λ r. refl) s es (change j g u) v.mixed.ready x.apart (subst (Ordered 0) z (ordered' (pushes es u) a.ordered))
        (subst (All Filled) z (filled-change j g (pushes es u) a.filled)) (ordered' u o) (filled-change j g u l)

    as_many : (q : Table) → Ordered 0 q → held (F q) ≡ held q
    as_many q o =
        omega (arith, count_exact any j g 0 q o, count_exact any (txid h) marked 0 (change j g q) (ordered' q o), adopt_as_many same (parent_of n now h i) (at j q).candidates)

    all_F : (P : Request → Type 0) → ((r : Request) → P r → P (g r)) → ((r : Request) → P r → P (marked r)) → ((k : Key) → P (blank k)) → All P v.base → All P (F v.base)
    all_F P a e z l =
        let l' = all_change P j g 0 v.base v.sound.bounded.ordered (a (at j v.base) (all_at P j v.base (z j) l)) l in
        all_change P (txid h) marked 0 (change j g v.base) (ordered' v.base v.sound.bounded.ordered)
        (e (at (txid h) (change j g v.base)) (all_at P (txid h) (change j g v.base) (z (txid h)) l')) l'

    module _ (asked : (q : Table) → at (txid h) q ≡ at (txid h) v.base → at (wtxid h) q ≡ at (wtxid h) v.base → one_parent m n now h i q ≡ done (F q)) where
      sound_F : (q : Table) → at (txid h) q ≡ at (txid h) v.base → at (wtxid h) q ≡ at (wtxid h) v.base → Sound (on_table q st) → Sound (on_table (F q) st)
      sound_F q e f k =
          subst (λ (z : Table). Sound (on_table z st)) (ap (λ (a : Answer). a.table) (asked q e f)) (sound-table k (bounded_one n now h i p early short s k.bounded))

      left_txid : at (txid h) u ≡ at (txid h) v.base
      left_txid = txid_stays v.base v.sound.bounded.ordered v.sound.bounded.filled h s x.living

      left_wtxid : at (wtxid h) u ≡ at (wtxid h) v.base
      left_wtxid = wtxid_stays v.base v.sound.bounded.ordered v.sound.bounded.filled h s x.living

      adopted_pending : {b' : List ℕ} → Writes b' (on_table (F v.base) st) → Pending b' w d c st (F t)
      adopted_pending {b'} k =
          let less = as_many u v.left.bounded.ordered in
          record {
            base = F v.base;
            entries = es;
            sound = sound_F v.base refl refl v.sound;
            writes = k;
            unplaced = all_F (λ (r : Request). has_place r ≡ false) (λ r e. e) (λ r e. e) (λ k. refl) v.unplaced;
            mixed = mixed_still (txid h) marked (λ r. refl) s (mixed_still j g (λ r. refl) s v.mixed x.apart) x.apart;
            parental = v.parental;
            living = living_still (txid h) marked (λ r. refl) s es (change j g v.base) v.mixed.ready x.apart (living_still j g (λ r. refl) s es v.base v.mixed.ready x.apart v.living);
            left = subst (λ (z : Table). Sound (on_table z st)) (sym dropped_F) (sound_F u left_txid left_wtxid v.left);
            count = as_many v.base v.sound.bounded.ordered ∙ v.count ∙ ap (λ (z : ℕ). z + c) (sym (ap held dropped_F ∙ less));
            timely = λ e. all_F (λ (r : Request). late 0 r.owner ≡ false) (λ r e. e) (λ r e. e) (λ k. refl) (v.timely e);
            room = subst (λ (z : ℕ). z + d ≤ st.limit) (sym (ap held dropped_F ∙ less)) v.room;
            together = subst (λ (z : Table). Sound (on_table z st)) (pushed_F ∙ ap (pushes es) (sym dropped_F))
                (sound_F (pushes es u) (at_pushes (txid h) s es u v.mixed.ready x.apart ∙ left_txid) (at_pushes (wtxid h) s es u v.mixed.ready x.apart ∙ left_wtxid) v.together);
            table = marked_F ∙ ap (λ (z : Table). marks (keys_of es) (pushes es z)) (sym dropped_F);
          }

      adopts_at : {b' : List ℕ} → Writes b' (on_table (one_parent m n now h i v.base).table st) → AmongAt n now h i b' w d c st t true
      adopts_at {b'} k =
          let e = asked t (txid_same v h s x) (wtxid_same v h s x) in
          record {
            reply = ap (λ (a : Answer). a.reply) e;
            pending = subst (λ (z : Table). Pending b' w d c st z) (sym (ap (λ (a : Answer). a.table) e))
                (adopted_pending (subst (λ (a : Answer). Writes b' (on_table a.table st)) (asked v.base refl refl) k));
          }

  -- announced on the store itself
  pub adopts_in : is_candidate n h v.base ≡ true → {b' : List ℕ} → Writes b' (on_table (one_parent m n now h i v.base).table st) → AmongAt n now h i b' w d c st t true
  adopts_in known {b'} k = elim (test (has n (at (txid h) v.base).candidates)) [
    | inl e ↦ adopts_at Txid true (λ q l r. kept_txid m n now h i q (ap (λ (z : Request). has n z.candidates) l ∙ e)) k
    | inr e ↦
        let f : has n (at (wtxid h) v.base).candidates ≡ true = sym (ap (λ (z : Bool). z || has n (at (wtxid h) v.base).candidates) e) ∙ either-kind n h s v.base v.sound.bounded.ordered ∙ known in
        adopts_at Wtxid false (λ q l r. kept_wtxid m n now h i q (ap (λ (z : Request). has n z.candidates) l ∙ e) (ap (λ (z : Request). has n z.candidates) r ∙ f)) k
  ]
