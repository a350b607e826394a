-- Items that are not found, where requests wait to go: once they have gone, what the machine has.
use Prim.Native.Nat.{ℕ, ◌+◌, ◌*◌, ◌≤◌, ◌<◌}
use mathlib.Core.Path.{◌≡◌, refl, sym, ap, subst, ◌∙◌}
use mathlib.Core.Logic.{inl, inr}
use mathlib.Core.Bool.{Bool, true, false, not}
use mathlib.Core.List.{List, [], ◌∷◌, ◌++◌}
use mathlib.Core.Option.{Option, none, some}
use native.Mathlib.Omega.{arith}
use lib.Dec.{ltb}
use lib.ListN.{length}
use borrow.Author.Tests.{le-leb, ltb-false, not-true}
use Rattle.std.specs.Prelude.{if◌then◌else◌}
use Rattle.ident.specs.Number.{Key, Item, top, key_of}
use Rattle.machine.specs.Limits.{Limits, word, msg_anc_pkg_info}
use Rattle.machine.specs.State.{Owner, State, Table, limits_of, on_table, owner_is}
use Rattle.machine.specs.Table.{at}
use Rattle.machine.specs.Call.{key_bytes}
use Rattle.machine.specs.Fail.{Listed, nothing, releasable, failed}
use Rattle.machine.specs.Leave.{alive}
use Rattle.machine.specs.Step.{key_answer, keys_answer, written}
use Rattle.machine.specs.Wrapper.{fail_keyed, is_type, not_found_one, not_found_each}
use Rattle.machine.specs.Sound.{Bounded, CursorFits, Sound}
use Rattle.machine.specs.Typed.{Each}
use Rattle.machine.proofs.Announce.{item-fits}
use Rattle.machine.proofs.Fail.{bounded-failed}
use Rattle.machine.proofs.Kept.{sound-table}
use Rattle.machine.proofs.Tests.{test, never, and_left, and_right}
use Rattle.words.specs.Words.{splice}
use Rattle.store.specs.Image.{Writes}
use Rattle.store.specs.Shown.{Kept}
use Rattle.requests.specs.Changes.{Makes, Tells}
use Rattle.announcing.specs.Answers.{KeysListed}
use Rattle.failing.proofs.Leaving.{owner_of_lem}
use Rattle.postponing.specs.Silent.{late, dropped_all, Unburdened}
use Rattle.postponing.specs.Lapses.{Timely, lapses, lapsed}
use Rattle.wrapping.specs.Lapses.{lapse_one, in_turn, lapse_each, all_keyed}
use Rattle.lent_lists.proofs.Answer.{written_more, written_none}
use Rattle.wrapping.proofs.Unfound.{listed_as, nothing-listed}
use Rattle.wrapping.proofs.Turning.{Steady, bounded_turns}
use Rattle.postponing.proofs.Dropped.{dropped_timely, at_stays, at_goes}
use Rattle.postponing.proofs.LapsedOwner.{owner_waits, bounded_lapsed, unburdened_lapsed, lapsed_goes, lapsed_reply}

-- ---- one request

module _ {m : Limits} {Q : ℕ} {t : Table} (b : Bounded m Q t) (n : ℕ) (k : Key) where
  owner-lapses : lapses n (at k t) ≡ true → owner_is n (at k t).owner ≡ true
  owner-lapses e = owner_of_lem n (at k t) (and_left (releasable n (at k t)) (alive 0 (at k t).owner) e)

  -- what n does not fail here it does not fail where owners have gone
  stays_refused : lapses n (at k t) ≡ false → releasable n (at k (dropped_all 0 t)) ≡ false
  stays_refused h = elim (test (late 0 (at k t).owner)) [
    | inl e ↦ rw (at_goes 0 k 0 t b.ordered e) refl
    | inr e ↦ ap (releasable n) (at_stays 0 k t b.filled e) ∙ elim (test (releasable n (at k t))) [
      | inl f ↦ never (sym (rw (f, owner_waits n (at k t).owner (owner_of_lem n (at k t) f) e) at h))
      | inr f ↦ f
    ]
  ]

-- ---- one item on the bytes

module _ {b u : List ℕ} (n now : ℕ) (o : Option Key) where
  pub keyless_listed : none ≡ o → KeysListed b b u u 0 (λ m t. lapse_one n now o t)
  keyless_listed e = subst (λ (x : Option Key). KeysListed b b u u 0 (λ m t. lapse_one n now x t)) e (nothing-listed b u)

  module _ (k : Key) (e : some k ≡ o) where
    pub refused_listed : Tells b (λ t. lapses n (at k t) ≡ false) → KeysListed b b u u 0 (λ m t. lapse_one n now o t)
    refused_listed h =
        subst (λ (x : Option Key). KeysListed b b u u 0 (λ m t. lapse_one n now x t)) e
        (listed_as (λ m t. nothing t) (λ m t. lapse_one n now (some k) t) (λ st s w. rw (h st s w) refl) (nothing-listed b u))

    pub lapsed_listed : {b₁ u₁ : List ℕ} → Tells b (λ t. lapses n (at k t) ≡ true) → Makes b b₁ (λ t. Unit {0}) (lapsed k n now) → key_bytes ≤ length u
        → u₁ ≡ splice u (key_bytes * 0) (key_answer k) → KeysListed b b₁ u u₁ 1 (λ m t. lapse_one n now o t)
    lapsed_listed {b₁} {u₁} h makes room put =
        let l : KeysListed b b₁ u u₁ 1 (λ m t. record { keys = k ∷ []; table = lapsed k n now t }) = record {
          count = λ st s w. refl;
          keys = λ st s w. put ∙ ap (λ (z : List ℕ). splice z (key_bytes * 0) (key_answer k)) (written_none u) ∙ written_more [] k u (omega arith);
          table = λ st s w. makes st s w tt;
        } in
        subst (λ (x : Option Key). KeysListed b b₁ u u₁ 1 (λ m t. lapse_one n now x t)) e (listed_as _ (λ m t. lapse_one n now (some k) t) (λ st s w. rw (h st s w) refl) l)

-- ---- items

-- owners with the deadline 0 wait to go
pub record Waits (m : Limits) (Q : ℕ) (t : Table) : Type 0 where
  pub bounded : Bounded m Q t
  pub after : Bounded m Q (dropped_all 0 t)
  pub unburdened : Unburdened 0 t

-- a lists the keys that b lists, and once those that wait have gone its table is b's
pub record Comes (m : Limits) (Q : ℕ) (a b : Listed) : Type 0 where
  pub keys : a.keys ≡ b.keys
  pub left : dropped_all 0 a.table ≡ b.table
  pub waits : Waits m Q a.table

module _ (n now : ℕ) (w : now < word) where
  bounded_key : {m : Limits} {Q : ℕ} {t : Table} (o : Option Key) → CursorFits o → Bounded m Q t → Bounded m Q (lapse_one n now o t).table
  bounded_key none f b = b
  bounded_key {t = t} (some k) f b = elim (test (lapses n (at k t))) [
    | inl e ↦ rw e (bounded_lapsed b k f n (owner-lapses b n k e) now w)
    | inr e ↦ rw e b
  ]

  pub lapsing_steady : Steady (λ m i t. lapse_one n now (key_of i) t) (λ t. 0) (λ i. i.hash < top)
  lapsing_steady = record {
    bounded = λ m Q t i h b. bounded_key (key_of i) (item-fits i h) b;
    few = λ m Q t i h b. one_most (key_of i) t;
  }
    where
      one_most : (o : Option Key) (t : Table) → length (lapse_one n now o t).keys + 0 ≤ 1
      one_most none t = omega arith
      one_most (some k) t = elim (test (lapses n (at k t))) [ inl e ↦ rw e (omega arith) | inr e ↦ rw e (omega arith) ]

  comes_key : {m : Limits} {Q : ℕ} {t : Table} (o : Option Key) → CursorFits o → Waits m Q t → Comes m Q (lapse_one n now o t) (fail_keyed o n now (dropped_all 0 t))
  unfolding failed
  comes_key none f v = record { keys = refl; left = refl; waits = v }
  comes_key {m} {Q} {t} (some k) f v =
      let u = dropped_all 0 t in
      elim (test (lapses n (at k t))) [
        | inl e ↦
            let own = owner-lapses v.bounded n k e in
            let same = lapsed_goes v.bounded k f n own now w v.after e in
            let yes : (failed k n now u).reply ≡ true = lapsed_reply v.bounded k f n own now e in
            rw e (record {
              keys = ap (λ (r : Bool). if r then k ∷ [] else []) (sym yes);
              left = same;
              waits = record {
                bounded = bounded_lapsed v.bounded k f n own now w;
                after = subst (Bounded m Q) (sym same) (bounded-failed k n now f w v.after);
                unburdened = unburdened_lapsed v.bounded k f n own now w v.unburdened;
              };
            })
        | inr e ↦ rw (e, stays_refused v.bounded n k e) (record { keys = refl; left = refl; waits = v })
      ]

  one_keyed : (m : Limits) (i : Item) (t : Table) → not (is_type msg_anc_pkg_info i.kind) ≡ true → fail_keyed (key_of i) n now t ≡ not_found_one m n now i t
  unfolding not_found_one
  one_keyed m i t e = rw (not-true (is_type msg_anc_pkg_info i.kind) e) refl

  pub comes_each : {m : Limits} {Q : ℕ} {t : Table} (l : List Item) → Each (λ (i : Item). i.hash < top) l → all_keyed l ≡ true
      → Waits m Q t → Comes m Q (lapse_each n now l t) (not_found_each m n now l (dropped_all 0 t))
  unfolding in_turn not_found_each all_keyed
  comes_each [] h e v = record { keys = refl; left = refl; waits = v }
  comes_each {m} {Q} {t} (i ∷ l) h e v =
      let plain = not (is_type msg_anc_pkg_info i.kind) in
      let a = lapse_one n now (key_of i) t in
      let b = not_found_one m n now i (dropped_all 0 t) in
      let s : Comes m Q a b = subst (Comes m Q a) (one_keyed m i (dropped_all 0 t) (and_left plain (all_keyed l) e)) (comes_key (key_of i) (item-fits i h.0) v) in
      let r = comes_each {t = a.table} l h.1 (and_right plain (all_keyed l) e) s.waits in
      record {
        keys = ap (λ (ks : List Key). ks ++ (lapse_each n now l a.table).keys) s.keys ∙ ap (λ (ks : List Key). b.keys ++ ks) (r.keys ∙ ap (λ (u : Table). (not_found_each m n now l u).keys) s.left);
        left = r.left ∙ ap (λ (u : Table). (not_found_each m n now l u).table) s.left;
        waits = r.waits;
      }

pub lapsing_room : (s₀ : List ℕ) (l : List Item) (u₀ : List ℕ) → key_bytes * length l ≤ length u₀ → Tells s₀ (λ t. key_bytes * (length l + 0) ≤ length u₀)
lapsing_room s₀ l u₀ h st g w = omega arith

pub lapsed_kept : {b b₁ u u' : List ℕ} {c : ℕ} (n now : ℕ) (l : List Item) → now < word → Each (λ (i : Item). i.hash < top) l → Kept b → KeysListed b b₁ u u' c (λ m t. lapse_each n now l t) → Kept b₁
lapsed_kept n now l w h k v =
    let st = k.state in
    record {
      state = on_table (lapse_each n now l st.table).table st;
      sound = sound-table k.sound (bounded_turns (lapsing_steady n now w) (limits_of st) st.places l st.table h k.sound.bounded);
      writes = v.table st k.sound k.writes;
    }

-- ---- nobody waits at the start, and all go at the end

timely_bare : (t : Table) → Timely t → Unburdened 0 t
timely_bare [] a = tt
timely_bare (r ∷ t) a = (λ e. never (sym a.0 ∙ e), timely_bare t a.1)

pub all_went : {b b₁ b₂ u u' : List ℕ} {c : ℕ} (n now : ℕ) (l : List Item) → now < word → Each (λ (i : Item). i.hash < top) l → all_keyed l ≡ true → Tells b Timely
    → KeysListed b b₁ u u' c (λ m t. lapse_each n now l t) → Makes b₁ b₂ (Unburdened 0) (dropped_all 0) → KeysListed b b₂ u u' c (λ m t. not_found_each m n now l t)
all_went {b} {b₁} {b₂} {u} {u'} {c} n now l late h plain timely v makes = record {
  count = λ st g w. v.count st g w ∙ ap length (comes st g w).keys;
  keys = λ st g w. v.keys st g w ∙ ap (λ (ks : List Key). written (keys_answer ks) u) (comes st g w).keys;
  table = λ st g w.
      let s = comes st g w in
      subst (λ (t : Table). Writes b₂ (on_table t st)) s.left (makes _ (sound-table g s.waits.bounded) (v.table st g w) s.waits.unburdened);
}
  where
    comes : (st : State) → Sound st → Writes b st → Comes (limits_of st) st.places (lapse_each n now l st.table) (not_found_each (limits_of st) n now l st.table)
    comes st g w =
        let t = st.table in
        let a = timely st g w in
        let same = dropped_timely 0 t g.bounded.filled a in
        subst (λ (u : Table). Comes (limits_of st) st.places (lapse_each n now l t) (not_found_each (limits_of st) n now l u)) same
        (comes_each n now late l h plain (record { bounded = g.bounded; after = subst (Bounded (limits_of st) st.places) (sym same) g.bounded; unburdened = timely_bare t a }))
