-- A connection leaves a request, and then both kinds of a hash, in bytes.
use Prim.Native.Nat.{ℕ, ◌<◌}
use mathlib.Core.Path.{◌≡◌, refl, sym, ap, subst, ◌∙◌}
use mathlib.Core.Bool.{Bool, true, false, not}
use mathlib.Core.Logic.{inl, inr}
use mathlib.Core.List.{List, [], ◌∷◌, map}
use mathlib.Core.Option.{Option, none, some}
use native.Mathlib.Omega.{arith}
use lib.Dec.{eqb}
use borrow.Author.Tests.{eq-eqb}
use Rattle.ident.specs.Number.{top, Key, other}
use Rattle.machine.specs.Limits.{word}
use Rattle.machine.specs.State.{Candidate, Owner, Request, Table, State, on_table, with_candidates, unowned, ready_at, owner_is, enqueued_in}
use Rattle.machine.specs.Table.{at, change, has, one, under, owner_in, owned_at}
use Rattle.machine.specs.Announce.{without, cut}
use Rattle.machine.specs.Fail.{releasable, left, leaves, failed, unclaim}
use Rattle.machine.specs.Sound.{Sound}
use Rattle.machine.proofs.Tests.{test, never, and_left}
use Rattle.machine.proofs.Table.{at_key, owners-change}
use Rattle.machine.proofs.At.{at_other, other_place}
use Rattle.machine.proofs.Change.{bounded-cut, bounded-change, unowned_at}
use Rattle.machine.proofs.Fail.{shrinks_left, shrinks_unowned}
use Rattle.machine.proofs.Kept.{sound-table}
use Rattle.machine.proofs.First.{without-absent}
use Rattle.store.specs.Image.{image, Writes}
use Rattle.store.specs.Shown.{Kept}
use Rattle.store.proofs.FlatRead.{image_injective}
use Rattle.requests.specs.Changes.{Makes, Tells}
use Rattle.announcing.specs.Answers.{Answered}
use Rattle.failing.specs.Changes.{readied}
use Rattle.failing.proofs.Fusing.{change_fuse, change_same, change_none}

-- what holds of one sound state that bytes write holds of all
pub told : {b : List ℕ} (P : Table → Type 0) (st : State) → Sound st → Writes b st → P st.table → Tells b P
unfolding image
told P st s w p u v x = subst (λ (z : State). P z.table) (image_injective st u s v (sym w.words_are ∙ x.words_are)) p

-- ---- one request

pub without-ready : (n now : ℕ) (cs : List Candidate) → without n (map (ready_at now) cs) ≡ map (ready_at now) (without n cs)
unfolding without
without-ready n now [] = refl
without-ready n now (c ∷ cs) = elim (test (eqb c.connection n)) [ inl e ↦ rw e | inr e ↦ rw (e, without-ready n now cs) ]

readied_none : (v : ℕ) (r : Request) → r.candidates ≡ [] → (readied v r).candidates ≡ []
readied_none v r e = ap (map (ready_at v)) e

-- who is no candidate has none to take out
pub nothing-cut : (st : State) → Sound st → (k : Key) (n : ℕ) → has n (at k st.table).candidates ≡ false → {b : List ℕ} → Writes b st → Writes b (on_table (cut k n st.table) st)
nothing-cut st s k n h {b} w =
    let q = at k st.table in
    let same : with_candidates (without n q.candidates) q ≡ q = ap (λ (cs : List Candidate). with_candidates cs q) (without-absent n q.candidates h) in
    subst (λ (t : Table). Writes b (on_table t st)) (sym (change_none k (λ r. with_candidates (without n r.candidates) r) 0 st.table s.bounded.ordered s.bounded.filled same)) w

module _ (st : State) (s : Sound st) (k : Key) (small : k.hash < top) (n v : ℕ) (free : owner_is n (at k st.table).owner ≡ false) where
  abbrev cut_state : State
  cut_state = on_table (cut k n st.table) st

  pub cut-sound : Sound cut_state
  cut-sound = sound-table s (bounded-cut k n small free s.bounded)

  pub cut_kept : {b : List ℕ} → Writes b cut_state → Kept b
  cut_kept w = record { state = cut_state; sound = cut-sound; writes = w }

  left_is : left n v (at k st.table) ≡ with_candidates (map (ready_at v) (without n (at k st.table).candidates)) (at k st.table)
  unfolding left
  left_is = rw free

  cut_then_ready : change k (readied v) (cut k n st.table) ≡ change k (left n v) st.table
  cut_then_ready =
      change_fuse k (λ r. with_candidates (without n r.candidates) r) (readied v) 0 st.table (λ r. refl) (readied_none v) s.bounded.ordered
      ∙ change_same k (λ r. readied v (with_candidates (without n r.candidates) r)) (left n v) 0 st.table s.bounded.ordered (sym left_is)

  pub left_from : {b b' : List ℕ} → Writes b cut_state → Makes b b' (λ t. Unit {0}) (change k (readied v)) → Writes b' (on_table (change k (left n v) st.table) st)
  left_from {b} {b'} w h = subst (λ (t : Table). Writes b' (on_table t st)) cut_then_ready (h cut_state cut-sound w tt)

-- ---- both kinds

owner_one : (q : ℕ → Bool) (n : ℕ) (o : Option Owner) → ((m : ℕ) → q m ≡ true) → owner_is n o ≡ true → owner_in q o ≡ 1
owner_one q n none a e = never e
owner_one q n (some o) a e = ap one (a o.connection)

none_owns : (n : ℕ) {o : Option Owner} → o ≡ none → owner_is n o ≡ false
none_owns n e = ap (owner_is n) e

module _ (st : State) (s : Sound st) (k : Key) (small : k.hash < top) (n : ℕ) (owns : owner_is n (at k st.table).owner ≡ true) where
  abbrev freed : State
  freed = on_table (change k unowned st.table) st

  pub freed_sound : Sound freed
  freed_sound = sound-table s (bounded-change k unowned small shrinks_unowned s.bounded)

  pub freed_kept : {b : List ℕ} → Writes b freed → Kept b
  freed_kept w = record { state = freed; sound = freed_sound; writes = w }

  -- "no hash is owned under both kinds": now it is not owned at all
  free-hash : owned_at k.hash freed.table < 1
  free-hash =
      let q = at k st.table in
      let u = owner_one (under k.hash q.key) n q.owner (λ m. eq-eqb _ _ (ap (λ (j : Key). j.hash) (at_key k 0 st.table small s.bounded.ordered))) owns in
      omega (arith, owners-change (under k.hash) k unowned st.table s.bounded.ordered, s.bounded.single k.hash)

  pub free_here : owner_is n (at k freed.table).owner ≡ false
  free_here = none_owns n (unowned_at k freed.table small freed_sound.bounded.ordered free-hash)

  pub free_other : owner_is n (at (other k) freed.table).owner ≡ false
  free_other = none_owns n (unowned_at (other k) freed.table small freed_sound.bounded.ordered free-hash)

  module _ (v : ℕ) (w : v < word) where
    abbrev once : State
    once = on_table (change k (left n v) freed.table) st

    pub once_sound : Sound once
    once_sound = sound-table s (bounded-change k (left n v) small (shrinks_left n v w) freed_sound.bounded)

    pub once_kept : {b : List ℕ} → Writes b once → Kept b
    once_kept x = record { state = once; sound = once_sound; writes = x }

    pub once_free : owner_is n (at (other k) once.table).owner ≡ false
    once_free = ap (λ (r : Request). owner_is n r.owner) (at_other (other k) k (left n v) freed.table (shrinks_left n v w).key (other_place k small)) ∙ free_other

    left_freed : (r : Request) → owner_is n r.owner ≡ true → left n v (unowned r) ≡ left n v r
    unfolding left
    left_freed r o = rw o

    left_none : (r : Request) → r.candidates ≡ [] → (left n v r).candidates ≡ []
    unfolding left without
    left_none r z = rw z

    pub once_is : once.table ≡ change k (left n v) st.table
    once_is =
        change_fuse k unowned (left n v) 0 st.table (λ r. refl) left_none s.bounded.ordered
        ∙ change_same k (λ r. left n v (unowned r)) (left n v) 0 st.table s.bounded.ordered (left_freed (at k st.table) owns)

    pub leaves_is : change (other k) (left n v) once.table ≡ leaves k n v st.table
    leaves_is = ap (change (other k) (left n v)) once_is

-- what clearing a request makes of bytes
abbrev pub Clears : List ℕ → List ℕ → Key → ℕ → Type 0
Clears b b' k n = Makes b b' (λ t. owner_is n (at k t).owner ≡ true) (change k unowned)

-- what leaving a request makes of bytes, and what it asks of them
abbrev pub Leaves : List ℕ → List ℕ → Key → ℕ → ℕ → Type 0
Leaves b b' k n v = Makes b b' (λ t. Unit {0}) (change k (left n v))

abbrev pub Free : List ℕ → Key → ℕ → Type 0
Free b k n = Kept b × Tells b (λ t. owner_is n (at k t).owner ≡ false)

-- the three steps from b: cleared in b₁, left under k in b₂, left under the other kind in b₃
module _ {b b₁ : List ℕ} (k : Key) (small : k.hash < top) (n : ℕ) (r : Tells b (λ t. owner_is n (at k t).owner ≡ true)) (c : Clears b b₁ k n) where
  pub first_leave : Kept b → Free b₁ k n
  first_leave kept =
      let st = kept.state in
      let s = kept.sound in
      let e = r st s kept.writes in
      let w = c st s kept.writes e in
      (freed_kept st s k small n e w, told (λ t. owner_is n (at k t).owner ≡ false) _ (freed_sound st s k small n e) w (free_here st s k small n e))

  pub second-leave : {b₂ : List ℕ} {v : ℕ} {j : Key} → Kept b → v < word → j ≡ other k → Leaves b₁ b₂ k n v → Free b₂ j n
  second-leave {b₂} {v} {j} kept small-v q l =
      let st = kept.state in
      let s = kept.sound in
      let e = r st s kept.writes in
      let x = l _ (freed_sound st s k small n e) (c st s kept.writes e) tt in
      rw q (once_kept st s k small n e v small-v x, told (λ t. owner_is n (at (other k) t).owner ≡ false) _ (once_sound st s k small n e v small-v) x (once_free st s k small n e v small-v))

  pub both_left : {b₂ b₃ : List ℕ} {v : ℕ} {j : Key} → v < word → j ≡ other k → Leaves b₁ b₂ k n v → Leaves b₂ b₃ j n v → Makes b b₃ (λ t. Unit {0}) (leaves k n v)
  both_left {b₂} {b₃} {v} {j} small-v q l l₂ st s w u =
      let e = r st s w in
      let x = l _ (freed_sound st s k small n e) (c st s w e) tt in
      let h : Leaves b₂ b₃ (other k) n v = rw q at l₂ in
      subst (λ (t : Table). Writes b₃ (on_table t st)) (leaves_is st s k small n e v small-v) (h _ (once_sound st s k small n e v small-v) x tt)

-- ---- unclaim

pub owner_of_lem : (n : ℕ) (r : Request) → releasable n r ≡ true → owner_is n r.owner ≡ true
owner_of_lem n r e = and_left (owner_is n r.owner) (not (enqueued_in r.«package»)) e

pub unclaim-refused : (st : State) (k : Key) (n : ℕ) → releasable n (at k st.table) ≡ false → {b : List ℕ} → Writes b st → Writes b (on_table (unclaim k n st.table) st)
unfolding unclaim
unclaim-refused st k n e w = rw e w

pub unclaimed : (st : State) → Sound st → (k : Key) (n : ℕ) → releasable n (at k st.table) ≡ true → {b b' : List ℕ} → Writes b st → Clears b b' k n
    → Writes b' (on_table (unclaim k n st.table) st)
unfolding unclaim
unclaimed st s k n e w h = rw e (h st s w (owner_of_lem n (at k st.table) e))

-- ---- failed

pub failed-refused : {b : List ℕ} (k : Key) (n v : ℕ) → Tells b (λ t. releasable n (at k t) ≡ false) → Answered b b false (λ m t. failed k n v t)
unfolding failed
failed-refused {b} k n v r = record {
  reply = λ st s w. rw (r st s w);
  table = λ st s w. rw (r st s w) w;
}

pub failed_done : {b b' : List ℕ} (k : Key) (n v : ℕ) → Tells b (λ t. releasable n (at k t) ≡ true) → Makes b b' (λ t. Unit {0}) (leaves k n v) → Answered b b' true (λ m t. failed k n v t)
unfolding failed
failed_done {b} {b'} k n v r h = record {
  reply = λ st s w. rw (r st s w);
  table = λ st s w. rw (r st s w) (h st s w tt);
}
