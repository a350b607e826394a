-- The end of a plan's scan: what is marked is given back, from the last selection to the first.
use Prim.Native.Nat.{ℕ, zero, suc, ◌+◌, ◌≤◌, ◌<◌}
use mathlib.Core.Path.{◌≡◌, refl, sym, ap, subst, ◌∙◌}
use mathlib.Core.Bool.{true}
use mathlib.Core.List.{List, [], ◌∷◌}
use native.Mathlib.Omega.{arith}
use lib.ListN.{length, get_or, take}
use lib.Seq.{take-suc}
use borrow.Author.Tests.{eq-eqb}
use Rattle.ident.specs.Number.{Key}
use Rattle.regions.specs.declared.Row.{Row}
use Rattle.machine.specs.State.{Entry, Table, State, limits_of, on_table, owned_until, unowned}
use Rattle.machine.specs.Table.{at, change}
use Rattle.machine.specs.Fail.{releasable, unclaim}
use Rattle.machine.specs.Sound.{Bounded, Ordered, Sound}
use Rattle.machine.proofs.Fail.{bounded-unclaim}
use Rattle.machine.proofs.Kept.{sound-table}
use Rattle.machine.proofs.OneKey.{at_changed}
use Rattle.store.specs.Flat.{Flat, flat_of, rows_of}
use Rattle.store.specs.Gather.{key_at, candidate_at}
use Rattle.store.specs.Image.{Shows, Writes}
use Rattle.store.specs.Shown.{rows_in, Kept}
use Rattle.store.proofs.Frame.{sizes}
use Rattle.requests.specs.Changes.{OwnedBare, Makes}
use Rattle.announcing.specs.Evicts.{entry_at}
use Rattle.selecting.specs.Selecting.{marking, mark_all, until, Free, AllFree, Numbered, Marks}
use Rattle.selecting.proofs.Marked.{ordered-marking}
use Rattle.selecting.proofs.Unmarked.{Bare, bare, unmarked}
use Rattle.selecting.proofs.Considered.{mark_snoc}
use Rattle.selecting.proofs.SameRows.{marked-rows, numbered_as}

-- ---- one selection

module _ (d : ℕ) (a : Entry) (t : Table) (o : Ordered 0 t) (f : Free t a) where
  abbrev k : Key
  k = a.key

  abbrev n : ℕ
  n = a.candidate.connection

  here : at k (marking d a t) ≡ owned_until n d (at k t)
  here = at_changed k (owned_until n d) t (λ r. refl) o f.some_candidate

  was : Bare (at k t)
  was = bare (at k t) f.lawful f.unowned

  owned-bare : OwnedBare n (at k (marking d a t))
  owned-bare = subst (OwnedBare n) (sym here) (record { owns = eq-eqb n n refl; info = was.info; bare = was.packless })

  back : change k unowned (marking d a t) ≡ t
  back = unmarked d a t o f f.lawful

  may : releasable n (at k (marking d a t)) ≡ true
  may = ap (releasable n) here ∙ rw (eq-eqb n n refl, was.packless) refl

  unclaimed : unclaim k n (marking d a t) ≡ t
  unfolding unclaim
  unclaimed = rw may back

  sound_back : (st : State) → Sound (on_table (marking d a t) st) → Sound (on_table t st)
  sound_back st s = sound-table s (subst (Bounded (limits_of st) st.places) unclaimed (bounded-unclaim k n f.small s.bounded))

-- ---- the first j of them

free_at : (d : ℕ) (l : List Entry) (j : ℕ) (t : Table) (e : Entry) → AllFree d l t → j < length l → Free (mark_all d (take j l) t) (get_or l j e)
unfolding mark_all
free_at d [] j t e f h = absurd (omega arith)
free_at d (a ∷ l) zero t e f h = f.0
free_at d (a ∷ l) (suc j) t e f h = free_at d l j (marking d a t) e f.1 (omega arith)

free-take : (d : ℕ) (l : List Entry) (j : ℕ) (t : Table) → AllFree d l t → AllFree d (take j l) t
free-take d [] zero t f = tt
free-take d [] (suc j) t f = tt
free-take d (a ∷ l) zero t f = tt
free-take d (a ∷ l) (suc j) t f = (f.0, free-take d l j (marking d a t) f.1)

ordered_all : (d : ℕ) (l : List Entry) (t : Table) → Ordered 0 t → AllFree d l t → Ordered 0 (mark_all d l t)
unfolding mark_all
ordered_all d [] t o f = o
ordered_all d (a ∷ l) t o f = ordered_all d l (marking d a t) (ordered-marking d a t o f.0) f.1

-- ---- the bytes on the way

-- b write the state with the first j of l marked
pub record Back (now : ℕ) (st : State) (l : List Entry) (b : List ℕ) (j : ℕ) : Type 0 where
  pub sound : Sound (on_table (mark_all (until now) (take j l) st.table) st)
  pub writes : Writes b (on_table (mark_all (until now) (take j l) st.table) st)

pub back_done : {now : ℕ} {st : State} {l : List Entry} {b : List ℕ} → Back now st l b 0 → Writes b st
unfolding mark_all
back_done g = g.writes

pub some_entry : (l : List Entry) → 1 ≤ length l → Entry
some_entry [] h = absurd (omega arith)
some_entry (a ∷ l) h = a

module _ {now n i : ℕ} {st : State} {l : List Entry} {b₀ b p : List ℕ} (s : Sound st) (m : Marks now st l b₀ p n) (j : ℕ) (next : i ≡ j + 1) (h : j < n) (g : Back now st l b i) where
  pub back_kept : Kept b
  back_kept = record { state = on_table (mark_all (until now) (take i l) st.table) st; sound = g.sound; writes = g.writes }

  named : (e : Entry) → Numbered (rows_of (mark_all (until now) (take i l) st.table)) (get_or p j 0) (get_or l j e)
  named e = numbered_as (sym (marked-rows (until now) (take i l) st.table s.bounded.ordered (free-take (until now) l i st.table m.free))) (m.numbers j e h)

  pub back_inside : get_or p j 0 < rows_in b
  back_inside = omega (arith, (named (some_entry l (omega (arith, m.count)))).inside, (sizes g.writes).rows)

  module _ (r : Row) (q : (f : Flat) (d : Row) → Shows b f → r ≡ get_or f.rows (get_or p j 0) d) where
    abbrev a : Entry
    a = get_or l j (entry_at r)

    abbrev t : Table
    t = mark_all (until now) (take j l) st.table

    is : entry_at r ≡ a
    is = ap entry_at (q (flat_of (on_table (mark_all (until now) (take i l) st.table) st)) r g.writes) ∙ (named (entry_at r)).entry_is r

    free : Free t a
    free = free_at (until now) l j st.table (entry_at r) m.free (omega (arith, m.count))

    order : Ordered 0 t
    order = ordered_all (until now) (take j l) st.table s.bounded.ordered (free-take (until now) l j st.table m.free)

    top_is : mark_all (until now) (take i l) st.table ≡ marking (until now) a t
    top_is =
        let e : i ≡ suc j = omega (arith, next) in
        ap (λ (x : ℕ). mark_all (until now) (take x l) st.table) e
        ∙ ap (λ (x : List Entry). mark_all (until now) x st.table) (take-suc l j (entry_at r) (omega (arith, m.count)))
        ∙ mark_snoc (until now) (take j l) a st.table

    pub back_more : {b' : List ℕ} {key : Key} {w : ℕ} → key ≡ key_at r → w ≡ (candidate_at r).connection → Makes b b' (λ t. OwnedBare w (at key t)) (change key unowned) → Back now st l b' j
    back_more {b'} {key} {w} e f makes =
        let x : key ≡ a.key = e ∙ ap (λ (z : Entry). z.key) is in
        let y : w ≡ a.candidate.connection = f ∙ ap (λ (z : Entry). z.candidate.connection) is in
        let bare-one = subst (λ (u : Table). OwnedBare a.candidate.connection (at a.key u)) (sym top_is) (owned-bare (until now) a t order free) in
        let wrote = (rw (x, y) at makes) (on_table (mark_all (until now) (take i l) st.table) st) g.sound g.writes bare-one in
        record {
          sound = sound_back (until now) a t order free st (subst (λ (u : Table). Sound (on_table u st)) top_is g.sound);
          writes = subst (λ (u : Table). Writes b' (on_table u st)) (ap (change a.key unowned) top_is ∙ back (until now) a t order free) wrote;
        }
