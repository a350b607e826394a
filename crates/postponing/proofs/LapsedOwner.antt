-- The owner of a request fails and waits to go: once it has gone, the machine's failed.
use Prim.Native.Nat.{ℕ, ◌≤◌, ◌<◌}
use mathlib.Core.Path.{◌≡◌, refl, sym, ap, ◌∙◌}
use mathlib.Core.Logic.{inl, inr}
use mathlib.Core.Bool.{Bool, true, false}
use mathlib.Core.List.{List, [], ◌∷◌, map}
use mathlib.Core.Option.{Option, none, some}
use native.Mathlib.Omega.{arith}
use lib.Dec.{ltb, leb}
use lib.ListN.{length}
use borrow.Author.Tests.{eqb-true, le-leb, leb-true, ltb-true, ltb-false}
use Rattle.ident.specs.Number.{Key, top, other}
use Rattle.machine.specs.Limits.{Limits, word}
use Rattle.machine.specs.State.{Candidate, Owner, Request, Table, with_candidates, unowned, owned_until, ready_at, owner_is}
use Rattle.machine.specs.Table.{at, change, one, owner_in, has}
use Rattle.machine.specs.Fail.{releasable, failed}
use Rattle.machine.specs.Leave.{alive}
use Rattle.machine.specs.Sound.{Ordered, All, Filled, Bounded}
use Rattle.machine.proofs.Alone.{has_some}
use Rattle.machine.proofs.At.{at_same, kept_some}
use Rattle.machine.proofs.Change.{ShrinksAt, bounded_at, bounded-change}
use Rattle.machine.proofs.Fail.{parents_none}
use Rattle.machine.proofs.Table.{ordered-change, filled-change, lawful_at, all_at, all_change}
use Rattle.machine.proofs.Tests.{test, never, and_left, and_right}
use Rattle.failing.proofs.Fusing.{change_fuse}
use Rattle.failing.proofs.Leaving.{without-ready}
use Rattle.store.specs.Flat.{places_for}
use Rattle.failing.specs.Changes.{readied}
use Rattle.failing.proofs.Readied.{shrinks_ready}
use Rattle.package_stages.specs.Changes.{owner_num}
use Rattle.postponing.specs.Silent.{readied_both, late, gone, dropped_in, dropped_all, Unburdened}
use Rattle.postponing.proofs.Dropping.{gone_none, both_swap, owner-has, failed_is}
use Rattle.postponing.proofs.DroppedTables.{ready_none}
use Rattle.postponing.specs.Lapses.{lapses, overdue, lapsed}
use Rattle.postponing.proofs.Dropped.{dropped_change, at_stays}

-- ---- candidates made ready, before owners go or behind them

some_ready : (now : ℕ) (cs : List Candidate) → 1 ≤ length cs → 1 ≤ length (map (ready_at now) cs)
some_ready now [] h = h
some_ready now (c ∷ cs) h = omega arith

ready_dropped : (now : ℕ) (r : Request) → dropped_in 0 (readied now r) ≡ readied now (dropped_in 0 r)
ready_dropped now r = elim (test (late 0 r.owner)) [
  | inl e ↦ rw e (ap (λ (cs : List Candidate). with_candidates cs (unowned r)) (without-ready (owner_num r.owner) now r.candidates))
  | inr e ↦ rw e refl
]

dropped_ready : (now : ℕ) (j : Key) (u : Table) → Ordered 0 u → All Filled u → dropped_all 0 (change j (readied now) u) ≡ change j (readied now) (dropped_all 0 u)
dropped_ready now j u o a =
    dropped_change 0 j (readied now) (readied now) (λ r h. some_ready now r.candidates h) (λ r e. ap (map (ready_at now)) e) (λ r e. ap (map (ready_at now)) e) 0 u o a
    (ready_dropped now (at j u))

dropped_both : (now : ℕ) (k : Key) (u : Table) → k.hash < top → Ordered 0 u → All Filled u → dropped_all 0 (readied_both now k u) ≡ readied_both now k (dropped_all 0 u)
dropped_both now k u s o a =
    dropped_ready now (other k) (change k (readied now) u) (ordered-change k (readied now) 0 u (λ r. refl) (omega arith) s o) (filled-change k (readied now) u a)
    ∙ ap (change (other k) (readied now)) (dropped_ready now k u o a)

-- ---- whether an owner waits

alive_timely : (o : Option Owner) → alive 0 o ≡ true → late 0 o ≡ false
alive_timely none e = refl
alive_timely (some o) e = elim (test (leb o.deadline 0)) [ inl l ↦ absurd (omega (arith, leb-true o.deadline 0 l, ltb-true 0 o.deadline e)) | inr l ↦ l ]

pub owner_waits : (n : ℕ) (o : Option Owner) → owner_is n o ≡ true → late 0 o ≡ false → alive 0 o ≡ true
owner_waits n none e l = never e
owner_waits n (some o) e l = elim (test (ltb 0 o.deadline)) [ inl a ↦ a | inr a ↦ never (sym l ∙ le-leb o.deadline 0 (omega (arith, ltb-false 0 o.deadline a))) ]

-- a request whose owner is late has no place
abbrev Bare : ℕ → Request → Type 0
Bare now r = late now r.owner ≡ true → places_for r ≡ []

unburdened_ready : (now : ℕ) (j : Key) (u : Table) → Ordered 0 u → Unburdened 0 u → Unburdened 0 (change j (readied now) u)
unburdened_ready now j u o a = all_change (Bare 0) j (readied now) 0 u o (λ e. ready_none now (at j u) (all_at (Bare 0) j u (λ d. never d) a e)) a

-- ---- the owner's deadline is 0

overdue_goes : (n : ℕ) (r : Request) → late 0 r.owner ≡ false → dropped_in 0 (overdue n r) ≡ gone n (dropped_in 0 r)
overdue_goes n r e = rw e refl

overdue_bare : (n : ℕ) (r : Request) → places_for (overdue n r) ≡ []
unfolding places_for
overdue_bare n r = refl

owner_weight : (n : ℕ) (p : ℕ → Bool) (o : Option Owner) → owner_is n o ≡ true → one (p n) ≤ owner_in p o
owner_weight n p none e = never e
owner_weight n p (some o) e = omega (arith, ap (λ (i : ℕ). one (p i)) (eqb-true o.connection n e))

module _ {m : Limits} {Q : ℕ} {t : Table} (b : Bounded m Q t) (k : Key) (s : k.hash < top) (n : ℕ) (own : owner_is n (at k t).owner ≡ true) where
  holds : has n (at k t).candidates ≡ true
  holds = owner-has n (at k t).owner (at k t).candidates own (lawful_at k t b.lawful).owner

  given_back : at k (change k unowned t) ≡ unowned (at k t)
  given_back = at_same k unowned 0 t (λ r. refl) b.ordered ∙ kept_some k (unowned (at k t)) (at k t).candidates (has_some n (at k t).candidates holds)

  -- it is given back, and can be owned again
  pub owned_again : (has n (at k (change k unowned t)).candidates ≡ true) × ((at k (change k unowned t)).owner ≡ none)
  owned_again = (ap (λ (r : Request). has n r.candidates) given_back ∙ holds, ap (λ (r : Request). r.owner) given_back)

  pub overdue_is : change k (owned_until n 0) (change k unowned t) ≡ change k (overdue n) t
  overdue_is = change_fuse k unowned (owned_until n 0) 0 t (λ r. refl) (λ r e. e) b.ordered

  shrinks_overdue : ShrinksAt (overdue n) (at k t)
  shrinks_overdue = record {
    fewer = λ p. omega arith;
    less = λ p. owner_weight n p (at k t).owner own;
    place = omega arith;
    lawful = λ l. record { candidates = l.candidates; owner = (holds, omega arith); packed = refl; parents = parents_none; mark = l.mark };
  }

  pub bounded_overdue : Bounded m Q (change k (overdue n) t)
  bounded_overdue = bounded_at k (overdue n) s (λ r. refl) shrinks_overdue b

  module _ (now : ℕ) (w : now < word) where
    pub bounded_half : Bounded m Q (change k (readied now) (change k (overdue n) t))
    bounded_half = bounded-change k (readied now) s (shrinks_ready now w) bounded_overdue

    pub bounded_lapsed : Bounded m Q (lapsed k n now t)
    bounded_lapsed = bounded-change (other k) (readied now) s (shrinks_ready now w) bounded_half

    pub unburdened_lapsed : Unburdened 0 t → Unburdened 0 (lapsed k n now t)
    unburdened_lapsed a =
        unburdened_ready now (other k) _ bounded_half.ordered
        (unburdened_ready now k _ bounded_overdue.ordered (all_change (Bare 0) k (overdue n) 0 t b.ordered (λ e. overdue_bare n (at k t)) a))

    pub lapsed_goes : Bounded m Q (dropped_all 0 t) → lapses n (at k t) ≡ true → dropped_all 0 (lapsed k n now t) ≡ (failed k n now (dropped_all 0 t)).table
    lapsed_goes b' e =
        let r = at k t in
        let l = alive_timely r.owner (and_right (releasable n r) (alive 0 r.owner) e) in
        let f = and_left (releasable n r) (alive 0 r.owner) e in
        let same = at_stays 0 k t b.filled l in
        dropped_both now k (change k (overdue n) t) s bounded_overdue.ordered bounded_overdue.filled
        ∙ ap (readied_both now k) (dropped_change 0 k (overdue n) (gone n) (λ r h. h) (λ r e. e) (gone_none n) 0 t b.ordered b.filled (overdue_goes n r l))
        ∙ sym (both_swap n now k s k (dropped_all 0 t) s b'.ordered b'.filled)
        ∙ sym (failed_is now k n s b' (ap (λ (r : Request). owner_is n r.owner) same ∙ own) (ap (releasable n) same ∙ f))

  pub lapsed_reply : (now : ℕ) → lapses n (at k t) ≡ true → (failed k n now (dropped_all 0 t)).reply ≡ true
  unfolding failed
  lapsed_reply now e =
      let r = at k t in
      let same = at_stays 0 k t b.filled (alive_timely r.owner (and_right (releasable n r) (alive 0 r.owner) e)) in
      rw (ap (releasable n) same ∙ and_left (releasable n r) (alive 0 r.owner) e) refl
