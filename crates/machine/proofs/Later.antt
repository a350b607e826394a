-- When to look again: the next look is later than now and one of the times, nothing is sooner, and what a pick tells is one of them.
use Prim.Native.Nat.{ℕ, min, ◌≤◌, ◌<◌}
use mathlib.Core.Path.{◌≡◌, refl, sym, ap, ◌∙◌}
use mathlib.Core.Logic.{◌⊎◌, inl, inr}
use mathlib.Core.Bool.{Bool, true, false, ◌||◌}
use mathlib.Core.List.{List, [], ◌∷◌, ◌++◌, map}
use mathlib.Core.Option.{Option, none, some}
use native.Mathlib.Omega.{arith}
use lib.Dec.{ltb, leb, eqb}
use borrow.Author.Tests.{ltb-true, lt-ltb, leb-true, leb-false, eqb-true, eq-eqb}
use Rattle.std.specs.Prelude.{if◌then◌else◌}
use Rattle.ident.specs.Number.{Key, place, txid, wtxid}
use Rattle.machine.specs.State.{Candidate, Owner, Request, Table}
use Rattle.machine.specs.Table.{at}
use Rattle.machine.specs.Claim.{elem}
use Rattle.machine.specs.Later.{earlier, later, least_later, ready_times, any_ready, wait_in, wait_for, times_in, times, next_look}
use Rattle.machine.specs.Looking.{AtMost, Among}
use Rattle.machine.proofs.Tests.{test, by_test, never, or_true}

-- ---- the earlier of two times

pub earlier_none : (a : Option ℕ) → earlier a none ≡ a
earlier_none none = refl
earlier_none (some a) = refl

pub earlier_assoc : (a b c : Option ℕ) → earlier (earlier a b) c ≡ earlier a (earlier b c)
earlier_assoc none b c = refl
earlier_assoc (some a) none c = refl
earlier_assoc (some a) (some b) none = refl
earlier_assoc (some a) (some b) (some c) = let z : min (min a b) c ≡ min a (min b c) = omega arith in ap some z

pub least_append : (now : ℕ) (l m : List ℕ) → least_later now (l ++ m) ≡ earlier (least_later now l) (least_later now m)
unfolding least_later
least_append now [] m = refl
least_append now (x ∷ l) m = ap (earlier (later now x)) (least_append now l m) ∙ sym (earlier_assoc (later now x) (least_later now l) (least_later now m))

-- ---- nothing is sooner

left_soon : (x : ℕ) (a b : Option ℕ) → AtMost a x → AtMost (earlier a b) x
unfolding AtMost
left_soon x none b h = absurd h
left_soon x (some a) none h = h
left_soon x (some a) (some b) h = omega (arith, h)

right_soon : (x : ℕ) (a b : Option ℕ) → AtMost b x → AtMost (earlier a b) x
unfolding AtMost
right_soon x none b h = h
right_soon x (some a) none h = absurd h
right_soon x (some a) (some b) h = omega (arith, h)

least_sooner : (now x : ℕ) (l : List ℕ) → elem x l ≡ true → now < x → AtMost (least_later now l) x
unfolding elem least_later AtMost
least_sooner now x [] h g = never h
least_sooner now x (y ∷ l) h g =
    elim (test (eqb y x)) [
      | inl e ↦ left_soon x (later now y) (least_later now l) (rw (eqb-true y x e, lt-ltb now x g) (omega arith))
      | inr e ↦ right_soon x (later now y) (least_later now l) (least_sooner now x l (rw e at h) g)
    ]

-- a time above now is not below the next look
pub nothing-sooner : (now x : ℕ) (t : Table) → elem x (times t) ≡ true → now < x → AtMost (next_look now t) x
nothing-sooner now x t h g = least_sooner now x (times t) h g

-- ---- the next look is one of the times

some_same : {a b : ℕ} → some a ≡ some b → a ≡ b
some_same e = cc

pub none_some : {b : ℕ} → none ≡ some b → ⊥
none_some e = let z : ◌≡◌ {A = ℕ} 0 1 = cc in omega arith

later_is : (now y x : ℕ) → later now y ≡ some x → (now < x) × (y ≡ x)
later_is now y x e = elim (test (ltb now y)) [
  | inl d ↦ let z : y ≡ x = some_same (rw d at e) in (omega (arith, ltb-true now y d, z), z)
  | inr d ↦ absurd (none_some (rw d at e))
]

among_first : (now y x : ℕ) (l : List ℕ) → later now y ≡ some x → Among now x (y ∷ l)
unfolding elem
among_first now y x l e = let g = later_is now y x e in record { later = g.0; one_of = rw (eq-eqb y x g.1) }

among_rest : (now y x : ℕ) (l : List ℕ) → Among now x l → Among now x (y ∷ l)
unfolding elem
among_rest now y x l h = record { later = h.later; one_of = or_true (eqb y x) (elem x l) h.one_of }

-- of two of which each is one of the times, so is the earlier
among-earlier : (now x : ℕ) (l : List ℕ) (a b : Option ℕ) → ((y : ℕ) → a ≡ some y → Among now y l) → ((y : ℕ) → b ≡ some y → Among now y l) → earlier a b ≡ some x → Among now x l
among-earlier now x l none b f g e = g x e
among-earlier now x l (some a) none f g e = f x e
among-earlier now x l (some a) (some b) f g e =
    let z : min a b ≡ x = some_same e in
    elim (test (leb a b)) [
      | inl d ↦ f x (ap some (omega (arith, z, leb-true a b d)))
      | inr d ↦ g x (ap some (omega (arith, z, leb-false a b d)))
    ]

least_among : (now x : ℕ) (l : List ℕ) → least_later now l ≡ some x → Among now x l
unfolding least_later
least_among now x [] e = absurd (none_some e)
least_among now x (y ∷ l) e = among-earlier now x (y ∷ l) (later now y) (least_later now l) (λ z d. among_first now y z l d) (λ z d. among_rest now y z l (least_among now z l d)) e

pub look-later : (now x : ℕ) (t : Table) → next_look now t ≡ some x → Among now x (times t)
look-later now x t e = least_among now x (times t) e

-- ---- what a pick tells is one of the times, and the next look is not after it

elem-append : (x : ℕ) (l m : List ℕ) → (elem x l ≡ true) ⊎ (elem x m ≡ true) → elem x (l ++ m) ≡ true
unfolding elem
elem-append x [] m (inl e) = never e
elem-append x [] m (inr e) = e
elem-append x (y ∷ l) m (inl e) = elim (test (eqb y x)) [ inl d ↦ rw d | inr d ↦ rw d (elem-append x l m (inl (rw d at e))) ]
elem-append x (y ∷ l) m (inr e) = or_true (eqb y x) (elem x (l ++ m)) (elem-append x l m (inr e))

-- the ready times of an unowned key are times of the table
times_at : (x : ℕ) (k : Key) (t : Table) → (at k t).owner ≡ none → elem x (ready_times (at k t).candidates) ≡ true → elem x (times t) ≡ true
unfolding at times elem
times_at x k [] o e = never e
times_at x k (r ∷ t) o e = elim (test (eqb (place k) (place r.key))) [
  | inl d ↦ elem-append x (times_in r.owner r.candidates) (times t) (inl (unowned r.candidates r.owner (rw d at o) (rw d at e)))
  | inr d ↦ elem-append x (times_in r.owner r.candidates) (times t) (inr (times_at x k t (rw d at o) (rw d at e)))
]
  where
    unowned : (cs : List Candidate) (w : Option Owner) → w ≡ none → elem x (ready_times cs) ≡ true → elem x (times_in w cs) ≡ true
    unowned cs w e h = rw e h

wait-among : (now x : ℕ) (cs : List Candidate) → wait_in now cs ≡ some x → Among now x (ready_times cs)
wait-among now x cs e = elim (test (any_ready now cs)) [
  | inl d ↦ absurd (none_some (rw d at e))
  | inr d ↦ least_among now x (ready_times cs) (rw d at e)
]

wait_at : (now x : ℕ) (k : Key) (t : Table) → (at k t).owner ≡ none → wait_in now (at k t).candidates ≡ some x → Among now x (times t)
wait_at now x k t o e = let h = wait-among now x (at k t).candidates e in record { later = h.later; one_of = times_at x k t o h.one_of }

-- at a hash that nobody owns
pub wait_told : (now x : ℕ) (k : Key) (t : Table) → (at (txid k.hash) t).owner ≡ none → (at (wtxid k.hash) t).owner ≡ none → wait_for now t k ≡ some x
    → Among now x (times t) × AtMost (next_look now t) x
unfolding wait_for
wait_told now x k t o p e =
    let h = among-earlier now x (times t) (wait_in now (at (txid k.hash) t).candidates) (wait_in now (at (wtxid k.hash) t).candidates)
    (λ y d. wait_at now y (txid k.hash) t o d) (λ y d. wait_at now y (wtxid k.hash) t p d) e in
    (h, nothing-sooner now x t h.one_of h.later)
