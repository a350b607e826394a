-- Package places: calls that loosen take none, and a request that fails hands on at most the parents of its place.
use Prim.Native.Nat.{ℕ, suc, ◌+◌, ◌*◌, ◌≤◌, ◌<◌}
use mathlib.Core.Path.{◌≡◌, refl, ap}
use mathlib.Core.Logic.{inl, inr}
use mathlib.Core.Bool.{Bool, true, false, ◌&&◌, ◌||◌}
use mathlib.Core.List.{List, [], ◌∷◌}
use mathlib.Core.Option.{Option, none, some}
use native.Mathlib.Omega.{arith}
use lib.Dec.{eqb}
use lib.ListN.{length}
use borrow.Author.Tests.{eqb-true, eqb-false}
use Rattle.ident.specs.Number.{Key, place, other, top}
use Rattle.machine.specs.Limits.{Limits, max_parents, word}
use Rattle.machine.specs.State.{Owner, Package, Request, Table, Answer, blank, owner_is, is_some}
use Rattle.machine.specs.Table.{at, change, total, place_in, places_held}
use Rattle.machine.specs.Fail.{releasable, left, leaves, failed, announce_parents, parents_for}
use Rattle.machine.specs.Package.{listed_after, failed_with_parents}
use Rattle.machine.specs.Sound.{Ordered, Lawful, Bounded}
use Rattle.machine.proofs.Tests.{test, by_test, never, and_left, and_right}
use Rattle.machine.proofs.Table.{ordered-change, at_absent, lawful_at, total-change, places-change}
use Rattle.machine.proofs.Change.{bounded-change}
use Rattle.machine.proofs.Fail.{Peer, few_for, shrinks_left, bounded-leaves, bounded-parents}
use Rattle.machine.proofs.At.{at_here, at_there, at_other}
use Rattle.machine.proofs.Alone.{Hold, Alone, alone-parents}
use Rattle.machine.proofs.Loosened.{left_hold, Loosened}
use Rattle.machine.proofs.AnswerLengths.{length-announce_parents}

-- ---- a weight that is nowhere greater is not greater in all

-- a change that takes a request away
abbrev pub gone : Request → Request
gone r = blank r.key

pub total_mono : (w : Request → ℕ) (lo : ℕ) (t' t : Table) → ((k : Key) → w (blank k) ≡ 0) → Ordered lo t' → Ordered 0 t → ((j : Key) → j.hash < top → w (at j t') ≤ w (at j t))
    → total w t' ≤ total w t
unfolding total
total_mono w lo [] t z o' o h = omega arith
total_mono w lo (r ∷ t') t z o' o h =
    let k = r.key in
    let here : w r ≤ w (at k t) = rw (at_here k r t' refl) at (h k o'.1) in
    let rest : total w t' ≤ total w (change k gone t) = total_mono w (suc (place r.key)) t' (change k gone t) z o'.2 (ordered-change k gone 0 t (λ r. refl) (omega arith) o'.1 o) (λ j s.
    elim (test (eqb (place j) (place k))) [
      | inl e ↦ rw (at_absent j (suc (place k)) t' (omega (arith, eqb-true (place j) (place k) e)) o'.2) (omega (arith, z j))
      | inr e ↦ rw (at_other j k gone t (λ r. refl) (eqb-false _ _ e)) (rw (at_there j r t' (eqb-false _ _ e)) at (h j s))
    ]) in
    omega (arith, total-change w k gone 0 t (z k) o, z (at k t).key)

-- ---- places

place_of : Hold → ℕ
place_of x = place_in x.info x.«package»

pub places_loosened : {p : Option Owner → Bool} {t t' : Table} → Ordered 0 t' → Ordered 0 t → Loosened p t t' → places_held t' ≤ places_held t
unfolding place_of
places_loosened {p} {t} {t'} o' o l = total_mono _ 0 t' t (λ k. refl) o' o (λ j s. elim (l.hold j s) [ inl e ↦ omega (arith, ap place_of e) | inr e ↦ omega (arith, ap place_of e.1) ])

pub places-alone : {t t' : Table} → Ordered 0 t' → Ordered 0 t → Alone t t' → places_held t' ≤ places_held t
unfolding place_of
places-alone {t} {t'} o' o a = total_mono _ 0 t' t (λ k. refl) o' o (λ j s. omega (arith, ap place_of (a.hold j s)))

-- a request that its owner leaves gives its place back
pub places-leaves : {m : Limits} {Q : ℕ} {t : Table} (k : Key) (n now : ℕ) → k.hash < top → now < word → Bounded m Q t → owner_is n (at k t).owner ≡ true
    → places_held (leaves k n now t) + place_in (at k t).info (at k t).«package» ≤ places_held t
unfolding place_of
places-leaves {m} {Q} {t} k n now s w b e =
    let f = left n now in
    let b' = bounded-change k f s (shrinks_left n now w) b in
    omega (
      arith,
      places-change k f t b.ordered,
      ap place_of (left_hold n now (at k t) true e),
      places-change (other k) f (change k f t) b'.ordered,
      ((shrinks_left n now w).at_each (at (other k) (change k f t))).place,
    )

-- parents stand beside a place only
pub place_held : (i : Bool) (p : Option Package) → (i || is_some p) ≡ true → place_in i p ≡ 1
place_held true none e = refl
place_held false none e = never e
place_held true (some p) e = refl
place_held false (some p) e = refl

pub parents-place : (n : ℕ) (r : Request) → Lawful r → length (parents_for n r) ≤ max_parents * place_in r.info r.«package»
parents-place n r l =
    by_test (λ (hs : List ℕ). length hs ≤ max_parents * place_in r.info r.«package») (owner_is n r.owner && (r.info || is_some r.«package»))
    (λ e. omega (arith, l.parents.few, place_held r.info r.«package» (and_right (owner_is n r.owner) _ e))) (λ e. omega arith)

-- ---- one key that fails with its parents

-- it is not carried out, or lists the key and the parents kept
failing_cases : (C : List Key → Table → Type 0) (m : Limits) (k : Key) (n now : ℕ) (t : Table)
    → (releasable n (at k t) ≡ true → C (k ∷ (announce_parents m n now (parents_for n (at k t)) (leaves k n now t)).keys) (announce_parents m n now (parents_for n (at k t)) (leaves k n now t)).table)
    → C [] t → C (failed_with_parents m k n now t).keys (failed_with_parents m k n now t).table
unfolding failed_with_parents listed_after failed
failing_cases C m k n now t out stay = by_test (λ (a : Answer). C (listed_after m k n now (parents_for n (at k t)) a).keys (listed_after m k n now (parents_for n (at k t)) a).table)
    (releasable n (at k t)) out (λ e. stay)

module _ {m : Limits} {Q : ℕ} {t : Table} (k : Key) (n now : ℕ) (s : k.hash < top) (p : Peer n) (w : now < word) (b : Bounded m Q t) where
  abbrev pl : ℕ
  pl = place_in (at k t).info (at k t).«package»

  abbrev hs : List ℕ
  hs = parents_for n (at k t)

  -- at most 100 parents are listed for the place that is given back
  given_back : releasable n (at k t) ≡ true → (length (announce_parents m n now hs (leaves k n now t)).keys ≤ max_parents * pl)
      × (places_held (announce_parents m n now hs (leaves k n now t)).table + pl ≤ places_held t)
  given_back e =
      let l = lawful_at k t b.lawful in
      let b' = bounded-leaves k n now s w b in (
        omega (arith, length-announce_parents m n now hs (leaves k n now t), parents-place n (at k t) l),
        omega (
          arith,
          places-leaves k n now s w b (and_left (owner_is n (at k t).owner) _ e),
          places-alone (bounded-parents n now hs p w (few_for n (at k t) l) b').ordered b'.ordered (alone-parents n now hs p w (few_for n (at k t) l) b'),
        ),
      )

  -- one key, and the parents of places given back
  pub failing_one : length (failed_with_parents m k n now t).keys + max_parents * places_held (failed_with_parents m k n now t).table ≤ 1 + max_parents * places_held t
  failing_one = failing_cases (λ ks t'. length ks + max_parents * places_held t' ≤ 1 + max_parents * places_held t) m k n now t (λ e. omega (arith, given_back e)) (omega arith)

  -- where the key has a place if it fails at all, the place bounds the key too
  pub failing_held : (owner_is n (at k t).owner ≡ true → place_in (at k t).info (at k t).«package» ≡ 1)
      → length (failed_with_parents m k n now t).keys + (max_parents + 1) * places_held (failed_with_parents m k n now t).table ≤ (max_parents + 1) * places_held t
  failing_held h = failing_cases (λ ks t'. length ks + (max_parents + 1) * places_held t' ≤ (max_parents + 1) * places_held t) m k n now t
      (λ e. omega (arith, given_back e, h (and_left (owner_is n (at k t).owner) _ e))) (omega arith)
