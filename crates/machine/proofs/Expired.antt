-- What failed and plan leave alone, key by key: failing clears its own key only, and plan clears only where the time is over.
use Prim.Native.Nat.{ℕ, ◌+◌, ◌≤◌, ◌<◌}
use mathlib.Core.Path.{◌≡◌, refl, sym, ap, ◌∙◌}
use mathlib.Core.Logic.{inl, inr}
use mathlib.Core.Bool.{Bool, true, false, not}
use mathlib.Core.List.{[]}
use mathlib.Core.Option.{Option, none, some}
use native.Mathlib.Omega.{arith}
use lib.Dec.{eqb}
use borrow.Author.Tests.{eqb-true, eqb-false, eq-eqb}
use Rattle.std.specs.Prelude.{if◌then◌else◌}
use Rattle.ident.specs.Number.{Key, place, other, top}
use Rattle.ident.proofs.Places.{place_same as place-inj}
use Rattle.machine.specs.Limits.{Limits}
use Rattle.machine.specs.State.{Owner, Request, Table, Answer, blank, owner_is, enqueued_in, is_some}
use Rattle.machine.specs.Table.{at, change, one, total, owner_in, under}
use Rattle.machine.specs.Fail.{releasable, left, failed}
use Rattle.machine.specs.Sound.{Ordered, Bounded}
use Rattle.machine.proofs.Tests.{test, by_test, never, and_left}
use Rattle.machine.proofs.Table.{ordered-change, at_key, lawful_at, total-change}
use Rattle.machine.proofs.At.{at_other, at_both, at_both_other, at_both_else, other_place}
use Rattle.machine.proofs.Alone.{hold_of, no_hold}
use Rattle.machine.proofs.Loosened.{owner_some, left_key, left_kept}
use Rattle.machine.proofs.Places.{gone}

-- ---- "no hash is owned under both kinds"

-- two requests weigh no more than all
total_two : (w : Request → ℕ) (j k : Key) (t : Table) → ((i : Key) → w (blank i) ≡ 0) → k.hash < top → Ordered 0 t → (place j ≡ place k → ⊥) → w (at j t) + w (at k t) ≤ total w t
total_two w j k t z s o n =
    let t' = change k gone t in
    omega (
      arith,
      total-change w k gone 0 t (z k) o,
      z (at k t).key,
      total-change w j gone 0 t' (z j) (ordered-change k gone 0 t (λ r. refl) (omega arith) s o),
      z (at j t').key,
      ap w (at_other j k gone t (λ r. refl) n),
    )

owner-counts : (q : ℕ → Bool) (o : Option Owner) → ((n : ℕ) → q n ≡ true) → owner_in q o ≡ one (is_some o)
owner-counts q none f = refl
owner-counts q (some o) f = ap one (f o.connection)

pub owned_once : {m : Limits} {Q : ℕ} {t : Table} (k : Key) → k.hash < top → Bounded m Q t → is_some (at k t).owner ≡ true → is_some (at (other k) t).owner ≡ false
owned_once {m} {Q} {t} k s b e =
    elim (test (is_some (at (other k) t).owner)) [
      | inl d ↦ absurd (omega (
        arith,
        total_two (λ r. owner_in (under k.hash r.key) r.owner) (other k) k t (λ i. refl) s b.ordered (other_place k s),
        b.single k.hash,
        counted k s,
        counted (other k) s,
        ap one e,
        ap one d,
      ))
      | inr d ↦ d
    ]
  where
    counted : (j : Key) → j.hash < top → owner_in (under j.hash (at j t).key) (at j t).owner ≡ one (is_some (at j t).owner)
    counted j h = owner-counts _ (at j t).owner (λ n. eq-eqb (at j t).key.hash j.hash (ap (λ (i : Key). i.hash) (at_key j 0 t h b.ordered)))

-- ---- failed, key by key

pub owner_not : (n : ℕ) (o : Option Owner) → is_some o ≡ false → owner_is n o ≡ false
owner_not n none e = refl
owner_not n (some o) e = never (sym e)

module _ {m : Limits} {Q : ℕ} {t : Table} (k : Key) (n now : ℕ) (s : k.hash < top) (b : Bounded m Q t) where
  -- a key that fails holds nothing afterwards
  pub failed_here : releasable n (at k t) ≡ true → hold_of (at k (failed k n now t).table) ≡ no_hold
  unfolding failed
  failed_here e =
      let own = and_left (owner_is n (at k t).owner) _ e in
      rw e (ap hold_of (at_both k (left n now) t (left_key n now) s b.ordered) ∙
      (left_kept k n now (at k t) (lawful_at k t b.lawful) ∙ ap (λ (x : Bool). if x then no_hold else hold_of (at k t)) own))

  -- every other key holds what it did, the other kind of the hash too
  pub failed-elsewhere : (j : Key) → j.hash < top → (place j ≡ place k → ⊥) → hold_of (at j (failed k n now t).table) ≡ hold_of (at j t)
  unfolding failed
  failed-elsewhere j h d =
      by_test (λ (a : Answer). hold_of (at j a.table) ≡ hold_of (at j t)) (releasable n (at k t))
      (λ e. elim (test (eqb (place j) (place (other k)))) [
        | inl q ↦ rw (place-inj j (other k) h s (eqb-true _ _ q)) (ap hold_of (at_both_other k (left n now) t (left_key n now) s b.ordered) ∙
            (left_kept (other k) n now (at (other k) t) (lawful_at (other k) t b.lawful) ∙ ap (λ (x : Bool). if x then no_hold else hold_of (at (other k) t)) (free e)))
        | inr q ↦ ap hold_of (at_both_else j k (left n now) t (left_key n now) d (eqb-false _ _ q))
      ])
      (λ e. refl)
    where
      free : releasable n (at k t) ≡ true → owner_is n (at (other k) t).owner ≡ false
      free e = owner_not n (at (other k) t).owner (owned_once k s b (owner_some n (at k t).owner (and_left (owner_is n (at k t).owner) (not (enqueued_in (at k t).«package»)) e)))
