-- What failing leaves alone: a request keeps owner, flag, package and parents, or loses all four where its owner fails.
use Prim.Native.Nat.{ℕ, ◌<◌}
use mathlib.Core.Path.{◌≡◌, refl, sym, ap, ◌∙◌}
use mathlib.Core.Logic.{◌⊎◌, inl, inr}
use mathlib.Core.Bool.{Bool, true, false}
use mathlib.Core.List.{List, [], ◌∷◌, map}
use mathlib.Core.Option.{Option, none, some}
use native.Mathlib.Omega.{arith}
use lib.ListN.{length}
use Rattle.std.specs.Prelude.{if◌then◌else◌}
use Rattle.ident.specs.Number.{Key, other, top}
use Rattle.machine.specs.Limits.{Limits, word}
use Rattle.machine.specs.State.{Candidate, Owner, Request, Table, Answer, ready_at, owner_is, is_some}
use Rattle.machine.specs.Table.{at, change}
use Rattle.machine.specs.Announce.{without}
use Rattle.machine.specs.Fail.{releasable, left, leaves, failed, Listed, parents_for}
use Rattle.machine.specs.Package.{listed_after, failed_with_parents}
use Rattle.machine.specs.Sound.{Ordered, All, Lawful, Bounded}
use Rattle.machine.proofs.Tests.{by_test, never}
use Rattle.machine.proofs.Table.{lawful_at}
use Rattle.machine.proofs.Change.{bounded-change, owner-without}
use Rattle.machine.proofs.Fail.{Peer, few_for, shrinks_left, bounded-failed}
use Rattle.machine.proofs.At.{KeepsKey, kept}
use Rattle.machine.proofs.Alone.{Hold, hold_of, no_hold, none_hold, owner-empty, hold_kept, at_either, Alone, alone-parents}

-- ---- requests that keep what they hold or, where their owner passes a test, hold nothing

pub record Loosened (p : Option Owner → Bool) (t t' : Table) : Type 0 where
  pub hold : (j : Key) → j.hash < top → (hold_of (at j t') ≡ hold_of (at j t)) ⊎ ((p (at j t).owner ≡ true) × (hold_of (at j t') ≡ no_hold))

pub loosened_alone : {p : Option Owner → Bool} {t t' : Table} → Alone t t' → Loosened p t t'
loosened_alone a = record { hold = λ j s. inl (a.hold j s) }

pub loosened_same : {p : Option Owner → Bool} {t : Table} → Loosened p t t
loosened_same = record { hold = λ j s. inl refl }

pub loosened_then : {p : Option Owner → Bool} {t t' t'' : Table} → Loosened p t t' → Loosened p t' t'' → Loosened p t t''
loosened_then {p} {t} {t'} {t''} a b = record { hold = λ j s. go j (a.hold j s) (b.hold j s) }
  where
    Either : Table → Table → Key → Type 0
    Either x y j = (hold_of (at j y) ≡ hold_of (at j x)) ⊎ ((p (at j x).owner ≡ true) × (hold_of (at j y) ≡ no_hold))

    go : (j : Key) → Either t t' j → Either t' t'' j → Either t t'' j
    go j (inl d) (inl e) = inl (e ∙ d)
    go j (inl d) (inr e) = inr (ap (λ (x : Hold). p x.owner) (sym d) ∙ e.0, e.1)
    go j (inr d) (inl e) = inr (d.0, e ∙ d.1)
    go j (inr d) (inr e) = inr (d.0, e.1)

-- a test that passes more
pub loosened_wider : {p q : Option Owner → Bool} {t t' : Table} → ((o : Option Owner) → p o ≡ true → q o ≡ true) → Loosened p t t' → Loosened q t t'
loosened_wider f l = record { hold = λ j s. elim (l.hold j s) [ inl e ↦ inl e | inr e ↦ inr (f _ e.0, e.1) ] }

pub owner_some : (n : ℕ) (o : Option Owner) → owner_is n o ≡ true → is_some o ≡ true
owner_some n none e = never e
owner_some n (some o) e = refl

-- ---- a connection leaves a request

pub left_key : (n now : ℕ) → KeepsKey (left n now)
unfolding left
left_key n now r = by_test (λ (q : Request). q.key ≡ r.key) (owner_is n r.owner) (λ e. refl) (λ e. refl)

-- its hold goes if it is the owner, and stays otherwise
pub left_hold : (n now : ℕ) (r : Request) (b : Bool) → owner_is n r.owner ≡ b → hold_of (left n now r) ≡ (if b then no_hold else hold_of r)
unfolding left
left_hold n now r true e = rw e
left_hold n now r false e = rw e

left_candidates : (n now : ℕ) (r : Request) → (left n now r).candidates ≡ map (ready_at now) (without n r.candidates)
unfolding left
left_candidates n now r = refl

pub map-empty : (now : ℕ) (cs : List Candidate) → map (ready_at now) cs ≡ [] → cs ≡ []
map-empty now [] e = refl
map-empty now (c ∷ cs) e = absurd (omega (arith, ap length e))

-- the last candidate that leaves unowned leaves nothing that was held
left_empty : (n now : ℕ) (r : Request) → Lawful r → owner_is n r.owner ≡ false → (left n now r).candidates ≡ [] → hold_of r ≡ no_hold
left_empty n now r l w e =
    none_hold r l (owner-empty r.owner (without n r.candidates) (map-empty now (without n r.candidates) (sym (left_candidates n now r) ∙ e))
    (owner-without n r.owner r.candidates w l.owner))

pub left_kept : (k : Key) (n now : ℕ) (r : Request) → Lawful r → hold_of (kept k (left n now r) (left n now r).candidates) ≡ (if owner_is n r.owner then no_hold else hold_of r)
left_kept k n now r l = go (owner_is n r.owner) refl
  where
    go : (b : Bool) → owner_is n r.owner ≡ b → hold_of (kept k (left n now r) (left n now r).candidates) ≡ (if b then no_hold else hold_of r)
    go true e = hold_kept k (left n now r) no_hold (left n now r).candidates (left_hold n now r true e) (λ q. refl)
    go false e = hold_kept k (left n now r) (hold_of r) (left n now r).candidates (left_hold n now r false e) (left_empty n now r l e)

loosened_left : (k : Key) (n now : ℕ) (t : Table) → k.hash < top → Ordered 0 t → All Lawful t → Loosened (owner_is n) t (change k (left n now) t)
loosened_left k n now t s o l = record {
  hold = at_either (λ j r. (hold_of r ≡ hold_of (at j t)) ⊎ ((owner_is n (at j t).owner ≡ true) × (hold_of r ≡ no_hold))) k (left n now) t s (left_key n now) o
      (go (owner_is n (at k t).owner) refl (left_kept k n now (at k t) (lawful_at k t l))) (λ j h. inl refl);
}
  where
    r' : Request
    r' = kept k (left n now (at k t)) (left n now (at k t)).candidates

    go : (b : Bool) → owner_is n (at k t).owner ≡ b → hold_of r' ≡ (if owner_is n (at k t).owner then no_hold else hold_of (at k t))
        → (hold_of r' ≡ hold_of (at k t)) ⊎ ((owner_is n (at k t).owner ≡ true) × (hold_of r' ≡ no_hold))
    go true e h = inr (e, h ∙ ap (λ (b : Bool). if b then no_hold else hold_of (at k t)) e)
    go false e h = inl (h ∙ ap (λ (b : Bool). if b then no_hold else hold_of (at k t)) e)

-- ---- failed

module _ {m : Limits} {Q : ℕ} {t : Table} (k : Key) (n now : ℕ) (s : k.hash < top) (w : now < word) (b : Bounded m Q t) where
  pub loosened_leaves : Loosened (owner_is n) t (leaves k n now t)
  loosened_leaves =
      let b' = bounded-change k (left n now) s (shrinks_left n now w) b in
      loosened_then (loosened_left k n now t s b.ordered b.lawful) (loosened_left (other k) n now _ s b'.ordered b'.lawful)

  pub loosened_failed : Loosened (owner_is n) t (failed k n now t).table
  unfolding failed
  loosened_failed = by_test (λ (a : Answer). Loosened (owner_is n) t a.table) (releasable n (at k t)) (λ e. loosened_leaves) (λ e. loosened_same)

-- ---- failing, with parents

-- the parents that a request hands on are few, and hashes
module _ {m : Limits} {Q : ℕ} {t : Table} (k : Key) (n now : ℕ) (s : k.hash < top) (p : Peer n) (w : now < word) (b : Bounded m Q t) where
  pub loosened_failed_with_parents : Loosened (owner_is n) t (failed_with_parents m k n now t).table
  unfolding failed_with_parents listed_after
  loosened_failed_with_parents =
      let a = failed k n now t in
      let l = loosened_failed k n now s w b in
      by_test (λ (x : Listed). Loosened (owner_is n) t x.table) a.reply
      (λ e. loosened_then l (loosened_alone (alone-parents n now (parents_for n (at k t)) p w (few_for n (at k t) (lawful_at k t b.lawful)) (bounded-failed k n now s w b)))) (λ e. l)
