-- A change at one key commutes with taking the packages away, wherever its change of a request does; and so failing does.
use Prim.Native.Nat.{ℕ}
use mathlib.Core.Path.{◌≡◌, refl, sym, ap, ◌∙◌}
use mathlib.Core.Logic.{inl, inr}
use mathlib.Core.Bool.{Bool, true, false, not, ◌&&◌, and-true, and-false}
use mathlib.Core.List.{List, [], ◌∷◌}
use lib.Dec.{ltb, eqb}
use Rattle.ident.specs.Number.{Key, place, other}
use Rattle.machine.specs.State.{Candidate, Request, Table, blank, owner_is, enqueued_in}
use Rattle.machine.specs.Table.{at, keep, change}
use Rattle.machine.specs.Announce.{push, cut, adopted}
use Rattle.machine.specs.Fail.{releasable, left, leaves, failed, mark}
use Rattle.machine.proofs.Tests.{test}
use Rattle.apart.specs.Bare.{bare_request, bare, bare_answer}
use Rattle.apart.proofs.BareTable.{at_bare}

-- ---- change

pub keep-bare : (r : Request) (cs : List Candidate) (t : Table) → keep (bare_request r) cs (bare t) ≡ bare (keep r cs t)
unfolding keep bare
keep-bare r [] t = refl
keep-bare r (c ∷ cs) t = refl

-- f and g do the same, without the packages
abbrev pub BareAs : (Request → Request) → (Request → Request) → Type 0
BareAs f g = (r : Request) → g (bare_request r) ≡ bare_request (f r)

pub change-bare : (k : Key) (f g : Request → Request) (t : Table) → BareAs f g → change k g (bare t) ≡ bare (change k f t)
unfolding change bare
change-bare k f g [] e = ap (λ (x : Request). keep x x.candidates []) (e (blank k)) ∙ keep-bare (f (blank k)) (f (blank k)).candidates []
change-bare k f g (r ∷ t) e =
    elim (test (ltb (place k) (place r.key))) [
      | inl l ↦ rw l (ap (λ (x : Request). keep x x.candidates (bare (r ∷ t))) (e (blank k)) ∙ keep-bare (f (blank k)) (f (blank k)).candidates (r ∷ t))
      | inr l ↦ rw l (elim (test (eqb (place k) (place r.key))) [
        | inl d ↦ rw d (ap (λ (x : Request). keep x x.candidates (bare t)) (e r) ∙ keep-bare (f r) (f r).candidates t)
        | inr d ↦ rw d (ap (λ (x : Table). bare_request r ∷ x) (change-bare k f g t e))
      ])
    ]

pub push-bare : (k : Key) (c : Candidate) (t : Table) → push k c (bare t) ≡ bare (push k c t)
push-bare k c t = change-bare k _ _ t (λ r. refl)

pub cut-bare : (k : Key) (n : ℕ) (t : Table) → cut k n (bare t) ≡ bare (cut k n t)
cut-bare k n t = change-bare k _ _ t (λ r. refl)

pub adopted-bare : (same : Bool) (k : Key) (c : Candidate) (t : Table) → adopted same k c (bare t) ≡ bare (adopted same k c t)
adopted-bare same k c t = change-bare k _ _ t (λ r. refl)

pub mark-bare : (k : Key) (t : Table) → mark k (bare t) ≡ bare (mark k t)
mark-bare k t = change-bare k _ _ t (λ r. refl)

-- ---- failed

left_bare : (n now : ℕ) → BareAs (left n now) (left n now)
unfolding left
left_bare n now r = elim (test (owner_is n r.owner)) [ inl e ↦ rw e | inr e ↦ rw e ]

pub leaves-bare : (k : Key) (n now : ℕ) (t : Table) → leaves k n now (bare t) ≡ bare (leaves k n now t)
leaves-bare k n now t =
    ap (change (other k) (left n now)) (change-bare k (left n now) (left n now) t (left_bare n now))
    ∙ change-bare (other k) (left n now) (left n now) (change k (left n now) t) (left_bare n now)

-- without packages just the owner can fail
pub releasable-bare : (n : ℕ) (k : Key) (t : Table) → releasable n (at k (bare t)) ≡ owner_is n (at k t).owner
releasable-bare n k t = ap (releasable n) (at_bare k t) ∙ and-true (owner_is n (at k t).owner)

module _ (k : Key) (n now : ℕ) (t : Table) where
  pub failed-bare : enqueued_in (at k t).«package» ≡ false → failed k n now (bare t) ≡ bare_answer (failed k n now t)
  unfolding failed
  failed-bare e =
      let own = owner_is n (at k t).owner in
      let same : releasable n (at k (bare t)) ≡ releasable n (at k t) = releasable-bare n k t ∙ sym (ap (λ (b : Bool). own && not b) e ∙ and-true own) in
      elim (test (releasable n (at k t))) [
        | inl d ↦ rw (same, d) (λ i. record { reply = true; table = leaves-bare k n now t i })
        | inr d ↦ rw (same, d)
      ]

  -- an Enqueued package does not fail
  pub enqueued_stays : enqueued_in (at k t).«package» ≡ true → failed k n now t ≡ record { reply = false; table = t }
  unfolding failed
  enqueued_stays e =
      let no_one : releasable n (at k t) ≡ false = ap (λ (b : Bool). owner_is n (at k t).owner && not b) e ∙ and-false (owner_is n (at k t).owner) in
      rw no_one
