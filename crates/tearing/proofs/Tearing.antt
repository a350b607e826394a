-- teardown_package_claims, one package after the other in any order, comes to one pass over the table.
use Prim.Native.Nat.{ℕ, suc, ◌≤◌, ◌<◌}
use mathlib.Core.Path.{◌≡◌, refl, sym, ap, ◌∙◌}
use mathlib.Core.Logic.{inl, inr}
use mathlib.Core.Bool.{Bool, true, false, ◌||◌}
use mathlib.Core.List.{List, [], ◌∷◌}
use mathlib.Core.Option.{Option, none, some}
use native.Mathlib.Omega.{arith}
use lib.Dec.{ltb, eqb}
use borrow.Author.Tests.{ltb-true, eq-eqb}
use Rattle.ident.specs.declared.Kind.{Kind}
use Rattle.std.specs.Prelude.{if◌then◌else◌}
use Rattle.ident.specs.Number.{Key, place, wtxid}
use Rattle.machine.specs.State.{Candidate, Owner, Package, Request, Table, is_some}
use Rattle.machine.specs.Table.{at, keep, change}
use Rattle.machine.specs.Fail.{left}
use Rattle.machine.specs.Package.{package_keys}
use Rattle.machine.specs.Sound.{Ordered, All, Filled, Lawful}
use Rattle.machine.specs.Typed.{Each}
use Rattle.machine.proofs.Tests.{test, never}
use Rattle.machine.proofs.Table.{at_absent}
use Rattle.machine.proofs.First.{keep_some as keep-filled}
use Rattle.machine.proofs.KeptAtZero.{packed-owned as owned}
use Rattle.package_stages.proofs.Seeking.{holding}
use Rattle.tearing.specs.Torn.{quit, torn_in, torn_all}

-- ---- one request

packed-place : (i : Bool) (p : Option Package) → is_some p ≡ true → (i || is_some p) ≡ true
packed-place true p e = refl
packed-place false p e = e

pub wtxid-key : (q : Request) → Lawful q → is_some q.«package» ≡ true → q.key ≡ wtxid q.key.hash
wtxid-key q l e = ap (λ (j : Kind). record { kind = j; hash = q.key.hash }) (holding q l (packed-place q.info q.«package» e)).kind

pub quit-bare : (v : ℕ) (q : Request) (o : Option Owner) → q.owner ≡ o → is_some o ≡ true → (quit v q).«package» ≡ none
unfolding left
quit-bare v q none e h = never h
quit-bare v q (some o) e h = rw (e, eq-eqb o.connection o.connection refl)

quit-torn : (v : ℕ) (q : Request) → Lawful q → is_some q.«package» ≡ true → torn_in v (quit v q) ≡ quit v q
quit-torn v q l e = ap (λ (p : Option Package). if is_some p then quit v (quit v q) else quit v q) (quit-bare v q q.owner refl (owned q l e))

torn-yes : (v : ℕ) (q : Request) → is_some q.«package» ≡ true → torn_in v q ≡ quit v q
torn-yes v q e = rw e

torn-keep : (v : ℕ) (r : Request) (cs : List Candidate) (t : Table) → torn_in v r ≡ r → r.candidates ≡ cs → torn_all v (keep r cs t) ≡ keep r cs (torn_all v t)
unfolding keep torn_all
torn-keep v r [] t e c = refl
torn-keep v r (x ∷ cs) t e c = ap (λ (y : Request). keep y y.candidates (torn_all v t)) e ∙ ap (λ (y : List Candidate). keep r y (torn_all v t)) c

-- ---- one key, and the one pass

pub absent-bare : (k : Key) (lo : ℕ) (t : Table) → place k < lo → Ordered lo t → is_some (at k t).«package» ≡ true → ⊥
absent-bare k lo t h o e = let z : ◌≡◌ {A = Bool} false true = ap (λ (r : Request). is_some r.«package») (sym (at_absent k lo t h o)) ∙ e in never z

pub torn_step : (k : Key) (v lo : ℕ) (t : Table) → Ordered lo t → All Lawful t → is_some (at k t).«package» ≡ true → torn_all v (change k (quit v) t) ≡ torn_all v t
unfolding change at torn_all
torn_step k v lo [] o l e = never e
torn_step k v lo (q ∷ t) o l e =
    elim (test (ltb (place k) (place q.key))) [
      | inl a ↦ absurd (absent-bare k (place q.key) (q ∷ t) (ltb-true _ _ a) (omega arith, o.1, o.2) e)
      | inr a ↦ rw a (elim (test (eqb (place k) (place q.key))) [
        | inl d ↦ let p : is_some q.«package» ≡ true = rw d at e in
            rw d (torn-keep v (quit v q) (quit v q).candidates t (quit-torn v q l.0 p) refl ∙ ap (λ (y : Request). keep y y.candidates (torn_all v t)) (sym (torn-yes v q p)))
        | inr d ↦ rw d (ap (λ (x : Table). keep (torn_in v q) (torn_in v q).candidates x) (torn_step k v (suc (place q.key)) t o.2 l.1 (rw d at e)))
      ])
    ]

pub keys-keep : (r : Request) (cs : List Candidate) (t : Table) → r.«package» ≡ none → package_keys (keep r cs t) ≡ package_keys t
unfolding keep package_keys
keys-keep r [] t e = refl
keys-keep r (c ∷ cs) t e = rw e

pub cons_some : {X : Type 0} {k : Key} {ks : List Key} → k ∷ ks ≡ [] → X
cons_some e = let z : ◌≡◌ {A = ℕ} 1 0 = ap (λ (l : List Key). one_if l) e in absurd (omega arith)
  where
    one_if : List Key → ℕ
    one_if [] = 0
    one_if (k ∷ l) = 1

-- no package: nothing goes
pub torn_none : (v : ℕ) (t : Table) → All Filled t → package_keys t ≡ [] → torn_all v t ≡ t
unfolding package_keys torn_all
torn_none v [] f e = refl
torn_none v (q ∷ t) f e =
    elim (test (is_some q.«package»)) [
      | inl p ↦ cons_some (rw p at e)
      | inr p ↦ rw p (keep-filled q q.candidates (torn_all v t) f.0 ∙ ap (λ (x : Table). q ∷ x) (torn_none v t f.1 (rw p at e)))
    ]

-- ---- the machine: the keys of packages, ascending

keys-low : (low lo : ℕ) (t : Table) → low ≤ lo → Ordered lo t → Each (λ k. low ≤ place k) (package_keys t)
unfolding package_keys
keys-low low lo [] h o = tt
keys-low low lo (q ∷ t) h o =
    let rest = keys-low low (suc (place q.key)) t (omega (arith, o.0)) o.2 in
    elim (test (is_some q.«package»)) [
      | inl p ↦ rw p (omega (arith, o.0), rest)
      | inr p ↦ rw p rest
    ]

pub keys_from : (lo : ℕ) (t : Table) → Ordered lo t → Each (λ k. lo ≤ place k) (package_keys t)
keys_from lo t o = keys-low lo lo t (omega arith) o
