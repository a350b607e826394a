-- Where no candidate can be evicted, none can be once an owner has failed.
use Prim.Native.Nat.{ℕ, ◌≤◌, ◌<◌}
use mathlib.Core.Path.{◌≡◌, refl, sym, ap, subst, ◌∙◌}
use mathlib.Core.Logic.{inl, inr}
use mathlib.Core.Bool.{Bool, true, false, ◌&&◌, ◌||◌}
use mathlib.Core.List.{List, [], ◌∷◌, ◌++◌, map}
use mathlib.Core.Option.{Option, none, some}
use native.Mathlib.Omega.{arith}
use lib.Dec.{eqb}
use borrow.Author.Tests.{eqb-true, eqb-false, eq-eqb, ne_eqb}
use Rattle.ident.specs.Number.{top, Key, other}
use Rattle.machine.specs.Limits.{Limits}
use Rattle.machine.specs.State.{Candidate, Entry, Owner, Request, Table, Answer, blank, with_candidates, unowned, ready_at, owner_is}
use Rattle.machine.specs.Table.{at, change, one, by_under, count_in}
use Rattle.machine.specs.Announce.{without, victims_in, victims, anywhere}
use Rattle.machine.specs.Fail.{releasable, left, leaves, failed}
use Rattle.machine.specs.Sound.{All, Bounded}
use Rattle.machine.specs.Typed.{Each}
use Rattle.machine.proofs.At.{at_other, other_place}
use Rattle.machine.proofs.Loosened.{left_key}
use Rattle.machine.proofs.Table.{at_key, all_at, all_change, ordered-change, total-change}
use Rattle.machine.proofs.Tests.{test, by_test}
use Rattle.parenting.specs.Displacing.{Spent}
use Rattle.parenting.proofs.Spent.{cons-nil, none_left, none_right}

-- ---- request by request

abbrev pub Quiet : Request → Type 0
Quiet r = victims_in r r.candidates ≡ []

pub spent_all : (t : Table) → Spent t → All Quiet t
unfolding victims
spent_all [] s = tt
spent_all (r ∷ t) s =
    (none_left (victims_in r r.candidates) (victims anywhere t) s, spent_all t (none_right (victims_in r r.candidates) (victims anywhere t) s))

pub all_spent : (t : Table) → All Quiet t → Spent t
unfolding victims
all_spent [] a = refl
all_spent (r ∷ t) a = ap (λ (l : List Entry). l ++ victims anywhere t) a.0 ∙ all_spent t a.1

-- a candidate is preferred, or owns the request
abbrev pub Stays : Option Owner → Candidate → Type 0
Stays o c = (c.preferred || owner_is c.connection o) ≡ true

pub each_stays : (r : Request) (cs : List Candidate) → victims_in r cs ≡ [] → Each (Stays r.owner) cs
unfolding victims_in
each_stays r [] e = tt
each_stays r (c ∷ cs) e =
    elim (test (c.preferred || owner_is c.connection r.owner)) [
      | inl h ↦ (h, each_stays r cs (rw h at e))
      | inr h ↦ absurd (cons-nil (record { key = r.key; candidate = c }) (victims_in r cs) (rw h at e))
    ]

pub stays_none : (r : Request) (cs : List Candidate) → Each (Stays r.owner) cs → victims_in r cs ≡ []
unfolding victims_in
stays_none r [] a = refl
stays_none r (c ∷ cs) a = rw a.0 (stays_none r cs a.1)

-- ---- one goes

or_rest : (a b : Bool) → (a || b) ≡ true → b ≡ false → (a || false) ≡ true
or_rest true b e d = refl
or_rest false b e d = sym d ∙ e

module _ (n now : ℕ) where
  readied-stay : (o : Option Owner) (cs : List Candidate) → Each (Stays o) cs → Each (Stays o) (map (ready_at now) cs)
  readied-stay o [] a = tt
  readied-stay o (c ∷ cs) a = (a.0, readied-stay o cs a.1)

  others-stay : (o : Option Owner) (cs : List Candidate) → Each (Stays o) cs → Each (Stays o) (map (ready_at now) (without n cs))
  unfolding without
  others-stay o [] a = tt
  others-stay o (c ∷ cs) a = elim (test (eqb c.connection n)) [ inl e ↦ rw e (readied-stay o cs a.1) | inr e ↦ rw e (a.0, others-stay o cs a.1) ]

  -- who owned it was n
  freed : (o : Option Owner) (c : Candidate) → owner_is n o ≡ true → eqb c.connection n ≡ false → Stays o c → Stays none c
  freed none c own d s = s
  freed (some w) c own d s =
      or_rest c.preferred (eqb w.connection c.connection) s
      (ne_eqb w.connection c.connection (λ z. eqb-false c.connection n d (sym z ∙ eqb-true w.connection n own)))

  all_freed : (o : Option Owner) (cs : List Candidate) → owner_is n o ≡ true → Each (Stays o) cs → count_in (λ x. eqb x n) cs ≡ 0 → Each (Stays none) (map (ready_at now) cs)
  unfolding count_in
  all_freed o [] own a k = tt
  all_freed o (c ∷ cs) own a k =
      elim (test (eqb c.connection n)) [
        | inl e ↦ absurd (omega (arith, ap one e, k))
        | inr e ↦ (freed o c own e a.0, all_freed o cs own a.1 (omega (arith, ap one e, k)))
      ]

  pub once_freed : (o : Option Owner) (cs : List Candidate) → owner_is n o ≡ true → Each (Stays o) cs → count_in (λ x. eqb x n) cs ≤ 1 → Each (Stays none) (map (ready_at now) (without n cs))
  unfolding without count_in
  once_freed o [] own a k = tt
  once_freed o (c ∷ cs) own a k =
      elim (test (eqb c.connection n)) [
        | inl e ↦ rw e (all_freed o cs own a.1 (omega (arith, ap one e, k)))
        | inr e ↦ rw e (freed o c own e a.0, once_freed o cs own a.1 (omega (arith, ap one e, k)))
      ]

  left_quiet : (r : Request) → Quiet r → count_in (λ x. eqb x n) r.candidates ≤ 1 → Quiet (left n now r)
  unfolding left
  left_quiet r q k =
      let a = each_stays r r.candidates q in
      let x = map (ready_at now) (without n r.candidates) in
      by_test (λ (y : Request). Quiet (with_candidates x y)) (owner_is n r.owner)
      (λ e. stays_none (with_candidates x (unowned r)) x (once_freed r.owner r.candidates e a k))
      (λ e. stays_none (with_candidates x r) x (others-stay r.owner r.candidates a))

-- ---- an owner fails

module _ {m : Limits} {Q : ℕ} {t : Table} (n now : ℕ) (b : Bounded m Q t) where
  -- a connection is a candidate at a key at most once
  few_at : (k : Key) → k.hash < top → count_in (λ x. eqb x n) (at k t).candidates ≤ 1
  unfolding count_in
  few_at k small =
      let w : Request → ℕ = λ r. count_in (by_under n k.hash r.key) r.candidates in
      let e : w (at k t) ≡ count_in (λ x. eqb x n) (at k t).candidates =
      ap (λ (j : Key). count_in (by_under n k.hash j) (at k t).candidates) (at_key k 0 t small b.ordered)
      ∙ ap (λ (y : Bool). count_in (λ x. y && eqb x n) (at k t).candidates) (eq-eqb k.hash k.hash refl) in
      let d = total-change w k (λ r. blank k) 0 t refl b.ordered in
      omega (arith, e, d, b.once n k.hash)

  quiet_at : (k : Key) → Spent t → Quiet (at k t)
  quiet_at k s = all_at Quiet k t (unfold victims_in in refl) (spent_all t s)

  pub spent-failed : (k : Key) → k.hash < top → Spent t → Spent (failed k n now t).table
  unfolding failed
  spent-failed k small s =
      let f = left n now in
      let o = ordered-change k f 0 t (left_key n now) (omega arith) small b.ordered in
      let one-gone : All Quiet (change k f t) = all_change Quiet k f 0 t b.ordered (left_quiet n now (at k t) (quiet_at k s) (few_at k small)) (spent_all t s) in
      let e : at (other k) (change k f t) ≡ at (other k) t = at_other (other k) k f t (left_key n now) (other_place k small) in
      let there : Quiet (f (at (other k) (change k f t))) =
      subst (λ (r : Request). Quiet (f r)) (sym e) (left_quiet n now (at (other k) t) (quiet_at (other k) s) (few_at (other k) small)) in
      by_test (λ (a : Answer). Spent a.table) (releasable n (at k t)) (λ _. all_spent (leaves k n now t) (all_change Quiet (other k) f 0 (change k f t) o there one-gone)) (λ _. s)
