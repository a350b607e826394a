-- The cuts of a connection, one after the other, are one pass over the table.
use Prim.Native.Nat.{ℕ, suc, ◌≤◌, ◌<◌}
use mathlib.Core.Path.{◌≡◌, refl, sym, ap, ◌∙◌}
use mathlib.Core.Logic.{inl, inr}
use mathlib.Core.Bool.{Bool, true, false, not, ◌&&◌}
use mathlib.Core.List.{List, [], ◌∷◌}
use native.Mathlib.Omega.{arith}
use Rattle.std.specs.Prelude.{if◌then◌else◌}
use Rattle.ident.specs.Number.{Key, place}
use Rattle.machine.specs.State.{Candidate, Request, Table, with_candidates, owner_is}
use Rattle.machine.specs.Table.{at, keep, has}
use Rattle.machine.specs.Announce.{without, cut}
use Rattle.machine.specs.Leave.{keys_of}
use Rattle.machine.specs.Sound.{Ordered, All, Filled}
use Rattle.machine.specs.Typed.{Each}
use Rattle.machine.proofs.Tests.{test}
use Rattle.machine.proofs.At.{at_here, at_there}
use Rattle.machine.proofs.First.{change_first as change-here, change-later as change-there, keep_some, without-absent as without-none}
use Rattle.package_stages.specs.Dead.{filter}
use Rattle.cutting.specs.Cuts.{cut_at, cut_each, cuts, left_in, quit_all}

-- ---- keys behind a request do not touch it

abbrev pub From : ℕ → List Key → Type 0
From lo ks = Each (λ k. lo ≤ place k) ks

from_weaken : (lo hi : ℕ) (ks : List Key) → lo ≤ hi → From hi ks → From lo ks
from_weaken lo hi [] h f = tt
from_weaken lo hi (k ∷ ks) h f = (omega (arith, f.0), from_weaken lo hi ks h f.1)

pub cut_there : (n : ℕ) (k : Key) (r : Request) (t : Table) → place r.key < place k → cut_at n k (r ∷ t) ≡ r ∷ cut_at n k t
unfolding cut_at
cut_there n k r t l =
    rw (at_there k r t (λ e. omega arith), change-there k (λ q. with_candidates (without n q.candidates) q) r t l)
    (elim (test (owner_is n (at k t).owner)) [ inl e ↦ rw e | inr e ↦ rw e ])

pub each_there : (n : ℕ) (ks : List Key) (r : Request) (t : Table) → From (suc (place r.key)) ks → cut_each n ks (r ∷ t) ≡ r ∷ cut_each n ks t
unfolding cut_each
each_there n [] r t f = refl
each_there n (k ∷ ks) r t f = rw (cut_there n k r t (omega (arith, f.0))) (each_there n ks r (cut_at n k t) f.1)

-- also past one that goes
each_keep : (n : ℕ) (ks : List Key) (r : Request) (cs : List Candidate) (t : Table) → From (suc (place r.key)) ks → cut_each n ks (keep r cs t) ≡ keep r cs (cut_each n ks t)
unfolding keep
each_keep n ks r [] t f = refl
each_keep n ks r (c ∷ cs) t f = each_there n ks r t f

-- ---- the keys of a connection ascend

pub keys_from : (n : ℕ) (p : Key → Bool) (lo : ℕ) (t : Table) → Ordered lo t → From lo (filter p (keys_of n t))
unfolding keys_of filter
keys_from n p lo [] o = tt
keys_from n p lo (r ∷ t) o =
    let rest = from_weaken lo (suc (place r.key)) (filter p (keys_of n t)) (omega (arith, o.0)) (keys_from n p (suc (place r.key)) t o.2) in
    elim (test (has n r.candidates)) [
      | inl e ↦ rw e (elim (test (p r.key)) [ inl d ↦ rw d (o.0, rest) | inr d ↦ rw d rest ])
      | inr e ↦ rw e rest
    ]

-- ---- one request

-- nothing is cut there
same : (n : ℕ) (p : Key → Bool) (r : Request) (t : Table) → Filled r → left_in n p r ≡ r.candidates → keep (with_candidates (left_in n p r) r) (left_in n p r) t ≡ r ∷ t
same n p r t f e = ap (λ (cs : List Candidate). keep (with_candidates cs r) cs t) e ∙ keep_some r r.candidates t f

module _ (n : ℕ) (p : Key → Bool) (r : Request) where
  left_untested : p r.key ≡ false → left_in n p r ≡ r.candidates
  left_untested e = rw e

  left_owned : owner_is n r.owner ≡ true → left_in n p r ≡ r.candidates
  left_owned e = elim (test (p r.key)) [ inl d ↦ rw (d, e) | inr d ↦ rw d ]

  left_cut : p r.key ≡ true → owner_is n r.owner ≡ false → left_in n p r ≡ without n r.candidates
  left_cut d e = rw (d, e)

  left_absent : has n r.candidates ≡ false → left_in n p r ≡ r.candidates
  left_absent h = elim (test (p r.key && not (owner_is n r.owner))) [ inl d ↦ rw d (without-none n r.candidates h) | inr d ↦ rw d ]

-- the first key's cut
cut_here : (n : ℕ) (p : Key → Bool) (r : Request) (t : Table) → Filled r → p r.key ≡ true → cut_at n r.key (r ∷ t) ≡ keep (with_candidates (left_in n p r) r) (left_in n p r) t
unfolding cut_at
cut_here n p r t f d =
    rw (at_here r.key r t refl) (elim (test (owner_is n r.owner)) [
      | inl e ↦ sym (same n p r t f (left_owned n p r e) ∙ sym (over e))
      | inr e ↦ under e ∙ change-here r.key (λ q. with_candidates (without n q.candidates) q) r t refl ∙ sym (ap (λ (cs : List Candidate). keep (with_candidates cs r) cs t) (left_cut n p r d e))
    ])
  where
    over : owner_is n r.owner ≡ true → (if owner_is n r.owner then r ∷ t else cut r.key n (r ∷ t)) ≡ r ∷ t
    over e = rw e

    under : owner_is n r.owner ≡ false → (if owner_is n r.owner then r ∷ t else cut r.key n (r ∷ t)) ≡ cut r.key n (r ∷ t)
    under e = rw e

-- ---- all of them

pub cuts_at_once : (n : ℕ) (p : Key → Bool) (lo : ℕ) (t : Table) → Ordered lo t → All Filled t → cuts n p t ≡ quit_all n p t
unfolding keys_of filter quit_all
cuts_at_once n p lo [] o f = unfold cut_each in refl
cuts_at_once n p lo (r ∷ t) o f =
    let ks = filter p (keys_of n t) in
    let rest = cuts_at_once n p (suc (place r.key)) t o.2 f.1 in
    let past = keys_from n p (suc (place r.key)) t o.2 in
    let untouched : left_in n p r ≡ r.candidates → cut_each n ks (r ∷ t) ≡ keep (with_candidates (left_in n p r) r) (left_in n p r) (quit_all n p t) = λ e.
    each_there n ks r t past ∙ ap (λ (x : Table). r ∷ x) rest ∙ sym (same n p r (quit_all n p t) f.0 e) in
    elim (test (has n r.candidates)) [
      | inl h ↦ rw h (elim (test (p r.key)) [
        | inl d ↦ by_key d (ap (cut_each n ks) (cut_here n p r t f.0 d) ∙ each_keep n ks (with_candidates (left_in n p r) r) (left_in n p r) t past ∙
            ap (keep (with_candidates (left_in n p r) r) (left_in n p r)) rest)
        | inr d ↦ by_none d (untouched (left_untested n p r d))
      ])
      | inr h ↦ rw h (untouched (left_absent n p r h))
    ]
  where
    by_key : p r.key ≡ true → cut_each n (filter p (keys_of n t)) (cut_at n r.key (r ∷ t)) ≡ keep (with_candidates (left_in n p r) r) (left_in n p r) (quit_all n p t)
        → cut_each n (if p r.key then r.key ∷ filter p (keys_of n t) else filter p (keys_of n t)) (r ∷ t) ≡ keep (with_candidates (left_in n p r) r) (left_in n p r) (quit_all n p t)
    by_key d e = ap (λ (b : Bool). cut_each n (if b then r.key ∷ filter p (keys_of n t) else filter p (keys_of n t)) (r ∷ t)) d ∙ first ∙ e
      where
        first : cut_each n (r.key ∷ filter p (keys_of n t)) (r ∷ t) ≡ cut_each n (filter p (keys_of n t)) (cut_at n r.key (r ∷ t))
        first = unfold cut_each in refl

    by_none : p r.key ≡ false → cut_each n (filter p (keys_of n t)) (r ∷ t) ≡ keep (with_candidates (left_in n p r) r) (left_in n p r) (quit_all n p t)
        → cut_each n (if p r.key then r.key ∷ filter p (keys_of n t) else filter p (keys_of n t)) (r ∷ t) ≡ keep (with_candidates (left_in n p r) r) (left_in n p r) (quit_all n p t)
    by_none d e = ap (λ (b : Bool). cut_each n (if b then r.key ∷ filter p (keys_of n t) else filter p (keys_of n t)) (r ∷ t)) d ∙ e
