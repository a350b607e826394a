-- Candidates of a hash: how many, whether a connection comes twice among them, and that they are those of its two keys.
use Prim.Native.Nat.{ℕ, suc, ◌+◌, ◌≤◌, ◌<◌}
use mathlib.Core.Path.{◌≡◌, refl, sym, ap, ◌∙◌}
use mathlib.Core.Logic.{inl, inr}
use mathlib.Core.Bool.{Bool, true, false, not, ◌&&◌}
use mathlib.Core.List.{List, [], ◌∷◌, ◌++◌}
use mathlib.Core.Option.{Option, none, some}
use native.Mathlib.Omega.{arith}
use lib.Dec.{leb, eqb}
use lib.ListN.{length, length-append}
use borrow.Author.Tests.{eqb-true, eqb-false, eq-eqb, ne_eqb, leb-true, le-leb}
use Rattle.ident.specs.declared.Kind.{Kind}
use Rattle.ident.specs.declared.Kind.TheVariants.{Txid, Wtxid}
use Rattle.ident.specs.Number.{base, top, Key, place, txid, wtxid}
use Rattle.machine.specs.State.{Candidate, Owner, Request, Table, blank, is_some}
use Rattle.machine.specs.Table.{at, one, count_in, total, count, owner_in, under, by_under, held_at, owned_at}
use Rattle.machine.specs.Claim.{elem}
use Rattle.machine.specs.Sound.{Ordered}
use Rattle.machine.specs.SoundTest.{no_repeat}
use Rattle.machine.proofs.At.{at_here, at_there}
use Rattle.machine.proofs.Table.{at_absent}
use Rattle.machine.proofs.Tests.{test, never, or_left, or_right}
use Rattle.machine.proofs.SoundTest.{Test, test_and, test_iff}
use Rattle.machine.proofs.Unowned.{no-weight}
use Rattle.heavy.specs.Streams.{connections_of}
use Rattle.listed_requests.specs.Parts.{few_once}

-- ---- a connection comes at most once

abbrev pub is : ℕ → ℕ → Bool
is n m = eqb m n

none_of : (n : ℕ) (cs : List Candidate) → elem n (connections_of cs) ≡ false → count_in (is n) cs ≡ 0
unfolding elem count_in
none_of n [] e = refl
none_of n (c ∷ cs) e =
    let a = or_left (eqb c.connection n) (elem n (connections_of cs)) e in
    omega (arith, ap one a, none_of n cs (or_right (eqb c.connection n) (elem n (connections_of cs)) e))

some_of : (n : ℕ) (cs : List Candidate) → elem n (connections_of cs) ≡ true → 1 ≤ count_in (is n) cs
unfolding elem count_in
some_of n [] e = never e
some_of n (c ∷ cs) e = elim (test (eqb c.connection n)) [
  | inl d ↦ rw d (omega arith)
  | inr d ↦ omega (arith, some_of n cs (rw d at e))
]

abbrev pub Once : List Candidate → Type 0
Once cs = (n : ℕ) → count_in (is n) cs ≤ 1

absent : (b : Bool) → (b ≡ true → ⊥) → not b ≡ true
absent true f = absurd (f refl)
absent false f = refl

not_there : (b : Bool) → not b ≡ true → b ≡ false
not_there true e = sym e
not_there false e = refl

once_holds : (cs : List Candidate) → no_repeat (connections_of cs) ≡ true → Once cs
unfolding no_repeat count_in
once_holds [] e n = omega arith
once_holds (c ∷ cs) e n =
    let x = c.connection in
    let a = not_there (elem x (connections_of cs)) (left (not (elem x (connections_of cs))) (no_repeat (connections_of cs)) e) in
    let i = once_holds cs (right (not (elem x (connections_of cs))) (no_repeat (connections_of cs)) e) n in
    elim (test (eqb x n)) [
      | inl d ↦ let z = rw (eqb-true x n d) at (none_of x cs a) in rw d (omega arith)
      | inr d ↦ rw d (omega arith)
    ]
  where
    left : (a b : Bool) → (a && b) ≡ true → a ≡ true
    left true b e = refl
    left false b e = e

    right : (a b : Bool) → (a && b) ≡ true → b ≡ true
    right true b e = e
    right false b e = never e

once_passes : (cs : List Candidate) → Once cs → no_repeat (connections_of cs) ≡ true
unfolding no_repeat count_in
once_passes [] f = refl
once_passes (c ∷ cs) f =
    let x = c.connection in
    let a = absent (elem x (connections_of cs)) (λ d. omega (arith, f x, some_of x cs d, ap one (eq-eqb x x refl))) in
    rw (a, once_passes cs (λ n. omega (arith, f n)))

pub record FewOnce (most : ℕ) (cs : List Candidate) : Type 0 where
  pub few : length cs ≤ most
  pub once : Once cs

pub test_few : (most : ℕ) (cs : List Candidate) → Test (few_once most cs) (FewOnce most cs)
unfolding few_once
test_few most cs =
    test_iff (test_and (leb (length cs) most) (no_repeat (connections_of cs)) (record { holds = leb-true (length cs) most; passes = le-leb (length cs) most })
    (record { holds = once_holds cs; passes = once_passes cs }))
    (λ p. record { few = p.0; once = p.1 }) (λ f. (f.few, f.once))

pub count-append : (p : ℕ → Bool) (cs ds : List Candidate) → count_in p (cs ++ ds) ≡ count_in p cs + count_in p ds
unfolding count_in
count-append p [] ds = omega arith
count-append p (c ∷ cs) ds = omega (arith, count-append p cs ds)

pub few_front : {most : ℕ} (cs ds : List Candidate) → FewOnce most (cs ++ ds) → FewOnce most cs
few_front cs ds f = record { few = omega (arith, length-append cs ds, f.few); once = λ n. omega (arith, count-append (is n) cs ds, f.once n) }

pub few_back : {most : ℕ} (cs ds : List Candidate) → FewOnce most (cs ++ ds) → FewOnce most ds
few_back cs ds f = record { few = omega (arith, length-append cs ds, f.few); once = λ n. omega (arith, count-append (is n) cs ds, f.once n) }

-- ---- a weight at one hash is that of its two keys

at_none : (k : Key) → at k [] ≡ blank k
unfolding at
at_none k = refl

total_more : (v : Request → ℕ) (r : Request) (t : Table) → total v (r ∷ t) ≡ v r + total v t
unfolding total
total_more v r t = refl

total_none : (v : Request → ℕ) → total v [] ≡ 0
unfolding total
total_none v = refl

module _ (h : ℕ) (small : h < top) (v w : Request → ℕ) (weighs : (r : Request) → r.key.hash ≡ h → v r ≡ w r) (weightless : (r : Request) → (r.key.hash ≡ h → ⊥) → v r ≡ 0)
    (nothing : (k : Key) → w (blank k) ≡ 0) where
  apart : (r : Request) (a b : Kind) → (r.key.hash ≡ h → ⊥) → r.key.hash < top → base a + h ≡ base b + r.key.hash → ⊥
  apart r Txid Txid n l z = n (omega arith)
  apart r Txid Wtxid n l z = omega arith
  apart r Wtxid Txid n l z = omega arith
  apart r Wtxid Wtxid n l z = n (omega arith)

  two_keys : (lo : ℕ) (t : Table) → Ordered lo t → total v t ≡ w (at (txid h) t) + w (at (wtxid h) t)
  two_keys lo [] o = omega (arith, total_none v, ap w (at_none (txid h)), ap w (at_none (wtxid h)), nothing (txid h), nothing (wtxid h))
  two_keys lo (r ∷ t) o = elim (test (eqb r.key.hash h)) [
    | inl e ↦ here r.key.kind refl (eqb-true r.key.hash h e) (two_keys (suc (place r.key)) t o.2)
    | inr e ↦ let n = eqb-false r.key.hash h e in
        let a = ap w (at_there (txid h) r t (apart r Txid r.key.kind n o.1)) in
        let b = ap w (at_there (wtxid h) r t (apart r Wtxid r.key.kind n o.1)) in
        omega (arith, total_more v r t, weightless r n, a, b, two_keys (suc (place r.key)) t o.2)
  ]
    where
      here : (k : Kind) → r.key.kind ≡ k → r.key.hash ≡ h → total v t ≡ w (at (txid h) t) + w (at (wtxid h) t)
          → total v (r ∷ t) ≡ w (at (txid h) (r ∷ t)) + w (at (wtxid h) (r ∷ t))
      here Txid e q i =
          let z : place r.key ≡ h = ap (λ (x : Kind). base x + r.key.hash) e ∙ omega arith in
          let a = ap w (at_here (txid h) r t (omega arith)) in
          let b = ap w (at_there (wtxid h) r t (λ y. omega arith)) in
          let g = ap w (at_absent (txid h) _ t (omega arith) o.2) in
          omega (arith, total_more v r t, weighs r q, a, b, g, nothing (txid h), i)
      here Wtxid e q i =
          let z : place r.key ≡ top + h = ap (λ (x : Kind). base x + r.key.hash) e ∙ omega arith in
          let a = ap w (at_there (txid h) r t (λ y. omega arith)) in
          let b = ap w (at_here (wtxid h) r t (omega arith)) in
          let f = ap w (at_absent (txid h) _ t (omega arith) o.2) in
          let g = ap w (at_absent (wtxid h) _ t (omega arith) o.2) in
          omega (arith, total_more v r t, weighs r q, a, b, f, g, nothing (txid h), nothing (wtxid h), i)

-- ---- the three counts at a hash

pub all_in : (b : Bool) (cs : List Candidate) → b ≡ true → count_in (λ m. b) cs ≡ length cs
unfolding count_in
all_in true [] e = refl
all_in true (c ∷ cs) e = omega (arith, all_in true cs refl)
all_in false cs e = never e

none_in_lem : (b : Bool) (cs : List Candidate) → b ≡ false → count_in (λ m. b) cs ≡ 0
unfolding count_in
none_in_lem false [] e = refl
none_in_lem false (c ∷ cs) e = omega (arith, none_in_lem false cs refl)
none_in_lem true cs e = never (sym e)

those_in : (b : Bool) (p : ℕ → Bool) (cs : List Candidate) → b ≡ true → count_in (λ m. b && p m) cs ≡ count_in p cs
those_in true p cs e = refl
those_in false p cs e = never e

none_those : (b : Bool) (p : ℕ → Bool) (cs : List Candidate) → b ≡ false → count_in (λ m. b && p m) cs ≡ 0
none_those false p cs e = none_in_lem false cs refl
none_those true p cs e = never (sym e)

owner-in : (b : Bool) (o : Option Owner) → b ≡ true → owner_in (λ m. b) o ≡ one (is_some o)
owner-in b none e = refl
owner-in b (some o) e = ap one e

empty-count : (p : ℕ → Bool) → count_in p [] ≡ 0
unfolding count_in
empty-count p = refl

module _ (h : ℕ) (small : h < top) (t : Table) (o : Ordered 0 t) where
  pub held_two : held_at h t ≡ length (at (txid h) t).candidates + length (at (wtxid h) t).candidates
  held_two =
      two_keys h small (λ r. count_in (under h r.key) r.candidates) (λ r. length r.candidates) (λ r e. all_in (eqb r.key.hash h) r.candidates (eq-eqb r.key.hash h e))
      (λ r n. none_in_lem (eqb r.key.hash h) r.candidates (ne_eqb r.key.hash h n)) (λ k. refl) 0 t o

  pub once_two : (n : ℕ) → count (by_under n h) t ≡ count_in (is n) (at (txid h) t).candidates + count_in (is n) (at (wtxid h) t).candidates
  once_two n =
      two_keys h small (λ r. count_in (by_under n h r.key) r.candidates) (λ r. count_in (is n) r.candidates)
      (λ r e. those_in (eqb r.key.hash h) (is n) r.candidates (eq-eqb r.key.hash h e))
      (λ r d. none_those (eqb r.key.hash h) (is n) r.candidates (ne_eqb r.key.hash h d)) (λ k. empty-count (is n)) 0 t o

  pub owned_two : owned_at h t ≡ one (is_some (at (txid h) t).owner) + one (is_some (at (wtxid h) t).owner)
  owned_two =
      two_keys h small (λ r. owner_in (under h r.key) r.owner) (λ r. one (is_some r.owner)) (λ r e. owner-in (eqb r.key.hash h) r.owner (eq-eqb r.key.hash h e))
      (λ r n. no-weight (eqb r.key.hash h) r.owner (ne_eqb r.key.hash h n)) (λ k. refl) 0 t o
