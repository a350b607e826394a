-- An owner fails: the same as all candidates beside it made ready first, under both kinds, and then the owner dropped.
use Prim.Native.Nat.{ℕ, ◌+◌, ◌≤◌, ◌<◌}
use mathlib.Core.Path.{◌≡◌, refl, sym, ap, ◌∙◌}
use mathlib.Core.Logic.{inl, inr}
use mathlib.Core.Bool.{Bool, true, false, ◌||◌}
use mathlib.Core.List.{List, map}
use mathlib.Core.Option.{Option, none, some}
use native.Mathlib.Omega.{arith}
use lib.Dec.{eqb}
use borrow.Author.Tests.{eqb-true, eqb-false}
use Rattle.ident.specs.declared.Kind.{Kind}
use Rattle.ident.specs.declared.Kind.TheVariants.{Txid, Wtxid}
use Rattle.ident.specs.Number.{top, Key, place, other, txid, wtxid}
use Rattle.ident.proofs.Places.{place_same as place-inj}
use Rattle.machine.specs.Limits.{Limits}
use Rattle.machine.specs.State.{Candidate, Owner, Package, Request, Table, with_candidates, unowned, ready_at, owner_is, enqueued_in, is_some}
use Rattle.machine.specs.Table.{at, change, has, count_in}
use Rattle.machine.specs.Announce.{without}
use Rattle.machine.specs.Fail.{releasable, left, failed}
use Rattle.machine.specs.Sound.{Ordered, All, Filled, OwnerFits, Bounded}
use Rattle.machine.proofs.At.{at_other, other_place}
use Rattle.machine.proofs.Expired.{owned_once, owner_not as none_owned}
use Rattle.machine.proofs.Loosened.{left_key, owner_some as some-owned}
use Rattle.machine.proofs.Table.{ordered-change, filled-change, lawful_at}
use Rattle.machine.proofs.Tests.{test, never}
use Rattle.machine.proofs.First.{without-absent as without-none}
use Rattle.machine.proofs.Leaving.{count-has as in-has}
use Rattle.store.proofs.Counts.{in_hasnt}
use Rattle.package_stages.specs.Changes.{has_place}
use Rattle.requests.proofs.AtHash.{at-hash}
use Rattle.failing.proofs.Fusing.{GivesNone, change_fuse, change_same}
use Rattle.failing.proofs.Leaving.{without-ready}
use Rattle.failing.specs.Changes.{readied}
use Rattle.announcing.proofs.Swapping.{change-swap}
use Rattle.postponing.specs.Silent.{readied_both, gone}

-- ---- dropping one and readying, in either order

gone-ready : (n now : ℕ) (r : Request) → gone n (readied now r) ≡ readied now (gone n r)
gone-ready n now r = ap (λ (cs : List Candidate). with_candidates cs (unowned r)) (without-ready n now r.candidates)

ready_none : (now : ℕ) → GivesNone (readied now)
ready_none now r e = ap (map (ready_at now)) e

pub gone_none : (n : ℕ) → GivesNone (gone n)
unfolding without
gone_none n r e = ap (without n) e

module _ (n now : ℕ) (k : Key) (sk : k.hash < top) where
  gone-swap : (j : Key) (t : Table) → j.hash < top → Ordered 0 t → All Filled t → change k (gone n) (change j (readied now) t) ≡ change j (readied now) (change k (gone n) t)
  gone-swap j t sj o a = elim (test (eqb (place k) (place j))) [
    | inl e ↦ rw (sym (place-inj k j sk sj (eqb-true (place k) (place j) e)))
        (change_fuse k (readied now) (gone n) 0 t (λ r. refl) (gone_none n) o
        ∙ change_same k (λ r. gone n (readied now r)) (λ r. readied now (gone n r)) 0 t o (gone-ready n now (at k t))
        ∙ sym (change_fuse k (gone n) (readied now) 0 t (λ r. refl) (ready_none now) o))
    | inr e ↦ change-swap k j (gone n) (readied now) t sk sj (eqb-false (place k) (place j) e) (λ r. refl) (λ r. refl) o a
  ]

  pub both_swap : (j : Key) (t : Table) → j.hash < top → Ordered 0 t → All Filled t → change k (gone n) (readied_both now j t) ≡ readied_both now j (change k (gone n) t)
  both_swap j t sj o a =
      gone-swap (other j) (change j (readied now) t) sj (ordered-change j (readied now) 0 t (λ r. refl) (omega arith) sj o) (filled-change j (readied now) t a)
      ∙ ap (change (other j) (readied now)) (gone-swap j t sj o a)

-- ---- one fails

pub owner-has : (n : ℕ) (w : Option Owner) (cs : List Candidate) → owner_is n w ≡ true → OwnerFits w cs → has n cs ≡ true
owner-has n none cs e f = never e
owner-has n (some o) cs e f = ap (λ (m : ℕ). has m cs) (sym (eqb-true o.connection n e)) ∙ f.0

module _ {m : Limits} {Q : ℕ} {t : Table} (now : ℕ) (k : Key) (n : ℕ) (s : k.hash < top) (b : Bounded m Q t) (own : owner_is n (at k t).owner ≡ true) where
  pub here_has : has n (at k t).candidates ≡ true
  here_has = owner-has n (at k t).owner (at k t).candidates own (lawful_at k t b.lawful).owner

  pub other_has : has n (at (other k) t).candidates ≡ false
  other_has = by_kind k.kind refl
    where
      both : count_in (λ i. eqb i n) (at (txid k.hash) t).candidates + count_in (λ i. eqb i n) (at (wtxid k.hash) t).candidates ≤ 1
      both = let e = at-hash k.hash s (λ i. eqb i n) 0 t b.ordered in let l = b.once n k.hash in omega (arith, e, l)

      by_kind : (x : Kind) → k.kind ≡ x → has n (at (other k) t).candidates ≡ false
      by_kind Txid e =
          let q : k ≡ txid k.hash = ap (λ (y : Kind). record { kind = y; hash = k.hash }) e in
          let h = in-has n _ (ap (λ (j : Key). has n (at j t).candidates) (sym q) ∙ here_has) in
          ap (λ (j : Key). has n (at (other j) t).candidates) q ∙ in_hasnt n (at (wtxid k.hash) t).candidates (omega (arith, both, h))
      by_kind Wtxid e =
          let q : k ≡ wtxid k.hash = ap (λ (y : Kind). record { kind = y; hash = k.hash }) e in
          let h = in-has n _ (ap (λ (j : Key). has n (at j t).candidates) (sym q) ∙ here_has) in
          ap (λ (j : Key). has n (at (other j) t).candidates) q ∙ in_hasnt n (at (txid k.hash) t).candidates (omega (arith, both, h))

  other_free : owner_is n (at (other k) t).owner ≡ false
  other_free = none_owned n (at (other k) t).owner (owned_once k s b (some-owned n (at k t).owner own))

  left_here : left n now (at k t) ≡ gone n (readied now (at k t))
  unfolding left
  left_here = rw (own, without-ready n now (at k t).candidates)

  left_there : left n now (at (other k) t) ≡ readied now (at (other k) t)
  unfolding left
  left_there = rw (other_free, without-none n (at (other k) t).candidates other_has)

  pub failed_is : releasable n (at k t) ≡ true → (failed k n now t).table ≡ change k (gone n) (readied_both now k t)
  unfolding failed
  failed_is r =
      let t₁ = change k (left n now) t in
      let o₁ = ordered-change k (left n now) 0 t (left_key n now) (omega arith) s b.ordered in
      let first : t₁ ≡ change k (gone n) (change k (readied now) t) =
      change_same k (left n now) (λ r. gone n (readied now r)) 0 t b.ordered left_here ∙ sym (change_fuse k (readied now) (gone n) 0 t (λ r. refl) (gone_none n) b.ordered) in
      let there : at (other k) t₁ ≡ at (other k) t = at_other (other k) k (left n now) t (left_key n now) (other_place k s) in
      let second : change (other k) (left n now) t₁ ≡ change (other k) (readied now) t₁ =
      change_same (other k) (left n now) (readied now) 0 t₁ o₁ (ap (left n now) there ∙ left_there ∙ ap (readied now) (sym there)) in
      rw r (second ∙ ap (change (other k) (readied now)) first
      ∙ sym (gone-swap n now k s (other k) (change k (readied now) t) s (ordered-change k (readied now) 0 t (λ r. refl) (omega arith) s b.ordered) (filled-change k (readied now) t b.filled)))

-- ---- no place, no package

pub none_packaged : (i : Bool) (q : Option Package) → (i || is_some q) ≡ false → enqueued_in q ≡ false
none_packaged true q e = never (sym e)
none_packaged false (some p) e = never (sym e)
none_packaged false none e = refl

pub calm : (r : Request) → has_place r ≡ false → enqueued_in r.«package» ≡ false
calm r f = none_packaged r.info r.«package» f
