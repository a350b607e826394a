-- A table without the owners whose time is over: what is counted there, who can be evicted there, and what stands at a hash where no owner's time is over.
use Prim.Native.Nat.{ℕ, suc, ◌+◌, ◌≤◌, ◌<◌}
use mathlib.Core.Path.{◌≡◌, refl, sym, ap, ◌∙◌}
use mathlib.Core.Logic.{inl, inr}
use mathlib.Core.Bool.{Bool, false}
use mathlib.Core.List.{List, [], ◌∷◌}
use native.Mathlib.Omega.{arith}
use lib.Dec.{ltb, eqb}
use lib.ListN.{length}
use borrow.Author.Tests.{ltb-true}
use Rattle.ident.specs.Number.{Key, top, place, txid, wtxid}
use Rattle.machine.specs.State.{Candidate, Request, Table, blank}
use Rattle.machine.specs.Table.{at, keep, change, total, count_in, count, held_at, is_candidate}
use Rattle.machine.specs.Sound.{Ordered, All, Filled}
use Rattle.machine.proofs.Change.{without_fewer}
use Rattle.machine.proofs.Table.{at_absent}
use Rattle.machine.proofs.Tests.{test}
use Rattle.requests.proofs.AtHash.{at-hash, held-at}
use Rattle.package_stages.specs.Changes.{has_place, owner_num}
use Rattle.postponing.specs.Silent.{late, dropped_in, dropped_all}
use Rattle.postponing.specs.Pending.{Unplaced, Plain, Living}
use Rattle.postponing.proofs.Dropped.{all_keep, ordered_dropped, at_stays}

-- ---- counts, exactly

count_keep : (q : Key → ℕ → Bool) (r : Request) (cs : List Candidate) (t : Table) → r.candidates ≡ cs → count q (keep r cs t) ≡ count_in (q r.key) r.candidates + count q t
unfolding keep total count_in
count_keep q r [] t e = rw e (let z : count q t ≡ 0 + count q t = omega arith in z)
count_keep q r (c ∷ cs) t e = refl

-- a change at k changes a count by as much as it does at k
pub count_exact : (q : Key → ℕ → Bool) (k : Key) (f : Request → Request) (lo : ℕ) (t : Table) → Ordered lo t
    → count q (change k f t) + count_in (q (at k t).key) (at k t).candidates ≡ count q t + count_in (q (f (at k t)).key) (f (at k t)).candidates
unfolding change at total count_in
count_exact q k f lo [] o = omega (arith, count_keep q (f (blank k)) (f (blank k)).candidates [] refl)
count_exact q k f lo (r ∷ t) o =
    elim (test (ltb (place k) (place r.key))) [
      | inl e ↦ rw (e, at_absent k (place r.key) (r ∷ t) (ltb-true _ _ e) (omega arith, o.1, o.2)) (omega (arith, count_keep q (f (blank k)) (f (blank k)).candidates (r ∷ t) refl))
      | inr e ↦ rw e (elim (test (eqb (place k) (place r.key))) [
        | inl d ↦ rw d (omega (arith, count_keep q (f r) (f r).candidates t refl))
        | inr d ↦ rw d (omega (arith, count_exact q k f (suc (place r.key)) t o.2))
      ])
    ]

module _ (v : ℕ) where
  -- ---- what holds of each request

  pub all_dropped : (P : Request → Type 0) (t : Table) → ((r : Request) → P r → P (dropped_in v r)) → All P t → All P (dropped_all v t)
  unfolding dropped_all
  all_dropped P [] f a = tt
  all_dropped P (r ∷ t) f a = all_keep P (dropped_in v r) (dropped_in v r).candidates (dropped_all v t) refl (λ _. f r a.0) (all_dropped P t f a.1)

  timely_in : (r : Request) → late v (dropped_in v r).owner ≡ false
  timely_in r = elim (test (late v r.owner)) [ inl e ↦ rw e refl | inr e ↦ rw e e ]

  all_timely : (t : Table) → All (λ (r : Request). late v r.owner ≡ false) (dropped_all v t)
  unfolding dropped_all
  all_timely [] = tt
  all_timely (r ∷ t) = all_keep (λ (q : Request). late v q.owner ≡ false) (dropped_in v r) (dropped_in v r).candidates (dropped_all v t) refl (λ _. timely_in r) (all_timely t)

  unplaced_in : (r : Request) → has_place r ≡ false → has_place (dropped_in v r) ≡ false
  unplaced_in r h = elim (test (late v r.owner)) [ inl e ↦ rw e refl | inr e ↦ rw e h ]

  -- ---- no count grows

  fewer_in : (q : ℕ → Bool) (r : Request) → count_in q (dropped_in v r).candidates ≤ count_in q r.candidates
  fewer_in q r = elim (test (late v r.owner)) [ inl e ↦ rw e (without_fewer q (owner_num r.owner) r.candidates) | inr e ↦ rw e (omega arith) ]

  key_in : (r : Request) → (dropped_in v r).key ≡ r.key
  key_in r = elim (test (late v r.owner)) [ inl e ↦ rw e refl | inr e ↦ rw e refl ]

  pub fewer_dropped : (q : Key → ℕ → Bool) (t : Table) → count q (dropped_all v t) ≤ count q t
  unfolding dropped_all total
  fewer_dropped q [] = omega arith
  fewer_dropped q (r ∷ t) =
      let x = dropped_in v r in
      let e : count_in (q x.key) x.candidates ≡ count_in (q r.key) x.candidates = ap (λ (k : Key). count_in (q k) x.candidates) (key_in r) in
      omega (arith, count_keep q x x.candidates (dropped_all v t) refl, e, fewer_in (q r.key) r, fewer_dropped q t)

-- once those have gone nobody's time is over
pub plain_dropped : (t : Table) → Unplaced t → Plain (dropped_all 0 t)
plain_dropped t u = record { timely = all_timely 0 t; unplaced = all_dropped 0 (λ (r : Request). has_place r ≡ false) t (unplaced_in 0) u }

-- ---- at a hash where no owner's time is over

module _ (t : Table) (o : Ordered 0 t) (f : All Filled t) (h : ℕ) (s : h < top) (l : Living t h) where
  pub txid_stays : at (txid h) (dropped_all 0 t) ≡ at (txid h) t
  txid_stays = at_stays 0 (txid h) t f l.0

  pub wtxid_stays : at (wtxid h) (dropped_all 0 t) ≡ at (wtxid h) t
  wtxid_stays = at_stays 0 (wtxid h) t f l.1

  left_ordered : Ordered 0 (dropped_all 0 t)
  left_ordered = ordered_dropped 0 0 t o

  pub held_stays : held_at h (dropped_all 0 t) ≡ held_at h t
  held_stays =
      held-at h s (dropped_all 0 t) left_ordered ∙ ap (λ (r : Request). length r.candidates + length (at (wtxid h) (dropped_all 0 t)).candidates) txid_stays
      ∙ ap (λ (r : Request). length (at (txid h) t).candidates + length r.candidates) wtxid_stays ∙ sym (held-at h s t o)

  pub candidate_stays : (n : ℕ) → is_candidate n h (dropped_all 0 t) ≡ is_candidate n h t
  candidate_stays n =
      let p : ℕ → Bool = λ m. eqb m n in
      ap (ltb 0) (at-hash h s p 0 (dropped_all 0 t) left_ordered ∙ ap (λ (r : Request). count_in p r.candidates + count_in p (at (wtxid h) (dropped_all 0 t)).candidates) txid_stays
      ∙ ap (λ (r : Request). count_in p (at (txid h) t).candidates + count_in p r.candidates) wtxid_stays ∙ sym (at-hash h s p 0 t o))
