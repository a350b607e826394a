-- Changes at two keys may be made in either order; so an owner with nothing to announce may wait to be cut with the other keys.
use Prim.Native.Nat.{ℕ, suc, ◌+◌, ◌≤◌, ◌<◌}
use mathlib.Core.Path.{◌≡◌, refl, sym, ap, subst, ◌∙◌}
use mathlib.Core.Logic.{inl, inr}
use mathlib.Core.Bool.{Bool, true, false}
use mathlib.Core.List.{List, [], ◌∷◌, ◌++◌, map}
use native.Mathlib.Omega.{arith}
use lib.Dec.{eqb}
use Rattle.ident.specs.declared.Kind.{Kind}
use Rattle.ident.specs.declared.Kind.TheVariants.{Txid, Wtxid}
use Rattle.std.specs.Prelude.{if◌then◌else◌}
use Rattle.ident.specs.Number.{top, Key, place, other, txid, wtxid}
use Rattle.machine.specs.Limits.{Limits}
use Rattle.machine.specs.State.{Candidate, Request, Table, Answer, done, with_candidates, unowned, ready_at, owner_is}
use Rattle.machine.specs.Table.{at, change, has, count_in, count, by_under}
use Rattle.machine.specs.Announce.{without, cut}
use Rattle.machine.specs.Fail.{Listed, nothing, left, leaves, releasable, failed, parents_for}
use Rattle.machine.specs.Leave.{is_empty, announce_each, drop_at_key, drop_each}
use Rattle.machine.specs.Sound.{Ordered, All, Filled}
use Rattle.machine.specs.Typed.{Each}
use Rattle.machine.proofs.Tests.{test}
use Rattle.machine.proofs.Table.{ordered-change, filled-change}
use Rattle.machine.proofs.At.{KeepsKey, kept, at_same, at_other, other_place}
use Rattle.machine.proofs.Loosened.{left_key}
use Rattle.machine.proofs.Leaving.{count-has as in-has}
use Rattle.merging.specs.Merges.{Rising}
use Rattle.cutting.specs.Cuts.{cut_at, cut_each}
use Rattle.failing.specs.Changes.{readied}
use Rattle.handing.specs.Hands.{eased}
use Rattle.leaving.specs.Parts.{listed, Unowned, Within}
use Rattle.handing.specs.Hands.{Silent}
use Rattle.leaving.proofs.Segments.{ordered-cut, filled-cut, ordered_each, filled_each, drop_part}
use Rattle.leaving.proofs.Parts.{each_else}
use Rattle.leaving.proofs.Newcomers.{fewer-eased}
use Rattle.requests.proofs.AtHash.{at-hash}
use Rattle.announcing.proofs.Swapping.{change-swap}
use Rattle.failing.proofs.Fusing.{GivesNone, change_fuse, change_same}
use Rattle.failing.proofs.Leaving.{owner_of_lem as owned_of, without-ready}

-- a cut at another key
pub cut-swap : (n : ℕ) (i k : Key) (g : Request → Request) (t : Table) → i.hash < top → k.hash < top → (place i ≡ place k → ⊥) → KeepsKey g → Ordered 0 t → All Filled t
    → cut_at n i (change k g t) ≡ change k g (cut_at n i t)
unfolding cut_at
cut-swap n i k g t si sk d gg o a =
    ap (λ (r : Request). if owner_is n r.owner then change k g t else cut i n (change k g t)) (at_other i k g t gg d)
    ∙ elim (test (owner_is n (at i t).owner)) [
      | inl e ↦ rw e
      | inr e ↦ rw e (change-swap i k (λ q. with_candidates (without n q.candidates) q) g t si sk d (λ r. refl) gg o a)
    ]

-- the cuts of a part, none at that key
pub each_swap : (n lo : ℕ) (ks : List Key) (k : Key) (g : Request → Request) (t : Table) → Rising lo ks → k.hash < top → Each (λ i. place i ≡ place k → ⊥) ks → KeepsKey g → Ordered 0 t → All Filled t
    → cut_each n ks (change k g t) ≡ change k g (cut_each n ks t)
unfolding cut_each
each_swap n lo [] k g t r s d gg o a = refl
each_swap n lo (i ∷ ks) k g t r s d gg o a =
    ap (cut_each n ks) (cut-swap n i k g t r.1 s d.0 gg o a) ∙ each_swap n (suc (place i)) ks k g (cut_at n i t) r.2 s d.1 gg (ordered-cut n i t r.1 o) (filled-cut n i t a)

-- ---- the owner's request, given back in place

abbrev cutf : ℕ → Request → Request
cutf n r = with_candidates (without n r.candidates) r

ready_none : (now : ℕ) → GivesNone (readied now)
ready_none now r e = ap (map (ready_at now)) e

cut_none : (n : ℕ) → GivesNone (cutf n)
unfolding without
cut_none n r e = ap (without n) e

left_owned : (n now : ℕ) (r : Request) → owner_is n r.owner ≡ true → cutf n (readied now (unowned r)) ≡ left n now r
unfolding left
left_owned n now r e = rw (e, without-ready n now r.candidates)

-- cut after it, this is what the owner leaves
cut_given : (n now : ℕ) (k : Key) (t : Table) → Ordered 0 t → owner_is n (at k t).owner ≡ true → cut k n (change k (readied now) (change k unowned t)) ≡ change k (left n now) t
cut_given n now k t o e =
    ap (cut k n) (change_fuse k unowned (readied now) 0 t (λ r. refl) (ready_none now) o)
    ∙ change_fuse k (λ r. readied now (unowned r)) (cutf n) 0 t (λ r. refl) (cut_none n) o
    ∙ change_same k (λ r. cutf n (readied now (unowned r))) (left n now) 0 t o (left_owned n now (at k t) e)

kept_free : (n : ℕ) (k : Key) (r : Request) (cs : List Candidate) → owner_is n r.owner ≡ false → owner_is n (kept k r cs).owner ≡ false
kept_free n k r [] e = refl
kept_free n k r (c ∷ cs) e = e

module _ (n now : ℕ) (k : Key) (t : Table) (s : k.hash < top) (o : Ordered 0 t) (a : All Filled t) where
  abbrev x : Table
  x = change k (readied now) (change k unowned t)

  ox : Ordered 0 x
  ox = ordered-change k (readied now) 0 (change k unowned t) (λ r. refl) (omega arith) s (ordered-change k unowned 0 t (λ r. refl) (omega arith) s o)

  ax : All Filled x
  ax = filled-change k (readied now) (change k unowned t) (filled-change k unowned t a)

  free : owner_is n (at k (eased n now k t)).owner ≡ false
  free =
      ap (λ (r : Request). owner_is n r.owner) (at_other k (other k) (left n now) x (left_key n now) (λ z. other_place k s (sym z)) ∙
      ap (at k) (change_fuse k unowned (readied now) 0 t (λ r. refl) (ready_none now) o) ∙ at_same k (λ r. readied now (unowned r)) 0 t (λ r. refl) o)
      ∙ kept_free n k (readied now (unowned (at k t))) (map (ready_at now) (at k t).candidates) refl

  pub eased-cut : owner_is n (at k t).owner ≡ true → cut_at n k (eased n now k t) ≡ leaves k n now t
  unfolding cut_at
  eased-cut e =
      ap (λ (b : Bool). if b then eased n now k t else cut k n (eased n now k t)) free
      ∙ change-swap k (other k) (cutf n) (left n now) x s s (λ z. other_place k s (sym z)) (λ r. refl) (left_key n now) ox ax
      ∙ ap (change (other k) (left n now)) (cut_given n now k t o e)

-- ---- and it may wait

eased-swap : (n now lo : ℕ) (ks : List Key) (k : Key) (t : Table) → Rising lo ks → k.hash < top → Each (λ i. place i ≡ place k → ⊥) ks → Each (λ i. place i ≡ place (other k) → ⊥) ks
    → Ordered 0 t → All Filled t
    → cut_each n ks (eased n now k t) ≡ eased n now k (cut_each n ks t)
eased-swap n now lo ks k t r s d d' o a =
    each_swap n lo ks (other k) (left n now) (change k (readied now) (change k unowned t)) r s d' (left_key n now) (ox n now k t s o a) (ax n now k t s o a)
    ∙ ap (change (other k) (left n now)) (each_swap n lo ks k (readied now) (change k unowned t) r s d (λ q. refl) (ordered-change k unowned 0 t (λ q. refl) (omega arith) s o)
    (filled-change k unowned t a) ∙ ap (change k (readied now)) (each_swap n lo ks k unowned t r s d (λ q. refl) o a))

each_last : (n : ℕ) (ks : List Key) (k : Key) (t : Table) → cut_each n (ks ++ (k ∷ [])) t ≡ cut_at n k (cut_each n ks t)
unfolding cut_each
each_last n [] k t = refl
each_last n (i ∷ ks) k t = each_last n ks k (cut_at n i t)

-- who left was the only candidate
left_alone : (n now : ℕ) (k : Key) (t : Table) → k.hash < top → Ordered 0 t → without n (at k t).candidates ≡ [] → (at k (leaves k n now t)).candidates ≡ []
left_alone n now k t s o e =
    ap (λ (r : Request). r.candidates) (at_other k (other k) (left n now) (change k (left n now) t) (left_key n now) (λ z. other_place k s (sym z)) ∙ at_same k (left n now) 0 t (left_key n now) o)
    ∙ ap (λ (cs : List Candidate). (kept k (left n now (at k t)) cs).candidates) (gone ∙ ap (map (ready_at now)) e)
  where
    gone : (left n now (at k t)).candidates ≡ map (ready_at now) (without n (at k t).candidates)
    gone = unfold left in refl

-- dropped where there is nothing to announce
drop-plain : (m : Limits) (n now : ℕ) (k : Key) (t : Table) → k.hash < top → Ordered 0 t → owner_is n (at k t).owner ≡ true → releasable n (at k t) ≡ true → Silent n (at k t)
    → drop_at_key m n now k t ≡ nothing (leaves k n now t)
unfolding drop_at_key
drop-plain m n now k t s o w e h =
    ap (λ (b : Bool). if b then announced (parents_for n (at k t)) (at k (failed k n now t).table).candidates (failed k n now t).table else nothing (cut k n t)) w
    ∙ ap (λ (a : Answer). announced (parents_for n (at k t)) (at k a.table).candidates a.table) (went e)
    ∙ silent h
  where
    announced : List ℕ → List Candidate → Table → Listed
    announced hs cs x = announce_each m now hs (if is_empty hs then [] else cs) x

    went : releasable n (at k t) ≡ true → failed k n now t ≡ done (leaves k n now t)
    went q = unfold failed in rw q

    nobody : (hs : List ℕ) (b : Bool) (x : Table) → announce_each m now hs (if b then [] else []) x ≡ nothing x
    nobody hs true x = unfold announce_each in refl
    nobody hs false x = unfold announce_each in refl

    silent : Silent n (at k t) → announced (parents_for n (at k t)) (at k (leaves k n now t)).candidates (leaves k n now t) ≡ nothing (leaves k n now t)
    silent (inl z) = ap (λ (hs : List ℕ). announced hs (at k (leaves k n now t)).candidates (leaves k n now t)) z ∙ nobody [] true (leaves k n now t)
    silent (inr z) =
        ap (λ (cs : List Candidate). announced (parents_for n (at k t)) cs (leaves k n now t)) (left_alone n now k t s o z)
        ∙ nobody (parents_for n (at k t)) (is_empty (parents_for n (at k t))) (leaves k n now t)

drop_next : (m : Limits) (n now : ℕ) (k : Key) (js : List Key) (t x : Table) → drop_at_key m n now k t ≡ nothing x → drop_each m n now (k ∷ js) t ≡ drop_each m n now js x
unfolding drop_each
drop_next m n now k js t x e = ap (λ (a : Listed). after a) e
  where
    after : Listed → Listed
    after a = record { keys = a.keys ++ (drop_each m n now js a.table).keys; table = (drop_each m n now js a.table).table }

-- an owned key that has nothing to announce and no Enqueued package waits with the others: it forces no pass of its own
pub drop-eased : (m : Limits) (n now lo : ℕ) (ks : List Key) (k : Key) (js : List Key) (t : Table) → Rising lo ks → Unowned n t ks → listed k ks ≡ false → k.hash < top
    → Each (λ i. place i ≡ place k → ⊥) ks → Each (λ i. place i ≡ place (other k) → ⊥) ks → Ordered 0 t → All Filled t → releasable n (at k t) ≡ true → Silent n (at k t)
    → drop_each m n now (ks ++ (k ∷ js)) t ≡ drop_each m n now js (cut_each n (ks ++ (k ∷ [])) (eased n now k t))
drop-eased m n now lo ks k js t r u l s d d' o a e h =
    let t₁ = cut_each n ks t in
    let here : at k t₁ ≡ at k t = each_else n k ks t l in
    let e₁ : releasable n (at k t₁) ≡ true = ap (releasable n) here ∙ e in
    let h₁ : Silent n (at k t₁) = subst (Silent n) (sym here) h in
    let w₁ = owned_of n (at k t₁) e₁ in
    drop_part m n now lo ks (k ∷ js) t r u
    ∙ drop_next m n now k js t₁ (leaves k n now t₁) (drop-plain m n now k t₁ s (ordered_each n lo ks t r o) w₁ e₁ h₁)
    ∙ ap (drop_each m n now js)
    (sym (each_last n ks k (eased n now k t) ∙ ap (cut_at n k) (eased-swap n now lo ks k t r s d d' o a) ∙ eased-cut n now k t₁ s (ordered_each n lo ks t r o) (filled_each n ks t a) w₁))

-- what the loop keeps: the key waits with the others, and no key came in
pub eased-unowned : (n now : ℕ) (ks : List Key) (k : Key) (t : Table) → k.hash < top → Each (λ i. place i ≡ place k → ⊥) ks → Each (λ i. place i ≡ place (other k) → ⊥) ks → Ordered 0 t
    → All Filled t → Unowned n t ks → Unowned n (eased n now k t) (ks ++ (k ∷ []))
eased-unowned n now [] k t s d d' o a u = (free n now k t s o a, tt)
eased-unowned n now (i ∷ ks) k t s d d' o a u = (
  ap (λ (r : Request). owner_is n r.owner) (at_other i (other k) (left n now) (change k (readied now) (change k unowned t)) (left_key n now) d'.0 ∙
      at_other i k (readied now) (change k unowned t) (λ r. refl) d.0 ∙ at_other i k unowned t (λ r. refl) d.0) ∙ u.0,
  eased-unowned n now ks k t s d.1 d'.1 o a u.1,
)

pub within-eased : (n lo now : ℕ) (ks : List Key) (k : Key) (t : Table) → k.hash < top → Ordered 0 t → Within n lo ks t → Within n lo ks (eased n now k t)
within-eased n lo now ks k t s o v = record { known = λ j z l h. v.known j z l ((fewer-eased n lo now k t s o).had j z l h) }

-- ---- "a connection at most once over both kinds of a hash": no other of its keys has the hash

pub not_both : (n : ℕ) (k : Key) (t : Table) → k.hash < top → Ordered 0 t → count (by_under n k.hash) t ≤ 1 → has n (at k t).candidates ≡ true → has n (at (other k) t).candidates ≡ true → ⊥
not_both n k t s o once a b = go k.kind refl
  where
    both : count (by_under n k.hash) t ≡ count_in (λ m. eqb m n) (at (txid k.hash) t).candidates + count_in (λ m. eqb m n) (at (wtxid k.hash) t).candidates
    both = at-hash k.hash s (λ m. eqb m n) 0 t o

    go : (x : Kind) → k.kind ≡ x → ⊥
    go Txid e =
        let q : k ≡ txid k.hash = λ i. record { kind = e i; hash = k.hash } in
        let a₁ = in-has n (at (txid k.hash) t).candidates (ap (λ (j : Key). has n (at j t).candidates) (sym q) ∙ a) in
        let b₁ = in-has n (at (wtxid k.hash) t).candidates (ap (λ (j : Key). has n (at (other j) t).candidates) (sym q) ∙ b) in
        omega (arith, both)
    go Wtxid e =
        let q : k ≡ wtxid k.hash = λ i. record { kind = e i; hash = k.hash } in
        let a₁ = in-has n (at (wtxid k.hash) t).candidates (ap (λ (j : Key). has n (at j t).candidates) (sym q) ∙ a) in
        let b₁ = in-has n (at (txid k.hash) t).candidates (ap (λ (j : Key). has n (at (other j) t).candidates) (sym q) ∙ b) in
        omega (arith, both)
