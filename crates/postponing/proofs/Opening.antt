-- A parent at a hash where nobody waits and no owner is to go: what the table says of it can be told from the store as it is.
use Prim.Native.Nat.{ℕ, ◌+◌, ◌≤◌, ◌<◌}
use mathlib.Core.Path.{◌≡◌, refl, sym, ap, subst, ◌∙◌}
use mathlib.Core.Logic.{inl, inr}
use mathlib.Core.Bool.{Bool, true, false, ◌||◌}
use mathlib.Core.List.{List, [], ◌∷◌, ◌++◌}
use native.Mathlib.Omega.{arith}
use lib.Dec.{ltb, leb, eqb}
use borrow.Author.Tests.{le-leb, eqb-true, eq-eqb}
use Rattle.ident.specs.declared.Kind.{Kind}
use Rattle.ident.specs.declared.Kind.TheVariants.{Txid, Wtxid}
use Rattle.ident.specs.Number.{top, Key, txid, wtxid}
use Rattle.machine.specs.Limits.{Limits, max_peer_announcements}
use Rattle.machine.specs.State.{Candidate, Entry, Request, Table, State, limits_of, refused}
use Rattle.machine.specs.Table.{at, has, any, by, under, by_under, count, held, held_by, held_at, is_candidate}
use Rattle.machine.specs.Announce.{victims_in, victims, at_hash, announce_at, request_parent_at}
use Rattle.machine.specs.Fail.{parent_of}
use Rattle.machine.specs.Sound.{Ordered, All, Filled}
use Rattle.machine.proofs.Table.{all_at, at_key}
use Rattle.machine.proofs.Tests.{test, or_left, or_right}
use Rattle.requests.proofs.Holding.{either-kind}
use Rattle.announcing.specs.Answers.{one_parent}
use Rattle.announcing.proofs.Deciding.{when-barred, when-crowded}
use Rattle.gathering.specs.Waits.{pushes, waits, Admits}
use Rattle.gathering.proofs.Waiting.{held_beside, at_beside, candidate_beside}
use Rattle.gathering.proofs.Elsewhere.{at_pushes}
use Rattle.parenting.specs.Waiting.{keys_of}
use Rattle.parenting.specs.Displacing.{Spent}
use Rattle.parenting.proofs.Marking.{at_marks, count-marks, entries-else}
use Rattle.parenting.proofs.Spent.{none_left, none_right, evicting_none, spent_left}
use Rattle.postponing.specs.Silent.{dropped_all}
use Rattle.postponing.specs.Pending.{Pending, Open}
use Rattle.postponing.proofs.DroppedCounts.{fewer_dropped, txid_stays, wtxid_stays, held_stays, candidate_stays}
use Rattle.postponing.proofs.Starting.{each_at, pending_sound}

-- ---- nobody at a hash can be evicted

-- none of a request's candidates can
abbrev Quiet : Request → Type 0
Quiet r = victims_in r r.candidates ≡ []

abbrev QuietAt : ℕ → Request → Type 0
QuietAt h r = eqb r.key.hash h ≡ true → Quiet r

quiet_all : (h : ℕ) (t : Table) → victims (at_hash h) t ≡ [] → All (QuietAt h) t
unfolding victims
quiet_all h [] e = tt
quiet_all h (r ∷ t) e = elim (test (eqb r.key.hash h)) [
  | inl q ↦ let x : victims_in r r.candidates ++ victims (at_hash h) t ≡ [] = rw q at e in
      (λ _. none_left (victims_in r r.candidates) (victims (at_hash h) t) x, quiet_all h t (none_right (victims_in r r.candidates) (victims (at_hash h) t) x))
  | inr q ↦ let x : victims (at_hash h) t ≡ [] = rw q at e in (λ z. absurd (true-not-false (sym z ∙ q)), quiet_all h t x)
]
  where
    true-not-false : ◌≡◌ {A = Bool} true false → ⊥
    true-not-false z = cc

all_quiet : (h : ℕ) (t : Table) → All (QuietAt h) t → victims (at_hash h) t ≡ []
unfolding victims
all_quiet h [] a = refl
all_quiet h (r ∷ t) a = elim (test (eqb r.key.hash h)) [
  | inl q ↦ rw (q, a.0 q) (all_quiet h t a.1)
  | inr q ↦ rw q (all_quiet h t a.1)
]

-- it is told by the requests at its two keys
none_at : (h : ℕ) → h < top → (t t' : Table) → Ordered 0 t → Ordered 0 t' → at (txid h) t' ≡ at (txid h) t → at (wtxid h) t' ≡ at (wtxid h) t
    → victims (at_hash h) t ≡ [] → victims (at_hash h) t' ≡ []
none_at h s t t' o o' a b e =
    all_quiet h t' (each_at (QuietAt h) 0 t' o' (λ k q. unfold victims_in in refl)
    (λ k l q. here k k.kind refl l (sym (ap (λ (j : Key). j.hash) (at_key k 0 t' l o')) ∙ eqb-true (at k t').key.hash h q)))
  where
    there : (k : Key) → k.hash < top → k.hash ≡ h → at k t' ≡ at k t → Quiet (at k t')
    there k l z c =
        subst Quiet (sym c)
        (all_at (QuietAt h) k t (λ y. unfold victims_in in refl) (quiet_all h t e) (ap (λ (j : Key). eqb j.hash h) (at_key k 0 t l o) ∙ eq-eqb k.hash h z))

    here : (k : Key) (x : Kind) → k.kind ≡ x → k.hash < top → k.hash ≡ h → Quiet (at k t')
    here k Txid e l z = let p : k ≡ txid h = (λ i. record { kind = e i; hash = z i }) in there k l z (ap (λ (j : Key). at j t') p ∙ a ∙ ap (λ (j : Key). at j t) (sym p))
    here k Wtxid e l z = let p : k ≡ wtxid h = (λ i. record { kind = e i; hash = z i }) in there k l z (ap (λ (j : Key). at j t') p ∙ b ∙ ap (λ (j : Key). at j t) (sym p))

-- ---- at an open hash

module _ {b w : List ℕ} {d c : ℕ} {st : State} {t : Table} (v : Pending b w d c st t) (h : ℕ) (s : h < top) (x : Open h v) where
  abbrev es : List Entry
  es = v.entries

  abbrev u : Table
  u = dropped_all 0 v.base

  abbrev ordered : Ordered 0 u
  ordered = v.left.bounded.ordered

  abbrev filled : All Filled v.base
  filled = v.sound.bounded.filled

  -- the same stands at its keys
  above : (k : Key) → k.hash < top → waits k.hash es ≡ false → at k t ≡ at k u
  above k l a =
      ap (at k) v.table ∙ at_marks k (keys_of es) (pushes es u) l (entries-else k.hash es v.mixed.ready a) ∙ at_pushes k l es u v.mixed.ready a

  pub txid_same : at (txid h) t ≡ at (txid h) v.base
  txid_same = above (txid h) s x.apart ∙ txid_stays v.base v.sound.bounded.ordered filled h s x.living

  pub wtxid_same : at (wtxid h) t ≡ at (wtxid h) v.base
  wtxid_same = above (wtxid h) s x.apart ∙ wtxid_stays v.base v.sound.bounded.ordered filled h s x.living

  count_all : (q : Key → ℕ → Bool) → count q t ≡ count q (pushes es u)
  count_all q = ap (count q) v.table ∙ count-marks q (keys_of es) (pushes es u)

  held_all : held t ≡ held u + d
  held_all = omega (arith, count_all any, held_beside es u v.mixed.ready ordered, v.mixed.count)

  crowd_all : held_at h t ≡ held_at h v.base
  crowd_all =
      count_all (under h) ∙ at_beside es u v.mixed.ready ordered h x.apart ∙ held_stays v.base v.sound.bounded.ordered filled h s x.living

  module _ (n : ℕ) (new : is_candidate n h v.base ≡ false) where
    new_left : is_candidate n h u ≡ false
    new_left = candidate_stays v.base v.sound.bounded.ordered filled h s x.living n ∙ new

    new_all : is_candidate n h t ≡ false
    new_all = ap (ltb 0) (count_all (by_under n h)) ∙ candidate_beside es u v.mixed.ready ordered h x.apart n ∙ new_left

    module _ (now i : ℕ) where
      abbrev m : Limits
      m = limits_of st

      abbrev offered : Candidate
      offered = parent_of n now h i

      pub open_admits : held v.base + d < st.limit + c → held_at h v.base < m.alternates → held_by n v.base + d < max_peer_announcements → Admits m u es (txid h) offered
      open_admits room spare few = record {
        new = new_left;
        apart = x.apart;
        few = omega (arith, fewer_dropped 0 (by n) v.base, v.mixed.count, few);
        spare = omega (arith, held_stays v.base v.sound.bounded.ordered filled h s x.living, spare);
        room = omega (arith, v.count, v.mixed.count, room);
      }

      -- L are held, and nobody can be evicted
      pub open_spent : st.limit + c ≤ held v.base + d → Spent t → one_parent m n now h i t ≡ refused t
      open_spent full e = spent_left m n now h i t s (pending_sound v).bounded.ordered e new_all (omega (arith, v.count, held_all, full))

      crowded_out : m.alternates ≤ held_at h v.base → victims (at_hash h) v.base ≡ [] → announce_at m (txid h) offered t ≡ refused t
      crowded_out l e =
          let none = none_at h s v.base t v.sound.bounded.ordered (pending_sound v).bounded.ordered txid_same wtxid_same e in
          elim (test (is_candidate n h t || leb max_peer_announcements (held_by n t))) [
            | inl y ↦ when-barred m (txid h) offered t y
            | inr y ↦ when-crowded m (txid h) offered t y (le-leb m.alternates (held_at h t) (omega (arith, crowd_all, l))) refl ∙ evicting_none (txid h) offered t (victims (at_hash h) t) none
          ]

      -- there are as many at the hash as may be, of whom none can be evicted
      pub open_crowded : m.alternates ≤ held_at h v.base → victims (at_hash h) v.base ≡ [] → one_parent m n now h i t ≡ refused t
      unfolding request_parent_at
      open_crowded l e =
          let a = has n (at (txid h) t).candidates in
          let b = has n (at (wtxid h) t).candidates in
          let neither : (a || b) ≡ false = either-kind n h s t (pending_sound v).bounded.ordered ∙ new_all in
          let out = crowded_out l e in
          rw (or_left a b neither, or_right a b neither, out) refl
