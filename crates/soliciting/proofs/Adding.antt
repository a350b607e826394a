-- The parents of a request that has just been opened, put in hash by hash.
use Prim.Native.Nat.{ℕ, ◌+◌, ◌≤◌, ◌<◌, suc}
use mathlib.Core.Path.{◌≡◌, refl, sym, ap, subst, ◌∙◌}
use mathlib.Core.Logic.{inl, inr}
use mathlib.Core.Bool.{true, false}
use mathlib.Core.List.{List, [], ◌∷◌, ◌++◌}
use mathlib.Core.Option.{Option, none, some}
use native.Mathlib.Numerals.{add-one}
use native.Mathlib.Omega.{arith}
use lib.Dec.{ltb, eqb}
use lib.ListN.{length, take, get_or, length-append}
use lib.Seq.{take-suc, take_all, length-take-le}
use borrow.Author.Tests.{ltb-true}
use Rattle.ident.specs.Number.{top, Key, place, wtxid}
use Rattle.machine.specs.Limits.{max_parents}
use Rattle.machine.specs.State.{Candidate, Owner, Request, Table, State, on_table, blank, is_some}
use Rattle.machine.specs.Table.{at, keep, change}
use Rattle.machine.specs.Claim.{elem}
use Rattle.machine.specs.Fail.{dedup}
use Rattle.machine.specs.Sound.{OwnerFits, Ordered, Lawful, Sound}
use Rattle.machine.proofs.Alone.{has_some}
use Rattle.machine.proofs.Fail.{FewHashes, parents-dedup}
use Rattle.machine.proofs.OneKey.{at_changed}
use Rattle.machine.proofs.Table.{at_absent, lawful_at}
use Rattle.machine.proofs.Tests.{test, never}
use Rattle.machine.proofs.First.{keep_some}
use Rattle.store.specs.Image.{Writes}
use Rattle.store.specs.Shown.{Kept}
use Rattle.requests.specs.Changes.{Makes}
use Rattle.package_stages.specs.Changes.{TakesParent, with_parent}
use Rattle.package_stages.proofs.Seeking.{holding}
use Rattle.package_stages.proofs.Sounds.{repacked, sound-beside}
use Rattle.package_stages.proofs.Steps.{change-twice}
use Rattle.announcing.proofs.Listing.{hashes-take}
use Rattle.announcing.proofs.Repeats.{dedup_new, dedup-met}
use Rattle.soliciting.specs.Solicits.{Keeps, Opened, given}

-- ---- a change that leaves its request alone leaves the table alone

change_none : (k : Key) (f : Request → Request) (lo : ℕ) (t : Table) → Ordered lo t → f (at k t) ≡ at k t → 1 ≤ length (at k t).candidates → change k f t ≡ t
unfolding change at
change_none k f lo [] o e h = absurd (omega arith)
change_none k f lo (r ∷ t) o e h = elim (test (ltb (place k) (place r.key))) [
  | inl d ↦ let z = at_absent k (place r.key) (r ∷ t) (ltb-true (place k) (place r.key) d) (omega arith, o.1, o.2) in
      absurd (none_here (subst (λ (x : Request). 1 ≤ length x.candidates) z h))
  | inr d ↦ rw d (elim (test (eqb (place k) (place r.key))) [
    | inl x ↦ rw x (ap (λ (y : Request). keep y y.candidates t) (rw x at e) ∙ keep_some r r.candidates t (rw x at h))
    | inr x ↦ rw x (ap (λ (y : Table). r ∷ y) (change_none k f (suc (place r.key)) t o.2 (rw x at e) (rw x at h)))
  ])
]
  where
    none_here : 1 ≤ length (blank k).candidates → ⊥
    none_here l = omega arith

-- ---- a request with these parents

held_some : (o : Option Owner) (cs : List Candidate) → is_some o ≡ true → OwnerFits o cs → 1 ≤ length cs
held_some none cs e f = never e
held_some (some o) cs e f = has_some o.connection cs f.0

module _ (h : ℕ) (small : h < top) where
  abbrev k : Key
  k = wtxid h

  abbrev Open : Table → Type 0
  Open t = Opened (at k t)

  module _ (st : State) (s : Sound st) (p : Open st.table) where
    abbrev q : Request
    q = at k st.table

    l : Lawful q
    l = lawful_at k st.table s.bounded.lawful

    cands : 1 ≤ length q.candidates
    cands = held_some q.owner q.candidates (holding q l p.held).owner l.owner

    module _ (hs : List ℕ) (f : FewHashes hs) where
      abbrev after : State
      after = on_table (change k (given (dedup hs)) st.table) st

      after-sound : Sound after
      after-sound =
          sound-beside st s k small (given (dedup hs)) (λ r. refl) (record { key = refl; candidates = refl; owner = refl; fallback = refl })
          (record {
            candidates = l.candidates;
            owner = l.owner;
            packed = repacked q.key.kind q.owner q.info q.«package» q.parents (dedup hs) p.held l.packed;
            parents = parents-dedup hs f;
            mark = l.mark;
          }) (omega (arith, s.bounded.room))

      after-takes : length (dedup hs) < max_parents → TakesParent (at k after.table)
      after-takes e = rw (at_changed k (given (dedup hs)) st.table (λ r. refl) s.bounded.ordered cands) (record { held = p.held; few = e })

  -- the parents are the hashes hs, from the bytes b₀ on
  abbrev Adds : List ℕ → List ℕ → List ℕ → Type 0
  Adds b₀ b hs = Makes b₀ b Open (change k (given (dedup hs)))

  adds_none : (b : List ℕ) → Adds b b []
  unfolding dedup
  adds_none b st s w p =
      let e : given [] (at k st.table) ≡ at k st.table = rw (sym p.bare) refl in
      subst (λ (t : Table). Writes b (on_table t st)) (sym (change_none k (given []) 0 st.table s.bounded.ordered e (cands st s p))) w

  adds_kept : {b₀ b : List ℕ} (hs : List ℕ) → FewHashes hs → Adds b₀ b hs → Keeps b₀ Open → Kept b
  adds_kept hs f a g =
      let x = g.holds in
      record { state = after g.state g.sound x hs f; sound = after-sound g.state g.sound x hs f; writes = a g.state g.sound g.writes x }

  adds_repeat : {b₀ b : List ℕ} (hs : List ℕ) (x : ℕ) → elem x hs ≡ true → Adds b₀ b hs → Adds b₀ b (hs ++ (x ∷ []))
  adds_repeat {b₀} {b} hs x e a st s w p = subst (λ (ps : List ℕ). Writes b (on_table (change k (given ps) st.table) st)) (sym (dedup-met x hs e)) (a st s w p)

  adds_more : {b₀ b b₁ : List ℕ} (hs : List ℕ) (x : ℕ) → FewHashes hs → FewHashes (hs ++ (x ∷ [])) → elem x hs ≡ false → Adds b₀ b hs
      → Makes b b₁ (λ t. TakesParent (at k t)) (change k (with_parent x)) → Adds b₀ b₁ (hs ++ (x ∷ []))
  adds_more {b₀} {b} {b₁} hs x f g e a m st s w p =
      let few : length (dedup hs ++ (x ∷ [])) ≤ max_parents = rw (dedup_new x hs e) at (parents-dedup (hs ++ (x ∷ [])) g).few in
      let r = m (after st s p hs f) (after-sound st s p hs f) (a st s w p) (after-takes st s p hs f (omega (arith, length-append (dedup hs) (x ∷ [])))) in
      subst (λ (t : Table). Writes b₁ (on_table t st)) (change-twice k (given (dedup hs)) (with_parent x) (λ r. refl) 0 st.table s.bounded.ordered (cands st s p) ∙
      ap (λ (ps : List ℕ). change k (given ps) st.table) (sym (dedup_new x hs e))) r

-- ---- by index

-- the loop's invariant: the first i of the hashes hs are parents
pub record Added (h : ℕ) (hs s₀ s : List ℕ) (i : ℕ) : Type 0 where
  pub inside : i ≤ length hs
  pub long : length s ≡ length s₀
  pub adds : Makes s₀ s (λ t. Opened (at (wtxid h) t)) (change (wtxid h) (given (dedup (take i hs))))

pub added_as : {h i : ℕ} {hs s₀ s s' : List ℕ} → s' ≡ s → Added h hs s₀ s i → Added h hs s₀ s' i
added_as e v = rw e v

module _ (h : ℕ) (small : h < top) (hs : List ℕ) where
  pub added_start : (s : List ℕ) → Added h hs s s 0
  added_start s = record { inside = omega arith; long = refl; adds = adds_none h small s }

  module _ {s₀ s : List ℕ} {i : ℕ} (v : Added h hs s₀ s i) where
    pub added_done : i ≡ length hs → Makes s₀ s (λ t. Opened (at (wtxid h) t)) (change (wtxid h) (given (dedup hs)))
    added_done e = rw (e, take_all (length hs) hs (omega arith)) at v.adds

    module _ (f : FewHashes hs) where
      first : (j : ℕ) → j ≤ length hs → FewHashes (take j hs)
      first j l = record { hashes = hashes-take j hs f.hashes; few = omega (arith, f.few, length-take-le j hs l) }

      pub added_kept : Keeps s₀ (λ t. Opened (at (wtxid h) t)) → Kept s
      added_kept g = adds_kept h small (take i hs) (first i v.inside) v.adds g

      module _ (inside : i < length hs) (x : ℕ) (q : x ≡ get_or hs i 0) where
        grown : take (i + 1) hs ≡ take i hs ++ (x ∷ [])
        grown = rw (add-one i, q) (take-suc hs i 0 inside)

        pub added_repeat : elem x (take i hs) ≡ true → Added h hs s₀ s (i + 1)
        added_repeat e = record { inside = omega arith; long = v.long; adds = rw grown (adds_repeat h small (take i hs) x e v.adds) }

        pub added_more : {s₁ : List ℕ} → elem x (take i hs) ≡ false → length s₁ ≡ length s → Makes s s₁ (λ t. TakesParent (at (wtxid h) t)) (change (wtxid h) (with_parent x))
            → Added h hs s₀ s₁ (i + 1)
        added_more e z m = record {
          inside = omega arith;
          long = z ∙ v.long;
          adds = rw grown (adds_more h small (take i hs) x (first i v.inside) (subst FewHashes grown (first (i + 1) (omega arith))) e v.adds m);
        }
