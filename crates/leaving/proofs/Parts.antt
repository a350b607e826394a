-- disconnected, part by part: what a loop over the keys of the connection keeps, from one owned key to the next.
use Prim.Native.Nat.{ℕ, suc, ◌≤◌, ◌<◌}
use mathlib.Core.Path.{◌≡◌, refl, sym, ap, ◌∙◌}
use mathlib.Core.Logic.{inl, inr}
use mathlib.Core.Bool.{Bool, true, false, ◌||◌}
use mathlib.Core.List.{List, [], ◌∷◌, ◌++◌, append_assoc}
use native.Mathlib.Omega.{arith}
use lib.Dec.{ltb, eqb}
use borrow.Author.Tests.{ltb-true, ltb-false, le-ltb, eqb-true, eqb-false, ne_eqb}
use Rattle.ident.specs.Number.{top, Key, place}
use Rattle.machine.specs.Limits.{Limits, word}
use Rattle.machine.specs.State.{Request, Table, owner_is}
use Rattle.machine.specs.Table.{at, has}
use Rattle.machine.specs.Fail.{Listed, nothing}
use Rattle.machine.specs.Leave.{keys_of, drop_at_key, drop_each, sort_keys, disconnected}
use Rattle.machine.specs.Sound.{Ordered, All, Filled, Bounded}
use Rattle.machine.specs.Typed.{Each}
use Rattle.machine.proofs.Tests.{test, by_test, never}
use Rattle.machine.proofs.Change.{bounded-cut}
use Rattle.package_stages.specs.Dead.{filter}
use Rattle.merging.specs.Merges.{Rising}
use Rattle.cutting.specs.Cuts.{between, cut_at, cut_each, cuts}
use Rattle.leaving.specs.Parts.{listed, Unowned, Within, in_parts}
use Rattle.leaving.proofs.Segments.{at_cut-else, rising-keys, listed-keys, part_between, drop_part, listed_below as listed-behind}
use Rattle.leaving.proofs.Newcomers.{fewer-drop}

-- ---- at the start

all_pass : (ks : List Key) → filter (λ k. true) ks ≡ ks
unfolding filter
all_pass [] = refl
all_pass (k ∷ ks) = rw (all_pass ks)

pub rising_all : (n : ℕ) (t : Table) → Ordered 0 t → Rising 0 (keys_of n t)
rising_all n t o = rw (all_pass (keys_of n t)) at (rising-keys n (λ k. true) 0 t o)

pub within_start : (n : ℕ) (t : Table) → Ordered 0 t → Within n 0 (keys_of n t) t
within_start n t o = record { known = λ j s l h. rw (all_pass (keys_of n t), h) at (listed-keys n (λ k. true) 0 t j s o) }

-- ---- lists

pub listed-append : (j : Key) (ks js : List Key) → listed j (ks ++ js) ≡ (listed j ks || listed j js)
unfolding listed
listed-append j [] js = refl
listed-append j (k ∷ ks) js = elim (test (eqb (place k) (place j))) [ inl e ↦ rw e | inr e ↦ rw (e, listed-append j ks js) ]

-- the keys of a part, and those behind it
abbrev pub InPart : Key → Key → List Key → Type 0
InPart a b ks = Each (λ k. (place a ≤ place k) × (place k ≤ place b)) ks

listed_in : (j a b : Key) (ks : List Key) → InPart a b ks → listed j ks ≡ true → (place a ≤ place j) × (place j ≤ place b)
unfolding listed
listed_in j a b [] i h = never h
listed_in j a b (k ∷ ks) i h = elim (test (eqb (place k) (place j))) [
  | inl e ↦ let d = eqb-true (place k) (place j) e in (omega (arith, i.0.0), omega (arith, i.0.1))
  | inr e ↦ listed_in j a b ks i.1 (rw e at h)
]

-- ---- a part is a range

pub part_range : (n lo : ℕ) (a b : Key) (ks js : List Key) (t : Table) → lo ≤ place a → Rising lo ks → InPart a b ks → Rising (suc (place b)) js → Ordered 0 t → All Filled t
    → Within n lo (ks ++ js) t → cut_each n ks t ≡ cuts n (between a b) t
part_range n lo a b ks js t la rise i behind o f w = part_between n lo ks a b t rise o f agree
  where
    in_range : (j : Key) → place a ≤ place j → place j ≤ place b → between a b j ≡ true
    in_range j p q = rw (le-ltb (place j) (place a) p, le-ltb (place b) (place j) q)

    agree : (j : Key) → j.hash < top → has n (at j t).candidates ≡ true → listed j ks ≡ between a b j
    agree j s h = elim (test (ltb (place j) (place a))) [
      | inl e ↦ outside j (λ p q. omega (arith, ltb-true (place j) (place a) e)) ∙ sym (rw e)
      | inr e ↦ elim (test (ltb (place b) (place j))) [
        | inl d ↦ outside j (λ p q. omega (arith, ltb-true (place b) (place j) d)) ∙ sym (rw (e, d))
        | inr d ↦ let p : place a ≤ place j = ltb-false (place j) (place a) e in
            let q : place j ≤ place b = ltb-false (place b) (place j) d in
            let l = w.known j s (omega arith) h in
            let z = listed-behind j (suc (place b)) js behind (omega arith) in
            let y : (listed j ks || false) ≡ true = rw (listed-append j ks js, z) at l in
            plain (listed j ks) y ∙ sym (in_range j p q)
      ]
    ]
      where
        plain : (x : Bool) → (x || false) ≡ true → x ≡ true
        plain true e = refl
        plain false e = e

        outside : (j : Key) → (place a ≤ place j → place j ≤ place b → ⊥) → listed j ks ≡ false
        outside j never-in = elim (test (listed j ks)) [ inl l ↦ let r = listed_in j a b ks i l in absurd (never-in r.0 r.1) | inr l ↦ l ]

-- ---- behind an owned key

listed_past : (j k : Key) (ks : List Key) → Each (λ i. place i < place k) ks → suc (place k) ≤ place j → listed j ks ≡ false
unfolding listed
listed_past j k [] b l = refl
listed_past j k (i ∷ ks) b l = rw (ne_eqb (place i) (place j) (λ e. omega (arith, b.0)), listed_past j k ks b.1 l)

pub each_else : (n : ℕ) (j : Key) (ks : List Key) (t : Table) → listed j ks ≡ false → at j (cut_each n ks t) ≡ at j t
unfolding cut_each listed
each_else n j [] t l = refl
each_else n j (k ∷ ks) t l = elim (test (eqb (place k) (place j))) [
  | inl e ↦ never (sym (rw e at l))
  | inr e ↦ each_else n j ks (cut_at n k t) (rw e at l) ∙ at_cut-else n j k t (λ d. differ e d)
]
  where
    differ : eqb (place k) (place j) ≡ false → place j ≡ place k → ⊥
    differ e d = eqb-false (place k) (place j) e (sym d)

skip_first : (j k : Key) (js : List Key) → eqb (place k) (place j) ≡ false → listed j (k ∷ js) ≡ true → listed j js ≡ true
unfolding listed
skip_first j k js e y = rw e at y

pub within_next : {m : Limits} {Q : ℕ} (n now lo : ℕ) (ks : List Key) (k : Key) (js : List Key) (t : Table) → lo ≤ place k → k.hash < top → now < word → Each (λ i. place i < place k) ks
    → Bounded m Q (cut_each n ks t) → Within n lo (ks ++ (k ∷ js)) t
    → Within n (suc (place k)) js (drop_at_key m n now k (cut_each n ks t)).table
within_next {m} {Q} n now lo ks k js t lk s w before b v = record {
  known = λ j z l h.
      let out = listed_past j k ks before l in
      let h₁ = (fewer-drop n now k s w b).had j z l h in
      let h₂ : has n (at j t).candidates ≡ true = ap (λ (r : Request). has n r.candidates) (sym (each_else n j ks t out)) ∙ h₁ in
      let y : (listed j ks || listed j (k ∷ js)) ≡ true = sym (listed-append j ks (k ∷ js)) ∙ v.known j z (omega arith) h₂ in
      later j l (rw out at y);
}
  where
    later : (j : Key) → suc (place k) ≤ place j → listed j (k ∷ js) ≡ true → listed j js ≡ true
    later j l y = skip_first j k js (ne_eqb (place k) (place j) (λ e. omega arith)) y

pub bounded_each : {m : Limits} {Q : ℕ} {t : Table} (n lo : ℕ) (ks : List Key) → Rising lo ks → Bounded m Q t → Bounded m Q (cut_each n ks t)
unfolding cut_each cut_at
bounded_each n lo [] r b = b
bounded_each {m} {Q} {t} n lo (k ∷ ks) r b = bounded_each {t = cut_at n k t} n (suc (place k)) ks r.2 (by_test (Bounded m Q) (owner_is n (at k t).owner) (λ e. b) (λ e. bounded-cut k n r.1 e b))

-- ---- the whole

pub unowned_more : (n : ℕ) (t : Table) (ks : List Key) (k : Key) → Unowned n t ks → owner_is n (at k t).owner ≡ false → Unowned n t (ks ++ (k ∷ []))
unowned_more n t [] k u e = (e, tt)
unowned_more n t (i ∷ ks) k u e = (u.0, unowned_more n t ks k u.1 e)

pub rising_front : (lo : ℕ) (ks js : List Key) → Rising lo (ks ++ js) → Rising lo ks
rising_front lo [] js r = tt
rising_front lo (k ∷ ks) js r = (r.0, r.1, rising_front (suc (place k)) ks js r.2)

pub rising_back : (lo : ℕ) (ks : List Key) (k : Key) (js : List Key) → Rising lo (ks ++ (k ∷ js)) → Rising (suc (place k)) js
rising_back lo [] k js r = r.2
rising_back lo (i ∷ ks) k js r = rising_back (suc (place i)) ks k js r.2

pub drop_none : (m : Limits) (n now : ℕ) (t : Table) → drop_each m n now [] t ≡ nothing t
unfolding drop_each
drop_none m n now t = refl

abbrev pub joined : Listed → Listed → Listed
joined a x = record { keys = a.keys ++ x.keys; table = x.table }

pub drop_first : (m : Limits) (n now : ℕ) (k : Key) (js : List Key) (t : Table) → drop_each m n now (k ∷ js) t ≡ joined (drop_at_key m n now k t) (drop_each m n now js (drop_at_key m n now k t).table)
unfolding drop_each
drop_first m n now k js t = refl

-- the keys in parts come to the keys one by one
pub parts_same : (m : Limits) (n now lo : ℕ) (ks js : List Key) (t : Table) → Rising lo (ks ++ js) → Unowned n t ks → in_parts m n now ks js t ≡ drop_each m n now (ks ++ js) t
unfolding in_parts
parts_same m n now lo ks [] t r u = sym (drop_part m n now lo ks [] t (rising_front lo ks [] r) u ∙ drop_none m n now (cut_each n ks t))
parts_same m n now lo ks (k ∷ js) t r u =
    let a = drop_at_key m n now k (cut_each n ks t) in
    by_test (λ (x : Listed). x ≡ drop_each m n now (ks ++ (k ∷ js)) t) (owner_is n (at k t).owner)
    (λ e. ap (joined a) (parts_same m n now (suc (place k)) [] js a.table (rising_back lo ks k js r) tt) ∙
    sym (drop_part m n now lo ks (k ∷ js) t (rising_front lo ks (k ∷ js) r) u ∙ drop_first m n now k js (cut_each n ks t)))
    (λ e. let same : (ks ++ (k ∷ [])) ++ js ≡ ks ++ (k ∷ js) = append_assoc ks (k ∷ []) js in
    parts_same m n now lo (ks ++ (k ∷ [])) js t (rw same r) (unowned_more n t ks k u e) ∙ ap (λ (l : List Key). drop_each m n now l t) same)

-- disconnected, as it may be carried out
pub disconnected_in_parts : (m : Limits) (n now : ℕ) (t : Table) → Ordered 0 t → disconnected m n now t ≡ (let a = in_parts m n now [] (keys_of n t) t in
    record { own = keys_of n t; parents = sort_keys a.keys; table = a.table })
unfolding disconnected
disconnected_in_parts m n now t o = ap (λ (a : Listed). record { own = keys_of n t; parents = sort_keys a.keys; table = a.table })
    (sym (parts_same m n now 0 [] (keys_of n t) t (rising_all n t o) tt))
